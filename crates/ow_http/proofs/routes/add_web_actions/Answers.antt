use Rattle.ow_http.specs.Table.{with_web_actions}
use Rattle.ow_http.proofs.routes.add_web_actions.Goals as goal

pub returns : goal.returns
unfolding with_web_actions
returns c = cc (c.in_ok-add.ensures, c.in_ok-add-2.ensures)
