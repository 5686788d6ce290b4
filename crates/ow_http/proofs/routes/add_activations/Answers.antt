use Rattle.ow_http.specs.Table.{with_activations}
use Rattle.ow_http.proofs.routes.add_activations.Goals as goal

pub returns : goal.returns
unfolding with_activations
returns c = cc (c.in_ok-add.ensures, c.in_ok-add-2.ensures, c.in_ok-add-3.ensures, c.in_ok-add-4.ensures)
