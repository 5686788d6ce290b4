use Rattle.ow_http.specs.Table.{office_routes}
use Rattle.ow_http.proofs.routes.office_router.Goals as goal

pub returns : goal.returns
unfolding office_routes
returns c = cc (c.new-router.ensures, c.in_ok-add_lists.ensures, c.in_ok-add_entities.ensures, c.in_ok-add_activations.ensures, c.in_ok-add_web_actions.ensures)
