use Rattle.ow_floor.specs.View.{is_in}
use Rattle.ow_floor.proofs.Finding.{place_of}
use Rattle.ow_floor.proofs.places.namespace_place.Goals as goal

pub returns : goal.returns
returns c = place_of (is_in c.args.namespace) c.args.ids.now c.namespace_position.result c.namespace_position.ensures
