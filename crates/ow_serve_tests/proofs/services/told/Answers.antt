use denote.Param.Send.{sendable}
use Rattle.std.proofs.Crossing.{crosses}
use Rattle.ow_runners.proofs.Container.{container_send}
use Rattle.ow_serve_tests.proofs.services.told.Goals as goal

pub serve-served-requires-send-R-Container : goal.serve-served-requires-send-R-Container
serve-served-requires-send-R-Container g c κs within = search (sendable, crosses, container_send) depth 50 fits 20000
