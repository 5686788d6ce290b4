-- What may go from one thread to another: the routes by which requests are read.
use denote.Param.Send.{IsSend, IsSync, sendable}
use Rattle.std.proofs.Crossing.{crosses}
use Rattle.matchit.specs.contracts.tree.Node as Node
use Rattle.matchit.proofs.tree.Node.TheLaws.TheKnot.{both_send-Node, both_sync-Node}
use Rattle.ow_http.specs.contracts.routes.Routes as Routes

-- A node holds lists of nodes.
node_send : IsSend Node.the_row
node_send = search (both_send-Node, sendable, crosses) depth 50 fits 20000

node_sync : IsSync Node.the_row
node_sync = search (both_sync-Node, sendable, crosses) depth 50 fits 20000

pub routes_send : IsSend (Routes.the_field).row
routes_send = search (sendable, crosses, node_send) depth 50 fits 20000

pub routes_sync : IsSync (Routes.the_field).row
routes_sync = search (sendable, crosses, node_sync) depth 50 fits 20000
