use Rattle.std.proofs.Common.{IsTrue}
use Rattle.ow_http.proofs.RequestLaws.{alike}
use Rattle.ow_http.proofs.request.RequestPlainData.same.Goals as goal

pub returns : goal.returns
returns c = alike (IsTrue c.has_parts_of.result) c.args.self.now c.args.other.now c.has_parts_of.ensures
