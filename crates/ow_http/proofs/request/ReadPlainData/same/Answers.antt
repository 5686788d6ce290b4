use Rattle.std.proofs.Common.{IsTrue}
use Rattle.ow_http.proofs.RequestLaws.{read_alike}
use Rattle.ow_http.proofs.request.ReadPlainData.same.Goals as goal

pub returns : goal.returns
returns c = read_alike (IsTrue c.same.result) c.args.self.now c.args.other.now c.same.ensures
