use Rattle.ow_http.proofs.ReadLaws.{read_so}
use Rattle.ow_http.proofs.routes.Routes.read.Goals as goal

pub returns : goal.returns
returns c = read_so c.args.bytes.now c.read_as_judged.result c.read_as_judged.ensures.judged c.read_as_judged.ensures.whole c.read_as_judged.ensures.headless
