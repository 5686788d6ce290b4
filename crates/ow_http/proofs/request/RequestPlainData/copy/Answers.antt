use Rattle.ow_http.proofs.RequestLaws.{equal}
use Rattle.ow_http.proofs.request.RequestPlainData.copy.Goals as goal

pub returns : goal.returns
returns c = equal c.made_of_parts.result c.args.self.now c.made_of_parts.ensures
