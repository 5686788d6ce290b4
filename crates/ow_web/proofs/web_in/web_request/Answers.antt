use Rattle.ow_http.specs.Request.{parts_of}
use Rattle.ow_web.proofs.OfRequest.{answered_of_request}
use Rattle.ow_web.proofs.web_in.web_request.Goals as goal

pub returns-clause-of_request : goal.returns-clause-of_request
returns-clause-of_request c = answered_of_request (parts_of c.args.request.now) c.args.e.now c.args.known c.params_given.result c.params_given.ensures
