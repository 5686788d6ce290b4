-- A request that has an act isn't a web request.
use Rattle.std.proofs.Common.{◌≡◌, Bool, false, if◌then◌else◌, Some, refl, ap}
use Rattle.ow_http.specs.Parts.{Parts}
use Rattle.ow_http.specs.declared.route.Route.{Route}
use Rattle.ow_http.specs.declared.route.Route.TheVariants as route
use Rattle.ow_http.specs.declared.verb.Verb.{Verb}
use Rattle.ow_web.specs.Target.{is_web}
use Rattle.ow_reads.specs.Acts.{act_of}
use Rattle.ow_reads.specs.declared.acts.Act.{Act}
use Rattle.ow_decide.specs.Asking.{keyed_done, request_done, web_done}
use Rattle.ow_decide.specs.Sight.{Sight}

acts_keyed : (r : Route) (method : Verb) (act : Act) → act_of r method ≡ Some act → is_web r ≡ false
acts_keyed (route.Web namespace inside name rest) method act is = cc
acts_keyed r method act is = refl

-- the outcome of a request that has an act is that of a request with a key
pub keyed_so : (S : Sight) (p : Parts) (act : Act) → act_of p.route p.method ≡ Some act → request_done S p ≡ keyed_done S p
keyed_so S p act is = ap (λ (b : Bool). if b then web_done S p else keyed_done S p) (acts_keyed p.route p.method act is)
