-- Why a read isn't answered, and any request that isn't granted.
use Rattle.ow_http.specs.declared.http_refusal.HttpRefusal.TheVariants as https
use Rattle.ow_http.specs.declared.reason.Reason.{Reason}
use Rattle.ow_http.specs.declared.reason.Reason.TheVariants.{Http, Service}
use Rattle.ow_http.specs.declared.service_refusal.ServiceRefusal.TheVariants as services

-- there is no such entity
abbrev pub not_found : Reason
not_found = Service services.NotFound

-- the namespace isn't granted
abbrev pub not_granted : Reason
not_granted = Service services.NotGranted

-- the table doesn't have the key
abbrev pub unknown_key : Reason
unknown_key = Service services.UnknownKey

-- there is no such route
abbrev pub no_route : Reason
no_route = Http https.NoRoute
