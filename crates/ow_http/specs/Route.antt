-- For private clauses: which routes there are.
use Rattle.std.specs.Prelude.{Bool, true, false, Some, None}
use Rattle.ow_entity.specs.declared.kinds.EntityKind.TheVariants.{Action}
use Rattle.ow_http.specs.declared.route.Route.{Route}
use Rattle.ow_http.specs.declared.route.Route.TheVariants as route

-- only an action is in a package
abbrev pub is_whole : Route → Bool
is_whole (route.Entity namespace Action inside name) = true
is_whole (route.Entity namespace kind None name) = true
is_whole (route.Entity namespace kind (Some p) name) = false
is_whole other = true
