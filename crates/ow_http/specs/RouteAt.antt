-- The route of a path that names a place.
use Rattle.std.specs.Prelude.{ℕ, List, [], Some, None}
use Rattle.std.specs.Str.Lossy.{utf8_lossy}
use Rattle.percent_encoding.specs.Percent.{percent_decode}
use Rattle.ow_entity.specs.declared.kinds.EntityKind.TheVariants.{Action}
use Rattle.ow_http.specs.declared.place.Place.{Place}
use Rattle.ow_http.specs.declared.place.Place.TheVariants as place
use Rattle.ow_http.specs.declared.route.Route.{Route}
use Rattle.ow_http.specs.declared.route.Route.TheVariants as route
use Rattle.ow_http.specs.Segment.{part_at, after_slashes}

abbrev pub web_route : List ℕ → List ℕ → Route
web_route path rest = route.Web (part_at 4 path) (part_at 5 path) (part_at 6 path) rest

abbrev pub route_at : Place → List ℕ → Route
route_at place.Namespaces path = route.Namespaces
route_at (place.List kind) path = route.List (part_at 4 path) kind
route_at (place.Entity kind) path = route.Entity (part_at 4 path) kind None (part_at 6 path)
route_at place.Packaged path = route.Entity (part_at 4 path) Action (Some (part_at 6 path)) (part_at 7 path)
route_at place.Activations path = route.Activations (part_at 4 path)
route_at (place.Activation part) path = route.Activation (part_at 4 path) (part_at 6 path) part
route_at place.Web path = web_route path []
route_at place.WebRest path = web_route path (utf8_lossy (percent_decode (after_slashes 7 path)))
