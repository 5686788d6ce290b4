-- The routes, and what a path names.
use Rattle.std.specs.Prelude.{ℕ, List, [], codes, Option, option_map, Result, Ok, Err}
use Rattle.matchit.specs.Rows.{RowsOf}
use Rattle.matchit.specs.Route.{parse_route, Scan}
use Rattle.matchit.specs.Router.{RouteOf, route_from}
use Rattle.matchit.specs.Order.{placed}
use Rattle.matchit.specs.Seek.{first}
use Rattle.matchit.specs.declared.error.InsertError.{InsertError}
use Rattle.ow_entity.specs.declared.kinds.EntityKind.TheVariants.{Action, Package, Rule, Trigger}
use Rattle.ow_http.specs.declared.route.Part.TheVariants.{Whole, Response, Logs}
use Rattle.ow_http.specs.declared.place.Place.{Place}
use Rattle.ow_http.specs.declared.place.Place.TheVariants as place

-- the routes with one more
abbrev pub with_read : Result Scan InsertError → Place → RowsOf (RouteOf Place) → RowsOf (RouteOf Place)
with_read (Ok s) value rows = placed (s.pattern, route_from s value) rows
with_read (Err e) value rows = rows

unfoldable pub with_route : List ℕ → Place → RowsOf (RouteOf Place) → RowsOf (RouteOf Place)
with_route text value rows = with_read (parse_route text) value rows

unfoldable pub with_lists : RowsOf (RouteOf Place) → RowsOf (RouteOf Place)
with_lists rows =
    with_route (codes "/api/v1/namespaces/{namespace}/triggers") (place.List Trigger)
    (with_route (codes "/api/v1/namespaces/{namespace}/rules") (place.List Rule)
    (with_route (codes "/api/v1/namespaces/{namespace}/packages") (place.List Package)
    (with_route (codes "/api/v1/namespaces/{namespace}/actions") (place.List Action)
    (with_route (codes "/api/v1/namespaces") place.Namespaces
    rows))))

unfoldable pub with_entities : RowsOf (RouteOf Place) → RowsOf (RouteOf Place)
with_entities rows =
    with_route (codes "/api/v1/namespaces/{namespace}/actions/{package}/{name}") place.Packaged
    (with_route (codes "/api/v1/namespaces/{namespace}/triggers/{name}") (place.Entity Trigger)
    (with_route (codes "/api/v1/namespaces/{namespace}/rules/{name}") (place.Entity Rule)
    (with_route (codes "/api/v1/namespaces/{namespace}/packages/{name}") (place.Entity Package)
    (with_route (codes "/api/v1/namespaces/{namespace}/actions/{name}") (place.Entity Action)
    rows))))

unfoldable pub with_activations : RowsOf (RouteOf Place) → RowsOf (RouteOf Place)
with_activations rows =
    with_route (codes "/api/v1/namespaces/{namespace}/activations/{id}/logs") (place.Activation Logs)
    (with_route (codes "/api/v1/namespaces/{namespace}/activations/{id}/result") (place.Activation Response)
    (with_route (codes "/api/v1/namespaces/{namespace}/activations/{id}") (place.Activation Whole)
    (with_route (codes "/api/v1/namespaces/{namespace}/activations") place.Activations
    rows)))

unfoldable pub with_web_actions : RowsOf (RouteOf Place) → RowsOf (RouteOf Place)
with_web_actions rows =
    with_route (codes "/api/v1/web/{namespace}/{package}/{name}/{*rest}") place.WebRest
    (with_route (codes "/api/v1/web/{namespace}/{package}/{name}") place.Web
    rows)

-- the routes of the service
unfoldable pub office_routes : RowsOf (RouteOf Place)
office_routes = with_web_actions (with_activations (with_entities (with_lists [])))

-- what a path names, as the routes find it, for lemmas
unfoldable pub found_of : List ℕ → Option Place
found_of path = option_map (λ r. r.value) (first office_routes path)
