use Rattle.std.proofs.Common.{◌≡◌, Result, Ok, Err, OnOk}
use Rattle.matchit.specs.Rows.{RowsOf}
use Rattle.matchit.specs.Route.{Scan}
use Rattle.matchit.specs.Router.{RouteOf, InsertsRead}
use Rattle.matchit.specs.declared.error.InsertError.{InsertError}
use Rattle.ow_http.specs.declared.place.Place.{Place}
use Rattle.ow_http.specs.Table.{with_read, with_route}
use Rattle.ow_http.proofs.routes.add.Goals as goal

added : (x : Result Scan InsertError) (v : Place) (old new : RowsOf (RouteOf Place)) (r : Result (Unit {0}) InsertError)
    → InsertsRead x v old new r → OnOk r (new ≡ with_read x v old)
added (Ok s) v old new (Ok u) h = h.1
added (Err e) v old new (Ok u) h = h.0
added x v old new (Err e) h = tt

pub returns : goal.returns
unfolding with_route
returns c = added _ _ _ _ _ c.insert.ensures
