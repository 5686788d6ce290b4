-- The parts of a request.
use Rattle.std.specs.Prelude.{ℕ, List, Bool, Option}
use Rattle.ow_http.specs.declared.route.Route.{Route}
use Rattle.ow_http.specs.declared.verb.Verb.{Verb}
use Rattle.ow_http.specs.Pair.{Pair}

pub record Parts : Type 0 where
  pub route : Route
  pub method : Verb
  pub key : Option (List ℕ)
  pub query : List Pair
  pub raw_query : List ℕ
  pub headers : List Pair
  pub body : List ℕ
  pub size : ℕ
  pub close : Bool
