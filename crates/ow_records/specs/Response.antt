-- What an activation answers.
use Rattle.std.specs.Prelude.{ℕ, List, refl}
use Rattle.std.specs.Coded.{Coded, code_by, coded×, coded_list, coded_ℕ}
use Rattle.ow_value.specs.Value.{V}
use Rattle.ow_value.specs.Code.{value_code}

-- a code, and the members of an object
pub record ResponseView : Type 0 where
  pub code : ℕ
  pub result : List (List ℕ × V)

-- a response is stored as the pair of its parts
abbrev pub response_code : Coded ResponseView
response_code =
    code_by (ℕ × List (List ℕ × V)) (coded× coded_ℕ (coded_list (coded× (coded_list coded_ℕ) value_code))) (λ r. (r.code, r.result)) (λ p. record { code = p.0; result = p.1 }) (λ _. refl)
