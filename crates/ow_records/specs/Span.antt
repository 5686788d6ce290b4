-- From the start to the end.
use Rattle.std.specs.Prelude.{ℕ, refl}
use Rattle.std.specs.Coded.{Coded, code_by, coded×, coded_ℕ}

-- two moments, in milliseconds
pub record SpanView : Type 0 where
  pub start : ℕ
  pub end : ℕ

-- a span is stored as the pair of its moments
abbrev pub span_code : Coded SpanView
span_code =
    code_by (ℕ × ℕ) (coded× coded_ℕ coded_ℕ) (λ s. (s.start, s.end)) (λ p. record { start = p.0; end = p.1 }) (λ _. refl)
