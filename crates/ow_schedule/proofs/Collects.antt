-- Spans, taken one by one.
use Rattle.std.proofs.Common.{◌≡◌, ◌==◌, ℕ, ◌+◌, List, [], ◌∷◌, ◌++◌, length, refl, sym, ap, append_assoc, map, Option, Some, None, Bor}
use Rattle.std.specs.Prelude.{option_map}
use Rattle.std.specs.Option.{option_map_or}
use Rattle.std.specs.List.{slice_split}
use Rattle.ow_schedule.specs.declared.span.Span.{Span}
use Rattle.ow_schedule.specs.Fields.{Steps, seen}
use Rattle.ow_schedule.specs.Grammar.{all_of, span_of}

-- the pieces of what is left
abbrev pub pieces : Option (Bor (List ℕ)) → List (List ℕ)
pieces left = option_map_or (λ rest. slice_split (λ b. b == 44) rest.now) left []

abbrev pub left_over : Option (Bor (List ℕ)) → ℕ
left_over None = 0
left_over (Some rest) = length rest.now + 1

abbrev pub spans_of : ℕ → ℕ → List (List ℕ) → Option (List Steps)
spans_of low high parts = all_of (map (span_of low high) parts)

-- the spans that were read, followed by the others
abbrev pub after_read : List Steps → Option (List Steps) → Option (List Steps)
after_read read more = option_map (λ rest. read ++ rest) more

pub after-push : (read : List Steps) (s : Steps) (more : Option (List Steps))
    → after_read read (option_map (λ rest. s ∷ rest) more) ≡ after_read (read ++ s ∷ []) more
after-push read s None = refl
after-push read s (Some rest) = ap Some (sym (append_assoc read (s ∷ []) rest))

pub map-push : (spans : List Span) (s : Span) → map seen (spans ++ s ∷ []) ≡ map seen spans ++ seen s ∷ []
map-push [] s = refl
map-push (x ∷ spans) s = ap (λ rest. seen x ∷ rest) (map-push spans s)

-- one piece more
pub reads_one : (low high : ℕ) (read : List Steps) (s : Steps) (left piece : List ℕ) (parts : List (List ℕ))
    → slice_split (λ b. b == 44) left ≡ piece ∷ parts → Some s ≡ span_of low high piece
    → after_read read (spans_of low high (slice_split (λ b. b == 44) left)) ≡ after_read (read ++ s ∷ []) (spans_of low high parts)
reads_one low high read s left piece parts split is =
    rw (split, ← is) (after-push read s (spans_of low high parts))
