-- The grammar of a cron field: a list of `*`, `*/N`, `A`, `A-B` and `A-B/N`, with commas between them.
use Rattle.std.specs.Prelude.{ℕ, ◌+◌, ◌-◌, ◌*◌, ◌==◌, ◌&&◌, Bool, false, nat_le, nat_lt, length, if◌then◌else◌, List, [], ◌∷◌, map, Option, Some, None, option_map, option_and_then}
use Rattle.std.specs.List.{slice_split, position_or_len, before_first, after_first}
use Rattle.ow_schedule.specs.Steps.{Steps}

abbrev pub is_digit : ℕ → Bool
is_digit b = nat_le 48 b && nat_le b 57

abbrev pub is_first_digit : ℕ → Bool
is_first_digit b = nat_le 49 b && nat_le b 57

-- a number has one or two digits, and no leading zero
abbrev pub number_of : List ℕ → Option ℕ
number_of (a ∷ []) = if is_digit a then Some (a - 48) else None
number_of (a ∷ b ∷ []) = if is_first_digit a && is_digit b then Some ((a - 48) * 10 + (b - 48)) else None
number_of _ = None

abbrev pub is_star : List ℕ → Bool
is_star (b ∷ []) = b == 42
is_star _ = false

abbrev pub when : {X : Type 0} → Bool → X → Option X
when b x = if b then Some x else None

-- the texts before and after the first c
abbrev pub cut_at : ℕ → List ℕ → Option (List ℕ × List ℕ)
cut_at c text = when (nat_lt (position_or_len (λ b. b == c) text) (length text)) (before_first (λ b. b == c) text, after_first (λ b. b == c) text)

-- A-B
abbrev pub ends_of : ℕ → ℕ → Option (List ℕ × List ℕ) → Option (ℕ × ℕ)
ends_of low high None = None
ends_of low high (Some ends) = option_and_then (λ first. option_and_then (λ last. when (nat_le low first && nat_le first last && nat_le last high) (first, last)) (number_of ends.1)) (number_of ends.0)

-- `*` or A-B
abbrev pub range_of : ℕ → ℕ → List ℕ → Option (ℕ × ℕ)
range_of low high text = if is_star text then Some (low, high) else ends_of low high (cut_at 45 text)

-- A
abbrev pub single_of : ℕ → ℕ → List ℕ → Option (ℕ × ℕ)
single_of low high text = option_and_then (λ n. when (nat_le low n && nat_le n high) (n, n)) (number_of text)

-- N
abbrev pub step_of : List ℕ → Option ℕ
step_of text = option_and_then (λ n. when (nat_le 1 n && nat_le n 59) n) (number_of text)

abbrev pub in_steps : ℕ → (ℕ × ℕ) → Steps
in_steps step range = record { first = range.0; last = range.1; step = step }

abbrev pub or_else : {X : Type 0} → Option X → Option X → Option X
or_else None other = other
or_else (Some x) other = Some x

-- a range or a number, or a range, a slash and a step
abbrev pub span_of_parts : ℕ → ℕ → List ℕ → Option (List ℕ × List ℕ) → Option Steps
span_of_parts low high text None = option_map (in_steps 1) (or_else (range_of low high text) (single_of low high text))
span_of_parts low high text (Some parts) = option_and_then (λ r. option_map (λ n. in_steps n r) (step_of parts.1)) (range_of low high parts.0)

abbrev pub span_of : ℕ → ℕ → List ℕ → Option Steps
span_of low high text = span_of_parts low high text (cut_at 47 text)

-- all of them, where each is there
abbrev pub all_of : {X : Type 0} → List (Option X) → Option (List X)
all_of [] = Some []
all_of (None ∷ xs) = None
all_of (Some x ∷ xs) = option_map (λ more. x ∷ more) (all_of xs)

-- the spans of a field of numbers from low to high, where the text is one
abbrev pub field_of : ℕ → ℕ → List ℕ → Option (List Steps)
field_of low high text = all_of (map (span_of low high) (slice_split (λ b. b == 44) text))
