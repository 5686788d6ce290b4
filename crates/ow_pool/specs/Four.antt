-- For private clauses: the first four of the candidates.
use Rattle.std.specs.Prelude.{◌+◌, ◌-◌, ℕ, List, [], ◌∷◌, ◌++◌, Option, Some, None, if◌then◌else◌, nat_le}
use Rattle.ow_pool.specs.declared.candidates.Candidate.{Candidate}
use Rattle.ow_pool.specs.declared.four.Four.{Four}
use Rattle.ow_pool.specs.Candidates.{is_before}

-- the first four of a list
abbrev pub items_by : Option Candidate → Option Candidate → Option Candidate → Option Candidate → List Candidate
items_by None b c d = []
items_by (Some a) None c d = a ∷ []
items_by (Some a) (Some b) None d = a ∷ b ∷ []
items_by (Some a) (Some b) (Some c) None = a ∷ b ∷ c ∷ []
items_by (Some a) (Some b) (Some c) (Some d) = a ∷ b ∷ c ∷ d ∷ []

abbrev pub items : Four → List Candidate
items f = items_by f.first f.second f.third f.fourth

-- no gap
abbrev pub FilledBy : Option Candidate → Option Candidate → Option Candidate → Option Candidate → Type 0
FilledBy None None None None = Unit {0}
FilledBy (Some a) None None None = Unit {0}
FilledBy (Some a) (Some b) None None = Unit {0}
FilledBy (Some a) (Some b) (Some c) d = Unit {0}
FilledBy a b c d = ⊥

abbrev pub IsFilled : Four → Type 0
IsFilled f = FilledBy f.first f.second f.third f.fourth

abbrev pub put_fourth : Candidate → Candidate → Candidate → Candidate → Option Candidate → Four
put_fourth x a b c None = record { first = Some a; second = Some b; third = Some c; fourth = Some x }
put_fourth x a b c (Some d) = record { first = Some a; second = Some b; third = Some c; fourth = Some (if is_before d x then d else x) }

abbrev pub put_third : Candidate → Candidate → Candidate → Option Candidate → Option Candidate → Four
put_third x a b None d = record { first = Some a; second = Some b; third = Some x; fourth = None }
put_third x a b (Some c) d = if is_before c x then put_fourth x a b c d else record { first = Some a; second = Some b; third = Some x; fourth = Some c }

abbrev pub put_second : Candidate → Candidate → Option Candidate → Option Candidate → Option Candidate → Four
put_second x a None c d = record { first = Some a; second = Some x; third = None; fourth = None }
put_second x a (Some b) c d = if is_before b x then put_third x a b c d else record { first = Some a; second = Some x; third = Some b; fourth = c }

abbrev pub put_first : Candidate → Option Candidate → Option Candidate → Option Candidate → Option Candidate → Four
put_first x None b c d = record { first = Some x; second = None; third = None; fourth = None }
put_first x (Some a) b c d = if is_before a x then put_second x a b c d else record { first = Some x; second = Some a; third = b; fourth = c }

abbrev pub put_in : Candidate → Four → Four
put_in x f = put_first x f.first f.second f.third f.fourth

-- the shortest beginning that leaves room, by what the slots hold that aren't closing
abbrev pub freeing : ℕ → ℕ → ℕ → List Candidate → List Candidate → Option (List Candidate)
freeing rest memory pool done [] = None
freeing rest memory pool done (c ∷ left) =
    if nat_le (rest - c.memory + memory) pool then Some (done ++ c ∷ []) else freeing (rest - c.memory) memory pool (done ++ c ∷ []) left
