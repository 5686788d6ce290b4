-- Reading the form of plain code.
use Rattle.std.proofs.Common.{◌≡◌, ◌==◌, ◌≢◌, ℕ, cond, length, Result, Ok, ap, ◌∙◌, arith}
use Rattle.ow_value.specs.Value.{Pairs, object, members_of}
use Rattle.ow_value.specs.Field.{pairs_in-members_of}
use Rattle.ow_entity.specs.PlainCode.{name_count}

pub name_count_of_object : (ps : Pairs) → name_count (object (members_of ps)) ≡ length ps
name_count_of_object ps = ap length (pairs_in-members_of ps)

-- what is read of an object that has members
pub unless_empty : {A E : Type 0} (none : A) (ps : Pairs) (r : Result A E) → length ps ≢ 0 → cond (name_count (object (members_of ps)) == 0) (Ok none) r ≡ r
unless_empty none ps r h = ap (λ n. cond (n == 0) (Ok none) r) (name_count_of_object ps) ∙ by_count (length ps) (Ok none) r h
  where
    by_count : {X : Type 0} (n : ℕ) (x r : X) → n ≢ 0 → cond (n == 0) x r ≡ r
    by_count n x r h = grind arith
