-- A text that is read up to one depth, read up to a greater one.
use Rattle.std.proofs.Common.{◌≡◌, ◌≢◌, ℕ, List, Bool, true, false, cond, Option, Some, None, Result, Ok, Err, refl, ap, ◌∙◌, nat_le, arith}
use Rattle.ow_value.specs.Value.{V, depth}
use Rattle.ow_value.specs.Nesting.{most_nested, most_nested_record}
use Rattle.ow_value.specs.Read.{json_of, reading, whole_of}
use Rattle.ow_value.specs.declared.reader.ValueRefusal.{ValueRefusal}
use Rattle.ow_value.specs.declared.reader.ValueRefusal.TheVariants.{NotJson, NotWhole, TooDeep}
use Rattle.std.specs.Result.{result_ok}
use Rattle.ow_keep.specs.ItemIn.{deep_value_of}

abbrev pub whole_within : ℕ → Option V → Result V ValueRefusal
whole_within limit None = Err NotWhole
whole_within limit (Some v) = cond (nat_le (depth v) limit) (Ok v) (Err TooDeep)

le_more : (n : ℕ) → nat_le n most_nested ≡ true → nat_le n most_nested_record ≡ true
le_more n h = grind arith

whole_deeper : (o : Option V) (v : V) → whole_within most_nested o ≡ Ok v → whole_within most_nested_record o ≡ Ok v
whole_deeper None v e = let f : ⊥ = cc in absurd f
whole_deeper (Some w) v e = by_test (nat_le (depth w) most_nested) refl e
  where
    by_test : (b : Bool) → nat_le (depth w) most_nested ≡ b → cond b (Ok w) (Err TooDeep) ≡ Ok v → cond (nat_le (depth w) most_nested_record) (Ok w) (Err TooDeep) ≡ Ok v
    by_test true t e = ap (λ b. cond b (Ok w) (Err TooDeep)) (le_more (depth w) t) ∙ e
    by_test false t e = let f : ⊥ = cc in absurd f

whole_no_deeper : (o : Option V) (x : ValueRefusal) → x ≢ TooDeep → whole_within most_nested o ≡ Err x → result_ok (whole_within most_nested_record o) ≡ None
whole_no_deeper None x n e = refl
whole_no_deeper (Some w) x n e = by_test (nat_le (depth w) most_nested) e
  where
    by_test : (b : Bool) → cond b (Ok w) (Err TooDeep) ≡ Err x → result_ok (cond (nat_le (depth w) most_nested_record) (Ok w) (Err TooDeep)) ≡ None
    by_test true e = let f : ⊥ = cc in absurd f
    by_test false e = let same : x ≡ TooDeep = cc in absurd (n same)

-- ---- of what was parsed, whatever that is

module _ {D : Type 0} (value : D → Option V) where
  abbrev pub of_data : ℕ → Option D → Result V ValueRefusal
  of_data limit None = Err NotJson
  of_data limit (Some d) = whole_within limit (value d)

  data_deeper : (o : Option D) (v : V) → of_data most_nested o ≡ Ok v → of_data most_nested_record o ≡ Ok v
  data_deeper None v e = let f : ⊥ = cc in absurd f
  data_deeper (Some d) v e = whole_deeper (value d) v e

  data_no_deeper : (o : Option D) (x : ValueRefusal) → x ≢ TooDeep → of_data most_nested o ≡ Err x → result_ok (of_data most_nested_record o) ≡ None
  data_no_deeper None x n e = refl
  data_no_deeper (Some d) x n e = whole_no_deeper (value d) x n e

-- ---- of a text

pub deeper : (s : List ℕ) (v : V) → reading most_nested s ≡ Ok v → deep_value_of s ≡ Some v
deeper s v e = ap result_ok (data_deeper whole_of (json_of s) v e)

pub no_deeper : (s : List ℕ) (x : ValueRefusal) → x ≢ TooDeep → reading most_nested s ≡ Err x → deep_value_of s ≡ None
no_deeper s x n e = data_no_deeper whole_of (json_of s) x n e
