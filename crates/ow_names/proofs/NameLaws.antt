-- What the first fault of a text means, and that a name has none.
use Rattle.std.proofs.Common.{◌≡◌, ◌≢◌, ℕ, zero, suc, ◌<◌, ◌≤◌, ◌==◌, List, Bool, true, false, not, cond, length, get_or, nat_lt, Option, Some, None, MatchOption, Result, Ok, Err, MatchResult, refl, sym, ap, subst, ◌-◌, ◌∙◌, inl, inr, ◌⊎◌, arith, slice_index, zero-add}
use Rattle.std.specs.List.{enumerate_from, position_or_len, All}
use Rattle.std.specs.Str.{IsUtf8}
use Rattle.std.specs.Result.{result_err}
use Rattle.std.proofs.lemmas.Bool.{cases_lt, not-true, not-false, not_from_true}
use Rattle.std.proofs.lemmas.List.{get_or_default, get_or_past}
use Rattle.std.proofs.lemmas.List.FromFn.{length-enumerate_from, get_or-enumerate_from}
use Rattle.std.proofs.lemmas.List.Quantifiers.{position-Some}
use Rattle.std.proofs.lemmas.List.Sums.{fails_before_first, position_or_len_is}
use Rattle.std.proofs.lemmas.Str.{IsUtf8-from_ascii}
use Rattle.ow_names.specs.Name.{is_later_byte, may_stand, IsName, AreGoodBelow, IsFirstFault, longest_name, wrong_place, place_or_end, first_fault}
use Rattle.ow_names.specs.declared.refusal.NameRefusal.{NameRefusal}
use Rattle.ow_names.specs.declared.refusal.NameRefusal.TheVariants.{Empty, TooLong, EndsInSpace}

abbrev is_wrong : ℕ × ℕ → Bool
is_wrong p = not (may_stand p.0 p.1)

wrong_at : (s : List ℕ) (k : ℕ) → k < length s → is_wrong (get_or (enumerate_from 0 s) k (0, 0)) ≡ not (may_stand k (get_or s k 0))
wrong_at s k lt = ap is_wrong (get_or-enumerate_from 0 s k (0, 0) lt) ∙ ap (λ n. not (may_stand n (get_or s k 0))) (zero-add k)

-- the byte at the wrong place is not allowed there, and each byte before it is allowed
wrong_place-Some : (s : List ℕ) (i : ℕ) → wrong_place s ≡ Some i → (i < length s) × (may_stand i (slice_index s i) ≡ false) × AreGoodBelow i s
wrong_place-Some s i e =
    let h = position-Some is_wrong (enumerate_from 0 s) i (0, 0) e in
    let long : length (enumerate_from 0 s) ≡ length s = length-enumerate_from 0 s in
    let here : i < length s = omega arith in
    (here, not-true _ (sym (wrong_at s i here) ∙ h.1), λ k lt. not-false _ (sym (wrong_at s k (omega arith)) ∙ h.2 k lt))

by_test : (n m : ℕ) (b : Bool) → nat_lt n m ≡ b → cond b (Some n) None ≡ None → m ≤ n
by_test n m true t e = cc
by_test n m false t e = grind arith

wrong_place-None : (s : List ℕ) → wrong_place s ≡ None → AreGoodBelow (length s) s
wrong_place-None s e k lt =
    let long : length (enumerate_from 0 s) ≡ length s = length-enumerate_from 0 s in
    let all : length (enumerate_from 0 s) ≤ position_or_len is_wrong (enumerate_from 0 s) = by_test _ _ _ refl e in
    not-false _ (sym (wrong_at s k lt) ∙ fails_before_first is_wrong (enumerate_from 0 s) k (0, 0) (omega arith))

-- ---- what the first fault means

abbrev Tells : List ℕ → Option NameRefusal → Type 0
Tells s o = MatchOption o (IsName s) (IsFirstFault s)

by_end : (s : List ℕ) (b : Bool) → 1 ≤ length s → length s ≤ longest_name → AreGoodBelow (length s) s → (slice_index s (length s - 1) == 32) ≡ b
    → Tells s (cond b (Some EndsInSpace) None)
by_end s true least most good e = (most, good, grind arith)
by_end s false least most good e = record { least = least; most = most; bytes = good; end = λ q. grind arith }

by_place : (s : List ℕ) (o : Option ℕ) → 1 ≤ length s → length s ≤ longest_name → wrong_place s ≡ o → Tells s (place_or_end o (slice_index s (length s - 1)))
by_place s (Some place) least most e = let h = wrong_place-Some s place e in (most, h.0, h.1, h.2)
by_place s None least most e = by_end s _ least most (wrong_place-None s e) refl

by_most : (s : List ℕ) (b : Bool) → 1 ≤ length s → nat_lt longest_name (length s) ≡ b
    → Tells s (cond b (Some TooLong) (place_or_end (wrong_place s) (slice_index s (length s - 1))))
by_most s true least e = grind arith
by_most s false least e = by_place s _ least (grind arith) refl

by_least : (s : List ℕ) (b : Bool) → (length s == 0) ≡ b
    → Tells s (cond b (Some Empty) (cond (nat_lt longest_name (length s)) (Some TooLong) (place_or_end (wrong_place s) (slice_index s (length s - 1)))))
by_least s true e = grind arith
by_least s false e = by_most s _ (grind arith) refl

-- it is a fault of the text, and there is none before it; where there is none, the text is a name
first_fault-tells : (s : List ℕ) → MatchOption (first_fault s) (IsName s) (IsFirstFault s)
first_fault-tells s = by_least s _ refl

pub name_if_no_fault : (s : List ℕ) → first_fault s ≡ None → IsName s
name_if_no_fault s e = subst (λ o. MatchOption o (IsName s) (IsFirstFault s)) e (first_fault-tells s)

-- where a result reports the first fault, the text is a name or has that fault first
pub told : {A : Type 0} (s : List ℕ) (r : Result A NameRefusal) → result_err r ≡ first_fault s → MatchResult r (λ _. IsName s) (λ e. IsFirstFault s e)
told s (Ok v) e = name_if_no_fault s (sym e)
told s (Err fault) e = subst (λ o. MatchOption o (IsName s) (IsFirstFault s)) (sym e) (first_fault-tells s)

-- ---- a name has no fault

no_place : (n m : ℕ) → n ≡ m → cond (nat_lt n m) (Some n) None ≡ None
no_place n m e = grind arith

no_wrong_place : (s : List ℕ) → AreGoodBelow (length s) s → wrong_place s ≡ None
no_wrong_place s good =
    let long : length (enumerate_from 0 s) ≡ length s = length-enumerate_from 0 s in
    no_place _ _ (position_or_len_is is_wrong (enumerate_from 0 s) (length (enumerate_from 0 s)) (0, 0) (omega arith)
    (λ k lt. let here : k < length s = omega arith in wrong_at s k here ∙ not_from_true _ (good k here))
    (λ lt. absurd (omega arith)))

by_cases : (n last : ℕ) (o : Option ℕ) → 1 ≤ n → n ≤ longest_name → o ≡ None → last ≢ 32 → cond (n == 0) (Some Empty) (cond (nat_lt longest_name n) (Some TooLong) (place_or_end o last)) ≡ None
by_cases n last None least most e end = grind arith
by_cases n last (Some k) least most e end = cc

pub first_fault-name : (s : List ℕ) → IsName s → first_fault s ≡ None
first_fault-name s h = by_cases _ _ _ h.least h.most (no_wrong_place s h.bytes) h.end

-- ---- the bytes of a name

byte_at : (place b : ℕ) → may_stand place b ≡ true → is_later_byte b ≡ true
byte_at zero b h = grind (arith, h)
byte_at (suc place) b h = h

small_byte : (b : ℕ) → is_later_byte b ≡ true → b < 128
small_byte b h = grind arith

no_slash_byte : (b : ℕ) → is_later_byte b ≡ true → (b == 47) ≡ false
no_slash_byte b h = grind arith

at_place : (s : List ℕ) → IsName s → (k : ℕ) → k < length s → is_later_byte (get_or s k 0) ≡ true
at_place s h k lt = byte_at k _ (h.bytes k lt)

small_at : (s : List ℕ) → IsName s → (k : ℕ) → (k < length s) ⊎ (length s ≤ k) → get_or s k 0 < 128
small_at s h k (inl lt) = small_byte _ (at_place s h k lt)
small_at s h k (inr ge) = rw (get_or_past s k 0 ge) (omega arith)

pub IsName-utf8 : (s : List ℕ) → IsName s → IsUtf8 s
IsName-utf8 s h = IsUtf8-from_ascii s (λ k. small_at s h k (cases_lt k (length s)))

-- no name has a slash in it
pub no_slash : (s : List ℕ) → IsName s → All (λ b. (b == 47) ≡ false) s
no_slash s h k d lt = rw (get_or_default s k d 0 lt) (no_slash_byte _ (at_place s h k lt))
