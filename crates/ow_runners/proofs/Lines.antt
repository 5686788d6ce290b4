-- The lines of bytes, one after another.
use Rattle.std.proofs.Common.{◌≡◌, ◌<◌, ◌+◌, ℕ, suc, Bool, true, false, List, [], ◌∷◌, Option, Some, None, length, take, drop, refl, sym, ap, ◌∙◌, arith, cond, nat_lt, position}
use Rattle.std.specs.Option.{option_map}
use Rattle.std.proofs.lemmas.Bool.Decides.{nat_tests}
use Rattle.ow_runners.specs.Program.{is_newline, lines_in, with_byte}

lt_suc : (k n : ℕ) → nat_lt (1 + k) (suc n) ≡ nat_lt k n
lt_suc k n = grind (arith, nat_tests)

lt_zero : (n : ℕ) → nat_lt 0 (suc n) ≡ true
lt_zero n = grind (arith, nat_tests)

behind : (k n : ℕ) (t : Bool) → nat_lt k n ≡ t → ◌≡◌ {A = Option ℕ} (cond (nat_lt (1 + k) (suc n)) (Some (1 + k)) None) (option_map suc (cond (nat_lt k n) (Some k) None))
behind k n true is = rw (lt_suc k n, is) (ap Some (omega arith))
behind k n false is = rw (lt_suc k n, is) refl

-- an element that doesn't pass, put before a list, moves the first place that passes by one
pub position-cons_fails : (p : ℕ → Bool) (x : ℕ) (xs : List ℕ) → p x ≡ false → position p (x ∷ xs) ≡ option_map suc (position p xs)
position-cons_fails p x xs fails = rw fails (behind _ (length xs) _ refl)

pub position-cons_passes : (p : ℕ → Bool) (x : ℕ) (xs : List ℕ) → p x ≡ true → position p (x ∷ xs) ≡ Some 0
position-cons_passes p x xs passes = rw (passes, lt_zero (length xs)) refl

pub none_of : (o : Option ℕ) → option_map suc o ≡ None → o ≡ None
none_of None is = refl
none_of (Some k) is = cc

line_later : (b : ℕ) (bs : List ℕ) (i : ℕ) (o : Option ℕ) → position is_newline bs ≡ o → is_newline b ≡ false → option_map suc o ≡ Some i
    → ((j : ℕ) → position is_newline bs ≡ Some j → lines_in bs ≡ take j bs ∷ lines_in (drop (suc j) bs))
    → lines_in (b ∷ bs) ≡ take i (b ∷ bs) ∷ lines_in (drop (suc i) (b ∷ bs))
line_later b bs i None none later at rest = cc
line_later b bs i (Some j) some later at rest = let e : suc j ≡ i = cc in rw (← e, later) (ap (with_byte b) (rest j some))

line_by : (b : ℕ) (bs : List ℕ) (i : ℕ) (t : Bool) → is_newline b ≡ t → position is_newline (b ∷ bs) ≡ Some i
    → ((j : ℕ) → position is_newline bs ≡ Some j → lines_in bs ≡ take j bs ∷ lines_in (drop (suc j) bs))
    → lines_in (b ∷ bs) ≡ take i (b ∷ bs) ∷ lines_in (drop (suc i) (b ∷ bs))
line_by b bs i true here at rest =
    let h : ◌≡◌ {A = Option ℕ} (Some 0) (Some i) = sym (position-cons_passes is_newline b bs here) ∙ at in
    let e : 0 ≡ i = cc in
    rw (← e, here) refl
line_by b bs i false later at rest = line_later b bs i (position is_newline bs) refl later (sym (position-cons_fails is_newline b bs later) ∙ at) rest

-- the first line is what is before the first newline, and the other lines are those of the bytes after it
pub lines_at : (bs : List ℕ) (i : ℕ) → position is_newline bs ≡ Some i → lines_in bs ≡ take i bs ∷ lines_in (drop (suc i) bs)
lines_at [] i at = cc
lines_at (b ∷ bs) i at = line_by b bs i _ refl at (lines_at bs)

-- where there is no newline, all is one line
abbrev whole : List ℕ → List (List ℕ)
whole [] = []
whole (b ∷ bs) = (b ∷ bs) ∷ []

whole_more : (b : ℕ) (bs : List ℕ) → with_byte b (whole bs) ≡ (b ∷ bs) ∷ []
whole_more b [] = refl
whole_more b (c ∷ bs) = refl

whole_front : (b : ℕ) (bs : List ℕ) (t : Bool) → is_newline b ≡ t → position is_newline (b ∷ bs) ≡ None
    → (position is_newline bs ≡ None → lines_in bs ≡ whole bs) → lines_in (b ∷ bs) ≡ whole (b ∷ bs)
whole_front b bs true here none rest = let h = sym (position-cons_passes is_newline b bs here) ∙ none in cc
whole_front b bs false later none rest = rw later (ap (with_byte b) (rest (none_of _ (sym (position-cons_fails is_newline b bs later) ∙ none))) ∙ whole_more b bs)

whole_by : (bs : List ℕ) → position is_newline bs ≡ None → lines_in bs ≡ whole bs
whole_by [] none = refl
whole_by (b ∷ bs) none = whole_front b bs _ refl none (whole_by bs)

pub one_line : (bs : List ℕ) → position is_newline bs ≡ None → 0 < length bs → lines_in bs ≡ bs ∷ []
one_line [] none some = absurd (omega (arith, some))
one_line (b ∷ bs) none some = whole_by (b ∷ bs) none
