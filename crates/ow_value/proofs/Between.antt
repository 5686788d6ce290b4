-- In a list that parts at a key, the items with the key are adjacent: from the first that a search finds to the last that it finds.
use Rattle.std.proofs.Common.{◌≡◌, ℕ, zero, suc, ◌<◌, Bool, true, false, cond, min, List, [], ◌∷◌, length, filter, get_or, take, drop, Ordering, Less, Equal, Greater, is_eq, is_lt, refl, sym, ap, ◌∙◌, subst, arith}
use Rattle.std.specs.List.Sorted.{IsPartitionPoint}
use Rattle.std.specs.Ordering.{is_le}
use Rattle.std.specs.Str.{bytes_eq}
use Rattle.std.proofs.Math.Seq.{take-nil, drop-nil}
use Rattle.ow_value.specs.Value.{text_cmp}
use Rattle.ow_value.proofs.KeySearch.{test_of, turned, reversed_eq}

pub both : (p q : Bool) → (p ≡ true → q ≡ true) → (q ≡ true → p ≡ true) → p ≡ q
both true q f g = sym (f refl)
both false true f g = g refl
both false false f g = refl

before : (o : Ordering) → is_lt o ≡ true → is_eq o ≡ false
before Less e = refl
before Equal e = cc
before Greater e = refl

behind : (o : Ordering) → is_le o ≡ false → is_eq o ≡ false
behind Less e = refl
behind Equal e = cc
behind Greater e = refl

between : (o : Ordering) → is_lt o ≡ false → is_le o ≡ true → is_eq o ≡ true
between Less e f = cc
between Equal e f = refl
between Greater e f = cc

-- what passes the test is what has the key `k`
module _ {A : Type 0} (key : A → List ℕ) (k : List ℕ) (test : A → Bool) (has_key : (a : A) → bytes_eq k (key a) ≡ test a) where
  abbrev PartsBefore : List A → ℕ → Type 0
  PartsBefore xs i = IsPartitionPoint (λ a. is_lt (text_cmp (key a) k) ≡ true) (λ a. is_lt (text_cmp (key a) k) ≡ false) xs i

  abbrev PartsThrough : List A → ℕ → Type 0
  PartsThrough xs i = IsPartitionPoint (λ a. is_le (text_cmp (key a) k) ≡ true) (λ a. is_le (text_cmp (key a) k) ≡ false) xs i

  stands_by : (a : A) (o : Ordering) → text_cmp (key a) k ≡ o → test a ≡ is_eq o
  stands_by a o e = sym (has_key a) ∙ test_of k (key a) _ (turned (key a) k o e) ∙ reversed_eq o

  -- where each item has the key or a greater one, the items with the key come first
  stands_first : (xs : List A) (j : ℕ) → ((i : ℕ) (d : A) → i < length xs → is_lt (text_cmp (key (get_or xs i d)) k) ≡ false)
      → PartsThrough xs j → filter test xs ≡ take j xs
  stands_first [] j f g = sym (take-nil j)
  stands_first (x ∷ xs) zero f g =
      let out = stands_by x _ refl ∙ behind _ (g.1 0 x (omega arith) (omega arith)) in
      let rest = stands_first xs zero (λ i d h. f (suc i) d (omega arith)) (λ i d h l. absurd (omega arith), λ i d h l. g.1 (suc i) d (omega arith) (omega arith)) in
      ap (λ t. cond t (x ∷ filter test xs) (filter test xs)) out ∙ rest
  stands_first (x ∷ xs) (suc j) f g =
      let here = stands_by x _ refl ∙ between _ (f 0 x (omega arith)) (g.0 0 x (omega arith) (omega arith)) in
      let rest = stands_first xs j (λ i d h. f (suc i) d (omega arith)) (λ i d h l. g.0 (suc i) d (omega arith) (omega arith), λ i d h l. g.1 (suc i) d (omega arith) (omega arith)) in
      ap (λ t. cond t (x ∷ filter test xs) (filter test xs)) here ∙ ap (λ ys. x ∷ ys) rest

  pub stands_together : (xs rest : List A) (i j : ℕ) → rest ≡ drop i xs → PartsBefore xs i → PartsThrough rest j → filter test xs ≡ take j rest
  stands_together xs rest zero j e f g =
      stands_first xs j (λ i d h. f.1 i d (omega arith) h) (subst (λ ys. PartsThrough ys j) e g) ∙ ap (take j) (sym e)
  stands_together [] rest (suc i) j e f g = sym (ap (take j) e ∙ take-nil j)
  stands_together (x ∷ xs) rest (suc i) j e f g =
      let out = stands_by x _ refl ∙ before _ (f.0 0 x (omega arith) (omega arith)) in
      let more = stands_together xs rest i j e (λ n d h l. f.0 (suc n) d (omega arith) (omega arith), λ n d h l. f.1 (suc n) d (omega arith) (omega arith)) g in
      ap (λ t. cond t (x ∷ filter test xs) (filter test xs)) out ∙ more

-- ---- a bound that is cut to the length

pub drop_upto : {A : Type 0} (xs : List A) (n s : ℕ) → n ≡ min s (length xs) → drop n xs ≡ drop s xs
drop_upto [] n s e = drop-nil n ∙ sym (drop-nil s)
drop_upto (x ∷ xs) zero zero e = refl
drop_upto (x ∷ xs) zero (suc s) e = absurd (omega arith)
drop_upto (x ∷ xs) (suc n) zero e = absurd (omega arith)
drop_upto (x ∷ xs) (suc n) (suc s) e = drop_upto xs n s (omega arith)

pub take_upto : {A : Type 0} (xs : List A) (n s : ℕ) → n ≡ min s (length xs) → take n xs ≡ take s xs
take_upto [] n s e = take-nil n ∙ sym (take-nil s)
take_upto (x ∷ xs) zero zero e = refl
take_upto (x ∷ xs) zero (suc s) e = absurd (omega arith)
take_upto (x ∷ xs) (suc n) zero e = absurd (omega arith)
take_upto (x ∷ xs) (suc n) (suc s) e = ap (λ ys. x ∷ ys) (take_upto xs n s (omega arith))
