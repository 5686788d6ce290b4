-- Bytes without a newline or a space, and what a line is parted into.
use Rattle.std.proofs.Common.{◌≡◌, ℕ, suc, ◌==◌, ◌+◌, ◌<◌, ◌^◌, Bool, true, false, get_or, List, [], ◌∷◌, ◌++◌, length, take, drop, position, Option, Some, None, option_map, refl, sym, ap, ◌∙◌, arith, length-take}
use Rattle.std.specs.Fmt.{decimal}
use Rattle.std.specs.Char.{digit_value}
use Rattle.std.specs.Str.Parse.{AllDigits}
use Rattle.std.proofs.lemmas.Bool.Decides.{nat_tests}
use Rattle.std.proofs.lemmas.Fmt.{decimal_is_IsNumeral}
use Rattle.std.proofs.lemmas.Bool.{eqb-true}
use Rattle.std.proofs.lemmas.List.{drop_at, drop_more, get_or-take, take-append-drop, take_at}
use Rattle.std.proofs.lemmas.List.Elements.{All-cons, All-drop, All-from_get_or, All-head, All-nil, All-same, All-tail, All-take}
use Rattle.std.proofs.lemmas.List.Quantifiers.{position-Some}
use Rattle.std.proofs.lemmas.Option.{none-some, some_pair_parts}
use Rattle.ow_runners.proofs.Lines.{none_of, position-cons_fails, position-cons_passes}
use Rattle.ow_day.specs.Statement.{parted, parted_at}
use Rattle.ow_day.specs.Printed.{HasNo}
use Rattle.ow_day.proofs.Newlines.{position-append_none}

-- a byte that doesn't occur has no first place
pub none_there : (byte : ℕ) (xs : List ℕ) → HasNo byte xs → position (λ c. c == byte) xs ≡ None
none_there byte [] none = refl
none_there byte (x ∷ xs) none =
    position-cons_fails (λ c. c == byte) x xs (All-head (λ c. (c == byte) ≡ false) x xs none)
    ∙ ap (option_map suc) (none_there byte xs (All-tail (λ c. (c == byte) ≡ false) x xs none))

-- nor in two lists
pub none_in_both : (byte : ℕ) (xs ys : List ℕ) → position (λ c. c == byte) xs ≡ None → position (λ c. c == byte) ys ≡ None → position (λ c. c == byte) (xs ++ ys) ≡ None
none_in_both byte xs ys front back = position-append_none (λ c. c == byte) xs ys front ∙ ap (option_map (λ k. length xs + k)) back

no_digit : (byte c : ℕ) → byte < 48 → digit_value c < 10 → (c == byte) ≡ false
no_digit byte c low h = grind (arith, nat_tests)

none_in_digits : (byte : ℕ) (ds : List ℕ) → byte < 48 → AllDigits 10 ds → position (λ c. c == byte) ds ≡ None
none_in_digits byte [] low h = refl
none_in_digits byte (d ∷ ds) low h =
    position-cons_fails (λ c. c == byte) d ds (no_digit byte d low h.0)
    ∙ ap (option_map suc) (none_in_digits byte ds low h.1)

pub none_in_decimal : (byte n : ℕ) → byte < 48 → n < 2 ^ 64 → position (λ c. c == byte) (decimal n) ≡ None
none_in_decimal byte n low small = none_in_digits byte (decimal n) low (let k = decimal_is_IsNumeral n small in k.0.1)

pub is_itself : (n : ℕ) → (n == n) ≡ true
is_itself n = grind (arith, nat_tests)

-- the first place of a byte comes after the bytes among which it doesn't occur
pub first_behind : (byte : ℕ) (xs ys : List ℕ) → position (λ c. c == byte) xs ≡ None → position (λ c. c == byte) (xs ++ byte ∷ ys) ≡ Some (length xs)
first_behind byte xs ys none =
    position-append_none (λ c. c == byte) xs (byte ∷ ys) none
    ∙ ap (option_map (λ k. length xs + k)) (position-cons_passes (λ c. c == byte) byte ys (is_itself byte))
    ∙ ap Some (omega arith)

pub front_of : (xs ys : List ℕ) (c : ℕ) → take (length xs) (xs ++ c ∷ ys) ≡ xs
front_of xs ys c = take_at xs (c ∷ ys) (length xs) refl

pub back_of : (xs ys : List ℕ) (c : ℕ) → drop (length xs + 1) (xs ++ c ∷ ys) ≡ ys
back_of [] ys c = refl
back_of (x ∷ xs) ys c =
    let e : length (x ∷ xs) + 1 ≡ suc (length xs + 1) = omega arith in
    rw e (back_of xs ys c)

-- a word without a space is parted from what follows the space
pub parted_word : (word rest : List ℕ) → position (λ c. c == 32) word ≡ None → parted (word ++ 32 ∷ rest) ≡ Some (word, rest)
unfolding parted
parted_word word rest none = rw (first_behind 32 word rest none, front_of word rest 32, back_of word rest 32) refl

-- ---- what is parted

-- a list is parted at the first place of a byte
pub split_at : (byte : ℕ) (xs : List ℕ) (k : ℕ) → position (λ c. c == byte) xs ≡ Some k → (xs ≡ take k xs ++ byte ∷ drop (k + 1) xs) × HasNo byte (take k xs)
split_at byte xs k is =
    let found = position-Some (λ c. c == byte) xs k 0 is in
    let there : get_or xs k 0 ≡ byte = eqb-true (get_or xs k 0) byte found.1 in
    let from : drop k xs ≡ byte ∷ drop (k + 1) xs = drop_more xs k 0 found.0 ∙ ap (λ c. c ∷ drop (k + 1) xs) there in (
      sym (take-append-drop k xs) ∙ ap (λ t. take k xs ++ t) from,
      All-from_get_or (λ c. (c == byte) ≡ false) (take k xs) 0 (λ i lt.
          let within : i < k = omega (arith, length-take k xs) in
          rw (get_or-take k xs i 0 within) (found.2 i within)),
    )

parted_by : (line word rest : List ℕ) (o : Option ℕ) → position (λ c. c == 32) line ≡ o → parted_at line o ≡ Some (word, rest) → (line ≡ word ++ 32 ∷ rest) × HasNo 32 word
parted_by line word rest None is e = absurd (none-some (word, rest) e)
parted_by line word rest (Some k) is e =
    let same = some_pair_parts (take k line) word (drop (k + 1) line) rest e in
    let at = split_at 32 line k is in
    (at.0 ∙ (λ i. same.0 i ++ 32 ∷ same.1 i), All-same (λ c. (c == 32) ≡ false) word (take k line) (sym same.0) at.1)

pub parted_read : (line word rest : List ℕ) → parted line ≡ Some (word, rest) → (line ≡ word ++ 32 ∷ rest) × HasNo 32 word
unfolding parted
parted_read line word rest e = parted_by line word rest (position (λ c. c == 32) line) refl e

pub none_in_front : (byte : ℕ) (xs ys : List ℕ) → HasNo byte (xs ++ ys) → HasNo byte xs
none_in_front byte xs ys none =
    All-same (λ c. (c == byte) ≡ false) xs (take (length xs) (xs ++ ys)) (sym (take_at xs ys (length xs) refl))
    (All-take (λ c. (c == byte) ≡ false) (length xs) (xs ++ ys) none)

pub none_in_back : (byte : ℕ) (xs ys : List ℕ) → HasNo byte (xs ++ ys) → HasNo byte ys
none_in_back byte xs ys none =
    All-same (λ c. (c == byte) ≡ false) ys (drop (length xs) (xs ++ ys)) (sym (drop_at xs ys (length xs) refl))
    (All-drop (λ c. (c == byte) ≡ false) (length xs) (xs ++ ys) none)

none_by : (byte x : ℕ) (xs : List ℕ) (b : Bool) → (x == byte) ≡ b → position (λ c. c == byte) (x ∷ xs) ≡ None → (position (λ c. c == byte) xs ≡ None → HasNo byte xs) → HasNo byte (x ∷ xs)
none_by byte x xs true is none rest = absurd (none-some 0 (sym none ∙ position-cons_passes (λ c. c == byte) x xs is))
none_by byte x xs false is none rest =
    All-cons (λ c. (c == byte) ≡ false) x xs is (rest (none_of (position (λ c. c == byte) xs) (sym (position-cons_fails (λ c. c == byte) x xs is) ∙ none)))

-- a byte that has no first place doesn't occur
pub nowhere : (byte : ℕ) (xs : List ℕ) → position (λ c. c == byte) xs ≡ None → HasNo byte xs
nowhere byte [] none = All-nil (λ c. (c == byte) ≡ false)
nowhere byte (x ∷ xs) none = none_by byte x xs (x == byte) refl none (nowhere byte xs)
