-- The last entries of a kind.
use Rattle.std.proofs.Common.{◌≡◌, ℕ, ◌<◌, Bool, true, false, cond, List, [], ◌∷◌, ◌++◌, Option, Some, None, length, reverse, arith, refl, sym, ap, ◌∙◌, subst}
use Rattle.std.specs.List.{find}
use Rattle.std.specs.Option.{option_and_then}
use Rattle.std.specs.Prelude.{slice_get}
use Rattle.std.proofs.lemmas.Grind.{reverse_onto}
use Rattle.std.proofs.lemmas.List.{get_or_at, get_or_append_left, length-append, length-reverse, reverse-reverse}
use Rattle.std.proofs.lemmas.Option.{slice_get-get_or}
use Rattle.ow_hall.specs.declared.entry.Entry.{Entry}
use Rattle.ow_audit.specs.Drains.{last_place}

before_last : (xs : List Entry) (e : Entry) (k : ℕ) → k < length xs → slice_get (xs ++ e ∷ []) k ≡ slice_get xs k
before_last xs e k lt =
    slice_get-get_or (xs ++ e ∷ []) k e (omega (arith, length-append xs (e ∷ []))) ∙ ap Some (get_or_append_left xs (e ∷ []) e k lt) ∙ sym (slice_get-get_or xs k e lt)

at_last : (xs : List Entry) (e : Entry) (n : ℕ) → length xs ≡ n → slice_get (xs ++ e ∷ []) n ≡ Some e
at_last xs e n len = slice_get-get_or (xs ++ e ∷ []) n e (omega (arith, length-append xs (e ∷ []))) ∙ ap Some (get_or_at xs e [] e n len)

place_by : (test : Entry → Bool) (e : Entry) (B : List Entry) (t : Bool) (k : ℕ) → (last_place test B ≡ Some k → k < length B) → cond t (Some (length B)) (last_place test B) ≡ Some k → k < length (e ∷ B)
place_by test e B true k rest is = let same : length B ≡ k = cc is in omega arith
place_by test e B false k rest is = let less = rest is in omega arith

place_within : (test : Entry → Bool) (B : List Entry) (k : ℕ) → last_place test B ≡ Some k → k < length B
place_within test [] k is = cc is
place_within test (e ∷ B) k is = place_by test e B (test e) k (place_within test B k) is

found_still : (test : Entry → Bool) (e : Entry) (B : List Entry) (o : Option ℕ) → last_place test B ≡ o → option_and_then (slice_get (reverse B ++ e ∷ [])) o ≡ option_and_then (slice_get (reverse B)) o
found_still test e B None is = refl
found_still test e B (Some k) is = before_last (reverse B) e k (omega (arith, place_within test B k is, length-reverse B))

found_by : (test : Entry → Bool) (e : Entry) (B : List Entry) (t : Bool) → option_and_then (slice_get (reverse B)) (last_place test B) ≡ find test B
    → option_and_then (slice_get (reverse B ++ e ∷ [])) (cond t (Some (length B)) (last_place test B)) ≡ cond t (Some e) (find test B)
found_by test e B true rest = at_last (reverse B) e (length B) (length-reverse B)
found_by test e B false rest = found_still test e B (last_place test B) refl ∙ rest

found_last : (test : Entry → Bool) (B : List Entry) → option_and_then (slice_get (reverse B)) (last_place test B) ≡ find test B
found_last test [] = refl
found_last test (e ∷ B) =
    ap (λ (xs : List Entry). option_and_then (slice_get xs) (last_place test (e ∷ B))) (reverse_onto B e []) ∙ found_by test e B (test e) (found_last test B)

-- the last entry of a kind, of a book with the oldest entry first
pub found_in : (test : Entry → Bool) (book : List Entry) → option_and_then (slice_get book) (last_place test (reverse book)) ≡ find test (reverse book)
found_in test book =
    subst (λ (xs : List Entry). option_and_then (slice_get xs) (last_place test (reverse book)) ≡ find test (reverse book)) (reverse-reverse book) (found_last test (reverse book))
