-- Undoing a change gives the list before it.
use Rattle.std.proofs.Common.{◌≡◌, ◌-◌, ◌++◌, ℕ, Bool, true, false, List, [], ◌∷◌, Some, length, get_or, take, refl, sym, ap, ◌∙◌, arith, rules, length-append}
use Rattle.std.specs.Prelude.{slice_set}
use Rattle.std.proofs.lemmas.List.{set-set, set-get_or}
use Rattle.ow_floor.specs.declared.undoable.Step.{Step}
use Rattle.ow_floor.specs.declared.undoable.Step.TheVariants.{Added, Was}
use Rattle.ow_floor.specs.Undoable.{but_last, noted, past, undo, undone}

take_these : {X : Type 0} (xs ys : List X) → take (length xs) (xs ++ ys) ≡ xs
take_these [] ys = search rules
take_these (x ∷ xs) ys = rw (take_these xs ys) refl

but_last_push : {X : Type 0} (xs : List X) (y : X) → but_last (xs ++ y ∷ []) ≡ xs
but_last_push xs y =
    let e : length (xs ++ y ∷ []) - 1 ≡ length xs = omega (arith, length-append xs (y ∷ [])) in
    rw e (take_these xs (y ∷ []))

pub undone_push : {X : Type 0} (ss : List (Step X)) (s : Step X) (xs ys : List X) → undo s ys ≡ xs → undone (ss ++ s ∷ []) ys ≡ undone ss xs
undone_push [] s xs ys e = e
undone_push (t ∷ ts) s xs ys e = ap (undo t) (undone_push ts s xs ys e)

pub undone_added : {X : Type 0} (ss : List (Step X)) (xs : List X) (x : X) → undone (ss ++ Added ∷ []) (xs ++ x ∷ []) ≡ undone ss xs
undone_added ss xs x = undone_push ss Added xs (xs ++ x ∷ []) (but_last_push xs x)

pub undone_was : {X : Type 0} (ss : List (Step X)) (xs : List X) (place : ℕ) (item d : X) → undone (ss ++ Was place (get_or xs place d) ∷ []) (slice_set xs place item) ≡ undone ss xs
undone_was ss xs place item d = undone_push ss (Was place (get_or xs place d)) xs (slice_set xs place item) (set-set xs place item (get_or xs place d) ∙ set-get_or xs place d)

-- one step less to undo
pub undone_less : {X : Type 0} (ss ts : List (Step X)) (s : Step X) (xs ys start : List X) → ss ≡ ts ++ s ∷ [] → undone ss xs ≡ start → ys ≡ undo s xs → undone ts ys ≡ start
undone_less ss ts s xs ys start e before is = sym (undone_push ts s ys xs (sym is)) ∙ (ap (λ zs. undone zs xs) (sym e) ∙ before)

-- what was before stays
pub past_added : {X : Type 0} (held : Bool) (ss : List (Step X)) (xs : List X) (x : X) → past held (undone (noted held Added ss) (xs ++ x ∷ [])) ≡ past held (undone ss xs)
past_added true ss xs x = ap Some (undone_added ss xs x)
past_added false ss xs x = refl

pub past_was : {X : Type 0} (held : Bool) (ss : List (Step X)) (xs : List X) (place : ℕ) (item old : X) → old ≡ get_or xs place old
    → past held (undone (noted held (Was place old) ss) (slice_set xs place item)) ≡ past held (undone ss xs)
past_was true ss xs place item old is =
    ap Some (ap (λ d. undone (ss ++ Was place d ∷ []) (slice_set xs place item)) is ∙ undone_was ss xs place item old)
past_was false ss xs place item old is = refl

pub undone_all : {X : Type 0} (ss : List (Step X)) (s : Step X) (xs ys : List X) → undo s ys ≡ xs → past true (undone (ss ++ s ∷ []) ys) ≡ past true (undone ss xs)
undone_all ss s xs ys e = ap Some (undone_push ss s xs ys e)

pub past_any : {X : Type 0} (held : Bool) (ss : List (Step X)) (s : Step X) (xs ys : List X) → undo s ys ≡ xs → past held (undone (noted held s ss) ys) ≡ past held (undone ss xs)
past_any true ss s xs ys e = ap Some (undone_push ss s xs ys e)
past_any false ss s xs ys e = refl
