-- What is among the accepted activations.
use Rattle.std.proofs.Common.{◌≡◌, ◌⊎◌, ◌++◌, Bool, true, false, List, [], ◌∷◌, Option, Some, None, inl, inr, refl, sym, subst}
use Rattle.std.specs.List.{find, AllByRecursion}
use Rattle.ow_records.specs.declared.ids.Id.{Id}
use Rattle.ow_records.specs.declared.activations.Activation.{Activation}
use Rattle.ow_floor.specs.declared.activations.Open.{Open}
use Rattle.ow_floor.specs.declared.activations.State.{State}
use Rattle.ow_floor.specs.Trace.{End}
use Rattle.ow_floor.specs.Laws.{IsAmong}
use Rattle.ow_floor.proofs.Alters.{opens}

among_more : (a y x : Activation) (xs : List Activation) → (a ≡ x) ⊎ IsAmong a xs → (IsAmong a xs → IsAmong a (xs ++ y ∷ [])) → IsAmong a ((x ∷ xs) ++ y ∷ [])
among_more a y x xs (inl same) rest = inl same
among_more a y x xs (inr among) rest = inr (rest among)

pub among_push : (a y : Activation) (xs : List Activation) → IsAmong a xs → IsAmong a (xs ++ y ∷ [])
among_push a y [] among = absurd among
among_push a y (x ∷ xs) among = among_more a y x xs among (among_push a y xs)

pub among_last : (a : Activation) (xs : List Activation) → IsAmong a (xs ++ a ∷ [])
among_last a [] = inl refl
among_last a (x ∷ xs) = inr (among_last a xs)

-- what was known stays so
pub known_push : (y : Activation) (xs : List Activation) (es : List End) → AllByRecursion (λ e. IsAmong e.task xs) es → AllByRecursion (λ e. IsAmong e.task (xs ++ y ∷ [])) es
known_push y xs [] known = tt
known_push y xs (e ∷ es) known = (among_push e.task y xs known.0, known_push y xs es known.1)

pub known_more : (end : End) (xs : List Activation) (es : List End) → IsAmong end.task xs → AllByRecursion (λ e. IsAmong e.task xs) es → AllByRecursion (λ e. IsAmong e.task xs) (es ++ end ∷ [])
known_more end xs [] among known = (among, tt)
known_more end xs (e ∷ es) among known = (known.0, known_more end xs es among known.1)

among_test : (p : Open → Bool) (a : Activation) (q : State) (xs : List Activation) (os : List Open) (o : Open) (b : Bool) → p (record { task = a; state = q }) ≡ b
    → (find p os ≡ Some o → IsAmong o.task xs) → find p (record { task = a; state = q } ∷ os) ≡ Some o → IsAmong o.task (a ∷ xs)
among_test p a q xs os o true t rest found =
    let e : Some (record { task = a; state = q }) ≡ Some o = rw t at found in
    let same : record { task = a; state = q } ≡ o = cc in
    subst (λ (z : Open). IsAmong z.task (a ∷ xs)) same (inl refl)
among_test p a q xs os o false t rest found = inr (rest (rw t at found))

among_here : (p : Open → Bool) (f : Id → Option State) (a : Activation) (xs : List Activation) (o : Open) (s : Option State) → f a.id ≡ s
    → (find p (opens f xs) ≡ Some o → IsAmong o.task xs) → find p (opens f (a ∷ xs)) ≡ Some o → IsAmong o.task (a ∷ xs)
among_here p f a xs o None e rest found = inr (rest (rw e at found))
among_here p f a xs o (Some q) e rest found =
    among_test p a q xs (opens f xs) o (p (record { task = a; state = q })) refl rest (rw e at found)

-- what is found open is among these
pub found_among : (p : Open → Bool) (f : Id → Option State) (xs : List Activation) (o : Open) → find p (opens f xs) ≡ Some o → IsAmong o.task xs
found_among p f [] o found = cc
found_among p f (a ∷ xs) o found = among_here p f a xs o (f a.id) refl (found_among p f xs o) found

-- what holds of all of these holds of each among them
pub all_among : (P : Activation → Type 0) (a : Activation) (xs : List Activation) → IsAmong a xs → AllByRecursion P xs → P a
all_among P a [] among all = absurd among
all_among P a (x ∷ xs) (inl same) all = subst P (sym same) all.0
all_among P a (x ∷ xs) (inr rest) all = all_among P a xs rest all.1
