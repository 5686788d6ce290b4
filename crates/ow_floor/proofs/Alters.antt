-- What a new item does to the list of what is open.
use Rattle.std.proofs.Common.{◌≡◌, ◌++◌, Bool, true, false, cond, List, [], ◌∷◌, Option, Some, None, refl, sym, ap, ◌∙◌, rules, subst}
use Rattle.std.specs.List.{find, filter_map, cons_option, AllByRecursion}
use Rattle.std.proofs.lemmas.List.Elements.{filter_map-append}
use Rattle.std.proofs.lemmas.Bool.Decides.{nat_tests}
use Rattle.ow_records.specs.declared.ids.Id.{Id}
use Rattle.ow_records.specs.Id.{same_id}
use Rattle.ow_records.specs.declared.activations.Activation.{Activation}
use Rattle.ow_floor.specs.declared.activations.Open.{Open}
use Rattle.ow_floor.specs.declared.activations.State.{State}
use Rattle.ow_floor.specs.declared.activations.State.TheVariants.{Waiting}
use Rattle.ow_slots.specs.Slots.{change_first}
use Rattle.ow_floor.specs.View.{with_state, remove_first}
use Rattle.ow_floor.specs.Trace.{open_of}
use Rattle.ow_floor.specs.Laws.{IsApart, AreApart}

pub same_id_refl : (x : Id) → same_id x x ≡ true
same_id_refl x = search (rules, nat_tests)

-- what is open of these, where f gives the state of each
abbrev pub opens : (Id → Option State) → List Activation → List Open
opens f xs = filter_map (λ a. open_of a (f a.id)) xs

-- the same, except for one id
abbrev pub but_at : (Id → Option State) → Id → Option State → Id → Option State
but_at f x s y = cond (same_id x y) s (f y)

-- two tellings that agree on these show the same
pub agree : (f g : Id → Option State) (xs : List Activation) → AllByRecursion (λ a. f a.id ≡ g a.id) xs → opens f xs ≡ opens g xs
agree f g [] all = refl
agree f g (a ∷ xs) all = rw (all.0, agree f g xs all.1) refl

-- what changes an id leaves those apart from it
others : (f : Id → Option State) (s : Option State) (x : Id) (xs : List Activation) → IsApart x xs → AllByRecursion (λ a. but_at f x s a.id ≡ f a.id) xs
others f s x [] apart = tt
others f s x (a ∷ xs) apart = (rw apart.0.0 refl, others f s x xs apart.1)

found_test : (p : Open → Bool) (x : Id) (os : List Open) (a o : Open) (b : Bool) → p a ≡ b → same_id a.task.id x ≡ false
    → (find p os ≡ Some o → same_id o.task.id x ≡ false) → find p (a ∷ os) ≡ Some o → same_id o.task.id x ≡ false
found_test p x os a o true t apart rest found =
    let e : Some a ≡ Some o = rw t at found in
    let same : a ≡ o = cc in
    subst (λ (z : Open). same_id z.task.id x ≡ false) same apart
found_test p x os a o false t apart rest found = rest (rw t at found)

found_here : (p : Open → Bool) (f : Id → Option State) (x : Id) (a : Activation) (xs : List Activation) (o : Open) (s : Option State) → f a.id ≡ s → same_id a.id x ≡ false
    → (find p (opens f xs) ≡ Some o → same_id o.task.id x ≡ false) → find p (opens f (a ∷ xs)) ≡ Some o → same_id o.task.id x ≡ false
found_here p f x a xs o None e apart rest found = rest (rw e at found)
found_here p f x a xs o (Some q) e apart rest found =
    found_test p x (opens f xs) (record { task = a; state = q }) o (p (record { task = a; state = q })) refl apart rest (rw e at found)

-- what is found among these is apart from an id that they are apart from
found_apart : (p : Open → Bool) (f : Id → Option State) (x : Id) (xs : List Activation) (o : Open) → IsApart x xs
    → find p (opens f xs) ≡ Some o → same_id o.task.id x ≡ false
found_apart p f x [] o apart found = cc
found_apart p f x (a ∷ xs) o apart found = found_here p f x a xs o (f a.id) refl apart.0.1 (found_apart p f x xs o apart.1) found

-- the first that passes is put into another state, or taken out
abbrev pub put_state : Open → Option State → List Open → List Open
put_state o None os = os
put_state o (Some q) os = record { task = o.task; state = q } ∷ os

abbrev pub alter_first : (Open → Bool) → Option State → List Open → List Open
alter_first p s [] = []
alter_first p s (o ∷ os) = cond (p o) (put_state o s os) (o ∷ alter_first p s os)

alter_state : (a : Activation) (s : Option State) (q : State) (new os : List Open) → new ≡ os → cons_option (open_of a s) new ≡ put_state (record { task = a; state = q }) s os
alter_state a None q new os e = e
alter_state a (Some r) q new os e = ap (λ zs. record { task = a; state = r } ∷ zs) e

alter_test : (p : Open → Bool) (f : Id → Option State) (s : Option State) (a : Activation) (xs : List Activation) (o : Open) (q : State) (b : Bool)
    → p (record { task = a; state = q }) ≡ b → f a.id ≡ Some q → IsApart a.id xs → find p (record { task = a; state = q } ∷ opens f xs) ≡ Some o
    → (find p (opens f xs) ≡ Some o → opens (but_at f o.task.id s) xs ≡ alter_first p s (opens f xs))
    → opens (but_at f o.task.id s) (a ∷ xs) ≡ alter_first p s (record { task = a; state = q } ∷ opens f xs)
alter_test p f s a xs o q true t is apart found rest =
    let e : Some (record { task = a; state = q }) ≡ Some o = rw t at found in
    let same : record { task = a; state = q } ≡ o = cc in
    subst (λ (z : Open). opens (but_at f z.task.id s) (a ∷ xs) ≡ alter_first p s (record { task = a; state = q } ∷ opens f xs)) same
    (rw (t, same_id_refl a.id) (alter_state a s q _ _ (agree (but_at f a.id s) f xs (others f s a.id xs apart))))
alter_test p f s a xs o q false t is apart found rest =
    let found' : find p (opens f xs) ≡ Some o = rw t at found in
    let other : same_id o.task.id a.id ≡ false = found_apart p f a.id xs o apart found' in
    rw (t, other, is) (ap (λ zs. record { task = a; state = q } ∷ zs) (rest found'))

alter_here : (p : Open → Bool) (f : Id → Option State) (s : Option State) (a : Activation) (xs : List Activation) (o : Open) (before : Option State) → f a.id ≡ before
    → IsApart a.id xs → find p (opens f (a ∷ xs)) ≡ Some o
    → (find p (opens f xs) ≡ Some o → opens (but_at f o.task.id s) xs ≡ alter_first p s (opens f xs))
    → opens (but_at f o.task.id s) (a ∷ xs) ≡ alter_first p s (opens f (a ∷ xs))
alter_here p f s a xs o None is apart found rest =
    let found' : find p (opens f xs) ≡ Some o = rw is at found in
    let other : same_id o.task.id a.id ≡ false = found_apart p f a.id xs o apart found' in
    rw (other, is) (rest found')
alter_here p f s a xs o (Some q) is apart found rest =
    let here : opens f (a ∷ xs) ≡ record { task = a; state = q } ∷ opens f xs = rw is refl in
    alter_test p f s a xs o q (p (record { task = a; state = q })) refl is apart (rw is at found) rest ∙ sym (ap (alter_first p s) here)

-- the state of what is found has changed: the list shows that in its place, and nothing else
pub alter : (p : Open → Bool) (f : Id → Option State) (s : Option State) (xs : List Activation) (o : Open) → AreApart xs
    → find p (opens f xs) ≡ Some o → opens (but_at f o.task.id s) xs ≡ alter_first p s (opens f xs)
alter p f s [] o apart found = refl
alter p f s (a ∷ xs) o apart found = alter_here p f s a xs o (f a.id) refl apart.0 found (alter p f s xs o apart.1)

pub alter_update : (p : Open → Bool) (q : State) (os : List Open) → alter_first p (Some q) os ≡ change_first p (with_state q) os
unfolding change_first
alter_update p q [] = refl
alter_update p q (o ∷ os) = rw (alter_update p q os) refl

pub alter_remove : (p : Open → Bool) (os : List Open) → alter_first p None os ≡ remove_first p os
unfolding remove_first
alter_remove p [] = refl
alter_remove p (o ∷ os) = rw (alter_remove p os) refl

-- what is accepted is added at the end
pub opens_new : (f : Id → Option State) (a : Activation) (xs : List Activation) → f a.id ≡ Some Waiting
    → opens f (xs ++ a ∷ []) ≡ opens f xs ++ record { task = a; state = Waiting } ∷ []
opens_new f a xs new = filter_map-append (λ y. open_of y (f y.id)) xs (a ∷ []) ∙ rw new refl

-- two tellings that agree show the same
pub opens_same : (f g : Id → Option State) (xs : List Activation) → ((y : Id) → f y ≡ g y) → opens f xs ≡ opens g xs
opens_same f g [] same = refl
opens_same f g (a ∷ xs) same = rw (same a.id, opens_same f g xs same) refl
