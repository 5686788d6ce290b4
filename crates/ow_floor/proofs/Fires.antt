-- Ids of fires are apart from those of activations, and from those of an earlier run.
use Rattle.std.proofs.Common.{◌≡◌, ◌+◌, ◌≤◌, ◌++◌, ℕ, Bool, true, false, List, [], ◌∷◌, Option, Some, None, map, refl, sym, arith, subst}
use Rattle.std.specs.List.{AllByRecursion, IsDistinct}
use Rattle.ow_records.specs.declared.ids.Id.{Id}
use Rattle.ow_records.specs.Id.{same_id}
use Rattle.ow_records.specs.declared.activations.Activation.{Activation}
use Rattle.ow_records.specs.declared.record.Record.{Record}
use Rattle.ow_floor.specs.View.{same_record}
use Rattle.ow_floor.specs.Trace.{Trace, accepted, accepted_ids, fired, resumed}
use Rattle.ow_floor.specs.Laws.{AreFiresApart, IsApart, IsFiringApart, IsSound, IsStrange, times}
use Rattle.ow_floor.proofs.Apart.{turned}
use Rattle.ow_floor.proofs.Firsts.{all_more, all_push}
use Rattle.ow_floor.proofs.Tallies.{eq_of, times_once}

pub times-append : (id : Id) (xs ys : List Id) → times id (xs ++ ys) ≡ times id xs + times id ys
times-append id [] ys = omega arith
times-append id (x ∷ xs) ys = let h = times-append id xs ys in omega (arith, h)

-- ---- what is apart occurs nowhere

other_records : (id : Id) (rs : List Record) → AllByRecursion (λ r. same_id id r.id ≡ false) rs → times id (map (λ r. r.id) rs) ≡ 0
other_records id [] other = refl
other_records id (r ∷ rs) other = let h = other_records id rs other.1 in rw other.0 (omega (arith, h))

pub strange_records : (id : Id) (rs : List Record) → IsStrange id rs → times id (map (λ r. r.id) rs) ≡ 0
strange_records id rs strange = other_records id rs (all_more _ (λ r. same_id id r.id ≡ false) rs (λ r both. both.0) strange)

pub apart_activations : (id : Id) (xs : List Activation) → IsApart id xs → times id (map (λ a. a.id) xs) ≡ 0
apart_activations id [] apart = refl
apart_activations id (a ∷ xs) apart = let h = apart_activations id xs apart.1 in rw apart.0.0 (omega (arith, h))

-- ---- no id twice

once_more : (id : Id) (rs : List Record) (n : ℕ) → IsDistinct same_record rs → AllByRecursion (λ r. same_id id r.id ≡ true → n ≡ 0) rs → n ≤ 1 → times id (map (λ r. r.id) rs) + n ≤ 1
unfolding IsDistinct
once_more id [] n distinct none le = omega (arith, le)
once_more id (r ∷ rs) n distinct none le = by_test (same_id id r.id) refl (once_more id rs n distinct.1 none.1 le)
  where
    by_test : (b : Bool) → same_id id r.id ≡ b → times id (map (λ x. x.id) rs) + n ≤ 1 → times id (map (λ x. x.id) (r ∷ rs)) + n ≤ 1
    by_test true e rest =
        let same : id ≡ r.id = eq_of id r.id e in
        let h = other_records id rs (subst (λ (x : Id). AllByRecursion (λ y. same_id x y.id ≡ false) rs) (sym same) distinct.0) in
        let z = none.0 e in
        rw e (omega (arith, h, z))
    by_test false e rest = rw e (omega (arith, rest))

fired_zero : (id : Id) (xs : List Activation) (r : Record) → IsApart r.id xs → same_id id r.id ≡ true → times id (map (λ a. a.id) xs) ≡ 0
fired_zero id xs r apart e = apart_activations id xs (subst (λ (x : Id). IsApart x xs) (sym (eq_of id r.id e)) apart)

-- an id was accepted once at most
pub accepted_once : (T : Trace) (id : Id) → IsSound T → times id (accepted_ids T) ≤ 1
accepted_once T id sound =
    let both = times-append id (map (λ a. a.id) (accepted T)) (map (λ r. r.id) (fired T)) in
    let most = times_once id (accepted T) sound.apart in
    let all = once_more id (fired T) (times id (map (λ a. a.id) (accepted T))) sound.fires.recorded.apart
    (all_more _ _ (fired T) (λ r apart. fired_zero id (accepted T) r apart) sound.fires.recorded.strange) most in
    omega (arith, both, all)

resumed_zero : (T : Trace) (id : Id) (r : Record) → IsApart r.id (accepted T) → IsStrange r.id (fired T) → same_id id r.id ≡ true → times id (accepted_ids T) ≡ 0
resumed_zero T id r apart strange e =
    let both = times-append id (map (λ a. a.id) (accepted T)) (map (λ x. x.id) (fired T)) in
    let a = fired_zero id (accepted T) r apart e in
    let b = strange_records id (fired T) (subst (λ (x : Id). IsStrange x (fired T)) (sym (eq_of id r.id e)) strange) in
    omega (arith, both, a, b)

all_pairs : {X : Type 0} (P Q R : X → Type 0) (xs : List X) → ((x : X) → P x → Q x → R x) → AllByRecursion P xs → AllByRecursion Q xs → AllByRecursion R xs
all_pairs P Q R [] f p q = tt
all_pairs P Q R (x ∷ xs) f p q = (f x p.0 q.0, all_pairs P Q R xs f p.1 q.1)

-- nor is one accepted that was taken over
pub known_once : (T : Trace) (id : Id) → IsSound T → times id (map (λ r. r.id) (resumed T)) + times id (accepted_ids T) ≤ 1
known_once T id sound =
    once_more id (resumed T) (times id (accepted_ids T)) sound.resumed.apart
    (all_pairs _ _ _ (resumed T) (λ r apart strange. resumed_zero T id r apart strange) sound.resumed.strange sound.fires.foreign) (accepted_once T id sound)

-- ---- a new id

new_strange : (x : Id) (rs : List Record) (n : ℕ → ℕ) → ((y : Id) → y.count ≤ n y.namespace → same_id y x ≡ false) → AllByRecursion (λ r. r.id.count ≤ n r.id.namespace) rs → IsStrange x rs
new_strange x rs n other drawn = all_more _ _ rs (λ r le. let no = other r.id le in (turned r.id x no, no)) drawn

-- where it is drawn for a fire, from all that are known
pub firing_new : (x : Id) (xs : List Activation) (fired resumed : List Record) (n m : ℕ → ℕ) → ((y : Id) → y.count ≤ n y.namespace → same_id y x ≡ false) → x.count ≤ m x.namespace → IsApart x xs
    → AllByRecursion (λ r. r.id.count ≤ n r.id.namespace) fired → AllByRecursion (λ r. r.id.count ≤ n r.id.namespace) resumed → IsFiringApart (Some x) fired resumed m xs
firing_new x xs fired resumed n m other drawn apart fires old = (drawn, (apart, (new_strange x fired n other fires, new_strange x resumed n other old)))

-- a later activation is apart from it
pub firing_accepted : (o : Option Id) (a : Activation) (xs : List Activation) (fired resumed : List Record) (n m : ℕ → ℕ) → ((y : Id) → y.count ≤ n y.namespace → same_id y a.id ≡ false) → ((k : ℕ) → n k ≤ m k)
    → IsFiringApart o fired resumed n xs → IsFiringApart o fired resumed m (xs ++ a ∷ [])
firing_accepted None a xs fired resumed n m other rises h = tt
firing_accepted (Some id) a xs fired resumed n m other rises h =
    let no = other id h.0 in
    let up = rises id.namespace in
    (omega (arith, up, h.0), (all_push _ a xs (no, turned id a.id no) h.1.0, h.1.1))

-- ---- a fire is recorded

distinct_push : (r : Record) (rs : List Record) → IsDistinct same_record rs → IsStrange r.id rs → IsDistinct same_record (rs ++ r ∷ [])
unfolding IsDistinct
distinct_push r [] distinct strange = (tt, tt)
distinct_push r (x ∷ rs) distinct strange = (all_push _ r rs strange.0.1 distinct.0, distinct_push r rs distinct.1 strange.1)

foreign_push : (r : Record) (fired olds : List Record) → AllByRecursion (λ x. IsStrange x.id fired) olds → IsStrange r.id olds → AllByRecursion (λ x. IsStrange x.id (fired ++ r ∷ [])) olds
foreign_push r fired [] foreign strange = tt
foreign_push r fired (x ∷ olds) foreign strange = (all_push _ r fired (strange.0.1, strange.0.0) foreign.0, foreign_push r fired olds foreign.1 strange.1)

pub fires_push : (r : Record) (fired resumed : List Record) (n : ℕ → ℕ) (xs : List Activation) → AreFiresApart fired (Some r.id) resumed n xs → AreFiresApart (fired ++ r ∷ []) None resumed n xs
fires_push r fired resumed n xs h = record {
  recorded = record {
    drawn = all_push _ r fired h.next.0 h.recorded.drawn;
    apart = distinct_push r fired h.recorded.apart h.next.1.1.0;
    strange = all_push _ r fired h.next.1.0 h.recorded.strange;
  };
  foreign = foreign_push r fired resumed h.foreign h.next.1.1.1;
  next = tt;
}
