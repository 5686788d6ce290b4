-- Ids that a list doesn't have, and keys that it therefore doesn't have either.
use Rattle.std.proofs.Common.{◌≡◌, ◌==◌, ◌+◌, ◌≤◌, ℕ, Bool, true, false, cond, List, [], ◌∷◌, ◌++◌, map, refl, ap, arith}
use Rattle.std.specs.List.{AllByRecursion}
use Rattle.ow_floor.specs.declared.activations.Open.{Open}
use Rattle.ow_floor.specs.Laws.{IsSound, times}
use Rattle.ow_floor.specs.Trace.{Trace, accepted, accepted_ids, fired, last}
use Rattle.ow_floor.specs.View.{ids_of, put_id, is_in}
use Rattle.ow_floor.proofs.Fires.{times-append}
use Rattle.ow_floor.proofs.Soundness.{apart_at}
use Rattle.ow_row_text.specs.Item.{done_key, open_key}
use Rattle.ow_row_text.specs.Lists.{Lacks}
use Rattle.ow_commits.proofs.Keys.{done_other, open_other}
use Rattle.ow_commits.proofs.Sections.{done_of, open_of}
use Rattle.ow_records.specs.declared.activations.Activation.{Activation}
use Rattle.ow_records.specs.declared.ids.Id.{Id}
use Rattle.ow_records.specs.declared.record.Record.{Record}
use Rattle.ow_records.specs.declared.unrecorded.Unrecorded.{Unrecorded}
use Rattle.ow_records.specs.Id.{same_id}
use Rattle.ow_records.specs.Known.{IsId}
use Rattle.ow_records.specs.Unrecorded.{unrecorded_of}

-- an id after the last of its namespace was not drawn before
new_nowhere : {X : Type 0} (f : X → Id) (x : Id) (xs : List X) (n : ℕ → ℕ) → x.count ≡ n x.namespace + 1 → AllByRecursion (λ y. (f y).count ≤ n (f y).namespace) xs → times x (map f xs) ≡ 0
new_nowhere f x [] n new drawn = refl
new_nowhere f x (y ∷ xs) n new drawn =
    let here : same_id x (f y) ≡ false = apart_at x (f y) (x.namespace == (f y).namespace) n refl new drawn.0 in
    let rest = new_nowhere f x xs n new drawn.1 in
    rw here (omega (arith, rest))

-- nor was it accepted
pub new_known : (x : Id) (T : Trace) → x.count ≡ last T x.namespace + 1 → IsSound T → times x (accepted_ids T) ≡ 0
new_known x T new sound =
    let both = times-append x (map (λ a. a.id) (accepted T)) (map (λ r. r.id) (fired T)) in
    let one = new_nowhere (λ (a : Activation). a.id) x (accepted T) (last T) new sound.drawn in
    let two = new_nowhere (λ (r : Record). r.id) x (fired T) (last T) new sound.fires.recorded.drawn in
    omega (arith, both, one, two)

none_by : (b : Bool) (n : ℕ) → cond b 1 0 + n ≡ 0 → (b ≡ false) × (n ≡ 0)
none_by true n e = absurd (omega (arith, e))
none_by false n e = (refl, omega (arith, e))

pub nowhere : {X : Type 0} (f : X → Id) (id : Id) (xs : List X) → times id (map f xs) ≡ 0 → AllByRecursion (λ x. same_id id (f x) ≡ false) xs
nowhere f id [] e = tt
nowhere f id (x ∷ xs) e =
    let both = none_by (same_id id (f x)) (times id (map f xs)) e in
    (both.0, nowhere f id xs both.1)

pub lacks_open : (id : Id) (us : List Unrecorded) → IsId id → AllByRecursion (λ u. IsId u.id) us → AllByRecursion (λ u. same_id id u.id ≡ false) us → Lacks open_of (open_key id) us
lacks_open id [] h all differ = tt
lacks_open id (u ∷ us) h all differ = (open_other id u.id h all.0 differ.0, lacks_open id us h all.1 differ.1)

pub lacks_done : (id : Id) (ds : List Record) → IsId id → AllByRecursion (λ r. IsId r.id) ds → AllByRecursion (λ r. same_id id r.id ≡ false) ds → Lacks done_of (done_key id) ds
lacks_done id [] h all differ = tt
lacks_done id (d ∷ ds) h all differ = (done_other id d.id h all.0 differ.0, lacks_done id ds h all.1 differ.1)

pub kept_ids : (os : List Open) → map (λ (u : Unrecorded). u.id) (map (λ (o : Open). unrecorded_of o.task) os) ≡ ids_of os
kept_ids [] = refl
kept_ids (o ∷ os) = ap (λ ids. o.task.id ∷ ids) (kept_ids os)

-- ---- for each element

pub all_both : {X : Type 0} (P : X → Type 0) (xs ys : List X) → AllByRecursion P xs → AllByRecursion P ys → AllByRecursion P (xs ++ ys)
all_both P [] ys h k = k
all_both P (x ∷ xs) ys h k = (h.0, all_both P xs ys h.1 k)

put_by : (P : Id → Type 0) (id x : Id) (xs : List Id) (b : Bool) → is_in id.namespace x ≡ b → P id → P x → AllByRecursion P xs → AllByRecursion P (put_id id xs) → AllByRecursion P (put_id id (x ∷ xs))
unfolding put_id
put_by P id x xs true e h hx all rest = rw e (h, all)
put_by P id x xs false e h hx all rest = rw e (hx, rest)

pub all_put : (P : Id → Type 0) (id : Id) (xs : List Id) → P id → AllByRecursion P xs → AllByRecursion P (put_id id xs)
unfolding put_id
all_put P id [] h all = (h, tt)
all_put P id (x ∷ xs) h all = put_by P id x xs (is_in id.namespace x) refl h all.0 all.1 (all_put P id xs h all.1)
