-- Children of compositions are of the namespace and the subject of their causes.
use Rattle.std.proofs.Common.{◌≡◌, ◌⊎◌, ◌++◌, ℕ, List, [], ◌∷◌, inl, inr, IfSome, Option, Some, None, refl, sym, ap, subst}
use Rattle.std.specs.List.{AllByRecursion}
use Rattle.ow_records.specs.declared.activations.Activation.{Activation}
use Rattle.ow_records.specs.declared.frames.Frame.{Frame}
use Rattle.ow_records.specs.declared.ids.Id.{Id}
use Rattle.ow_records.specs.declared.record.Record.{Record}
use Rattle.ow_packages.specs.Access.{Standing}
use Rattle.ow_tables.specs.Rows.{standing as rows_standing}
use Rattle.ow_floor.specs.Laws.{IsAmong, IsSound}
use Rattle.ow_floor.specs.Trace.{Accepted, Ended, Fired, Item, Resumed, Trace, accepted, record_of, records, standing}
use Rattle.ow_floor.specs.View.{is_of}
use Rattle.ow_floor.proofs.Among.{all_among, among_push, found_among}
use Rattle.ow_floor.proofs.Firsts.{all_more, all_push}
use Rattle.ow_trees.specs.Driven.{IsDriven}
use Rattle.ow_trees.specs.Steps.{item_of}
use Rattle.ow_trees.specs.declared.advances.Advance.{Advance}
use Rattle.ow_trees.specs.declared.advances.Advance.TheVariants.{Call, End}
use Rattle.ow_trees.proofs.Children.{IsChild, child_of, end_of}
use Rattle.ow_tenant.specs.Table.{Table}
use Rattle.ow_tenant.specs.declared.entries.Holder.{Holder}
use Rattle.ow_reads.specs.View.{may_read}
use Rattle.ow_decide.specs.Chain.{AreSteps, IsAccepted, IsStep}
use Rattle.ow_decide.specs.Decisions.{decide}
use Rattle.ow_decide.specs.Sight.{Sight}
use Rattle.ow_decide.specs.declared.events.Event.{Event}
use Rattle.ow_decide.proofs.ChainLaws.{by_decision}
use Rattle.ow_hall.specs.History.{History, counted, seen, sight}
use Rattle.ow_hall.proofs.Beginnings.{seen_sound}
use Rattle.ow_isolation.specs.Causes.{AreOfCauses, HasCause, IsCauseOf, IsSeenAsCause, RecordsAreSeenAsCauses}

-- ---- one more activation

wider : (id : Id) (namespace subject : List ℕ) (xs : List Activation) (y : Activation) → IsCauseOf id namespace subject xs → IsCauseOf id namespace subject (xs ++ y ∷ [])
wider id namespace subject xs y h = record { cause = h.cause; among = among_push h.cause y xs h.among; is = h.is; home = h.home; name = h.name }

has_wider : (cause : Option Id) (namespace subject : List ℕ) (xs : List Activation) (y : Activation) → HasCause cause namespace subject xs → HasCause cause namespace subject (xs ++ y ∷ [])
has_wider None namespace subject xs y h = tt
has_wider (Some id) namespace subject xs y h = wider id namespace subject xs y h

-- ---- one more item

-- what is accepted has its cause, what ends was accepted, and fires have no cause
abbrev pub IsOfCause : Item → Trace → Type 0
IsOfCause (Accepted a) T = HasCause a.cause a.namespace a.subject (accepted T)
IsOfCause (Ended e) T = IsAmong e.task (accepted T)
IsOfCause (Fired r) T = r.cause ≡ None
IsOfCause item T = Unit {0}

of_accepted : (a : Activation) (T : Trace) → HasCause a.cause a.namespace a.subject (accepted T) → AreOfCauses T → AreOfCauses (Accepted a ∷ T)
of_accepted a T new h = record {
  activations = all_push (λ (x : Activation). HasCause x.cause x.namespace x.subject (accepted T ++ a ∷ [])) a (accepted T) (has_wider a.cause a.namespace a.subject (accepted T) a new)
      (all_more (λ (x : Activation). HasCause x.cause x.namespace x.subject (accepted T)) (λ (x : Activation). HasCause x.cause x.namespace x.subject (accepted T ++ a ∷ [])) (accepted T)
      (λ x k. has_wider x.cause x.namespace x.subject (accepted T) a k) h.activations);
  records = all_more (λ (r : Record). HasCause r.cause r.namespace r.subject (accepted T)) (λ (r : Record). HasCause r.cause r.namespace r.subject (accepted T ++ a ∷ [])) (records T)
      (λ r k. has_wider r.cause r.namespace r.subject (accepted T) a k) h.records;
}

pub one_more : (item : Item) (T : Trace) → IsOfCause item T → AreOfCauses T → AreOfCauses (item ∷ T)
one_more (Accepted a) T new h = of_accepted a T new h
one_more (Ended e) T new h = record {
  activations = h.activations;
  records = all_push (λ (r : Record). HasCause r.cause r.namespace r.subject (accepted T)) (record_of e) (records T)
      (all_among (λ (x : Activation). HasCause x.cause x.namespace x.subject (accepted T)) e.task (accepted T) new h.activations) h.records;
}
one_more (Fired r) T new h = record {
  activations = h.activations;
  records = all_push (λ (x : Record). HasCause x.cause x.namespace x.subject (accepted T)) r (records T)
      (subst (λ (o : Option Id). HasCause o r.namespace r.subject (accepted T)) (sym new) tt) h.records;
}
one_more item T new h = record { activations = h.activations; records = h.records }

-- ---- steps

child_caused : (rs : Standing) (at : ℕ) (p a : Activation) (T : Trace) → IsChild rs at p a T → HasCause a.cause a.namespace a.subject (accepted T)
child_caused rs at p a T child =
    subst (λ (o : Option Id). HasCause o a.namespace a.subject (accepted T)) (sym child.cause_is)
    (record { cause = p; among = child.among; is = refl; home = child.namespace; name = child.subject })

not_fired : (at : ℕ) (p : Activation) (f : Frame) (x : Advance) (r : Record) → Fired r ≡ item_of at p f x → r.cause ≡ None
not_fired at p f (Call plan) r is = cc
not_fired at p f (End response) r is = cc

pub driven_caused : (rs : Standing) (at : ℕ) (item : Item) (T : Trace) → IsDriven rs at item T → IsOfCause item T
driven_caused rs at (Accepted a) T d = child_caused rs at d.composite.task a T (child_of rs at a T d)
driven_caused rs at (Ended e) T d = (end_of rs at e T d).among
driven_caused rs at (Fired r) T d = not_fired at d.composite.task d.frame d.advance r d.is
driven_caused rs at item T d = tt

-- ---- chains

accepted_caused : (S : Sight) (a : Activation) (T : Trace) → IsAccepted S a T ⊎ IsDriven (rows_standing S.rows) S.moment (Accepted a) T → HasCause a.cause a.namespace a.subject (accepted T)
accepted_caused S a T (inl ok) = subst (λ (o : Option Id). HasCause o a.namespace a.subject (accepted T)) (sym ok.uncaused) tt
accepted_caused S a T (inr driven) = driven_caused (rows_standing S.rows) S.moment (Accepted a) T driven

step_caused : (S : Sight) (item : Item) (T : Trace) → IsSound S.trace → IsStep S item T → IsOfCause item T
step_caused S (Accepted a) T sound step = accepted_caused S a T step.is
step_caused S (Ended e) T sound step =
    let ended = (step.right sound).0 in
    subst (λ (x : Activation). IsAmong x (accepted T)) (sym ended.2) (found_among (is_of e.task.id) (standing T) (accepted T) ended.0 ended.1)
step_caused S (Fired r) T sound step = ap (λ (x : Record). x.cause) step.is.made
step_caused S item T sound step = tt

chain_caused : (S : Sight) (items : Trace) → AreSteps S items → IsSound S.trace → AreOfCauses S.trace → AreOfCauses (items ++ S.trace)
chain_caused S [] steps sound before = before
chain_caused S (item ∷ items) steps sound before =
    one_more item (items ++ S.trace) (step_caused S item (items ++ S.trace) sound steps.0) (chain_caused S items steps.1 sound before)

decided_caused : (S : Sight) (event : Event) → IsSound S.trace → AreOfCauses S.trace → AreOfCauses ((decide S event).items ++ S.trace)
decided_caused S event =
    by_decision S (λ (items : Trace). IsSound S.trace → AreOfCauses S.trace → AreOfCauses (items ++ S.trace)) (chain_caused S)
    (λ counts rs sound before. one_more (Resumed counts rs) S.trace tt before) event

-- ---- after the entries of a log

pub all_caused : (t : Table) (B : History) → AreOfCauses (seen t B).trace
all_caused t [] = record { activations = tt; records = tt }
all_caused t (e ∷ B) = decided_caused (sight t (seen t B) (counted B) e.at) e.event (seen_sound t B) (all_caused t B)

-- ---- what is seen

has_seen : (h : Holder) (namespace subject : List ℕ) (xs : List Activation) (cause : Option Id) → HasCause cause namespace subject xs
    → IfSome cause (λ (id : Id). (x : Activation) × (IsAmong x xs × ((x.id ≡ id) × (may_read h.rights namespace ≡ may_read h.rights x.namespace))))
has_seen h namespace subject xs None c = tt
has_seen h namespace subject xs (Some id) c = (c.cause, (c.among, (c.is, ap (may_read h.rights) c.home)))

all_seen : (h : Holder) (xs : List Activation) (rs : List Record) → AllByRecursion (λ (r : Record). HasCause r.cause r.namespace r.subject xs) rs → AllByRecursion (λ (r : Record). IsSeenAsCause h r xs) rs
all_seen h xs [] all = tt
all_seen h xs (r ∷ rs) all = (has_seen h r.namespace r.subject xs r.cause all.0, all_seen h xs rs all.1)

pub seen_as_causes : (T : Trace) → AreOfCauses T → RecordsAreSeenAsCauses T
seen_as_causes T causes h = all_seen h (accepted T) (records T) causes.records
