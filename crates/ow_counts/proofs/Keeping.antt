-- How the counts follow one more note, and what they admit.
use Rattle.std.proofs.Common.{◌≡◌, ◌+◌, ◌-◌, ◌≤◌, ◌<◌, ℕ, Bool, true, false, cond, List, ◌∷◌, Result, Ok, Err, refl, sym, ap, ◌∙◌, arith}
use Rattle.std.specs.Prelude.{nat_le}
use Rattle.std.proofs.lemmas.Bool.{le-leb, lt-leb}
use Rattle.ow_floor.specs.Trace.{Trace}
use Rattle.ow_floor.specs.Laws.{IsSound}
use Rattle.ow_tenant.specs.Notes as notes
use Rattle.ow_tenant.specs.Notes.{Notes, ended, fired, invoked}
use Rattle.ow_tenant.specs.Windows.{StandsAs}
use Rattle.ow_tenant.specs.declared.limits.NamespaceLimits.{NamespaceLimits}
use Rattle.ow_tenant.specs.declared.refusal.WindowRefusal.{WindowRefusal}
use Rattle.ow_tenant.specs.declared.refusal.WindowRefusal.TheVariants.{MinuteLimit, ConcurrentLimit, FireLimit}
use Rattle.ow_counts.specs.Counts.{admitted, busy, concurrent, fire_admitted, minute, most_busy}
use Rattle.ow_counts.specs.View.{CountsView, MayEnd, StandsFor, is_end, is_invocation, notes_of}
use Rattle.ow_counts.specs.declared.refusal.LimitRefusal.{LimitRefusal}
use Rattle.ow_counts.specs.declared.refusal.LimitRefusal.TheVariants.{OfficeBusy, OfNamespace}
use Rattle.ow_counts.proofs.Counting.{count-cons}
use Rattle.ow_counts.proofs.Noting.{busy_noted, concurrent_noted, fires_noted, minute_noted}

-- ---- one more note

pub keeps_invoked : (v w : CountsView) (n : List ℕ) (at : ℕ) (ns : Notes) → StandsAs w.windows (invoked n at ∷ ns) → w.busy ≡ v.busy + 1 → StandsFor v ns → StandsFor w (invoked n at ∷ ns)
keeps_invoked v w n at ns stands more h = record {
  windows = stands;
  busy = omega (arith, more, h.busy, count-cons is_end (invoked n at) ns, count-cons is_invocation (invoked n at) ns);
}

pub keeps_ended : (v w : CountsView) (n : List ℕ) (ns : Notes) → StandsAs w.windows (ended n ∷ ns) → w.busy ≡ v.busy - 1 → MayEnd n ns → StandsFor v ns → StandsFor w (ended n ∷ ns)
keeps_ended v w n ns stands less may h = record {
  windows = stands;
  busy = omega (arith, less, may.everywhere, h.busy, count-cons is_end (ended n) ns, count-cons is_invocation (ended n) ns);
}

pub keeps_fired : (v w : CountsView) (n : List ℕ) (at : ℕ) (ns : Notes) → StandsAs w.windows (fired n at ∷ ns) → w.busy ≡ v.busy → StandsFor v ns → StandsFor w (fired n at ∷ ns)
keeps_fired v w n at ns stands same h = record {
  windows = stands;
  busy = omega (arith, same, h.busy, count-cons is_end (fired n at) ns, count-cons is_invocation (fired n at) ns);
}

pub kept : (v w : CountsView) (ns : Notes) → StandsAs w.windows ns → w.busy ≡ v.busy → StandsFor v ns → StandsFor w ns
kept v w ns stands same h = record { windows = stands; busy = omega (arith, same, h.busy) }

-- ---- what is admitted

abbrev of_namespace : Result (Unit {0}) WindowRefusal → Result (Unit {0}) LimitRefusal
of_namespace (Ok u) = Ok u
of_namespace (Err e) = Err (OfNamespace e)

of_tests : (a b : Bool) (x y : WindowRefusal) → of_namespace (cond a (Err x) (cond b (Err y) (Ok tt))) ≡ cond a (Err (OfNamespace x)) (cond b (Err (OfNamespace y)) (Ok tt))
of_tests true b x y = refl
of_tests false true x y = refl
of_tests false false x y = refl

-- where `most_busy` invocations or more have not ended
pub busy_refused : (T : Trace) (v : CountsView) (n : List ℕ) (limits : NamespaceLimits) (now : ℕ) → StandsFor v (notes_of T) → IsSound T → most_busy ≤ v.busy
    → Err OfficeBusy ≡ admitted T n limits now
busy_refused T v n limits now h sound many =
    let full : nat_le most_busy (busy T) ≡ true = le-leb most_busy (busy T) (omega (arith, many, busy_noted T v h sound)) in
    rw full refl

-- else the namespace's own limits decide
pub window_admits : (T : Trace) (v : CountsView) (n : List ℕ) (limits : NamespaceLimits) (now : ℕ) (r : Result (Unit {0}) WindowRefusal) → StandsFor v (notes_of T) → IsSound T → v.busy < most_busy
    → r ≡ notes.admitted (notes_of T) n limits now → of_namespace r ≡ admitted T n limits now
window_admits T v n limits now r h sound few is =
    let free : nat_le most_busy (busy T) ≡ false = lt-leb most_busy (busy T) (omega (arith, few, busy_noted T v h sound)) in
    ap of_namespace is
    ∙ (of_tests (nat_le limits.per_minute (notes.minute (notes_of T) n now)) (nat_le limits.concurrent (notes.concurrent (notes_of T) n)) (MinuteLimit (notes.minute (notes_of T) n now) limits.per_minute) (ConcurrentLimit (notes.concurrent (notes_of T) n) limits.concurrent)
    ∙ (ap (λ (m : ℕ). cond (nat_le limits.per_minute m) (Err (OfNamespace (MinuteLimit m limits.per_minute))) (cond (nat_le limits.concurrent (notes.concurrent (notes_of T) n)) (Err (OfNamespace (ConcurrentLimit (notes.concurrent (notes_of T) n) limits.concurrent))) (Ok tt))) (minute_noted T n now)
    ∙ (ap (λ (m : ℕ). cond (nat_le limits.per_minute (minute T n now)) (Err (OfNamespace (MinuteLimit (minute T n now) limits.per_minute))) (cond (nat_le limits.concurrent m) (Err (OfNamespace (ConcurrentLimit m limits.concurrent))) (Ok tt))) (concurrent_noted T n sound)
    ∙ sym (ap (λ (b : Bool). cond b (Err OfficeBusy) (cond (nat_le limits.per_minute (minute T n now)) (Err (OfNamespace (MinuteLimit (minute T n now) limits.per_minute))) (cond (nat_le limits.concurrent (concurrent T n)) (Err (OfNamespace (ConcurrentLimit (concurrent T n) limits.concurrent))) (Ok tt)))) free))))

of_test : (a : Bool) (x : WindowRefusal) → of_namespace (cond a (Err x) (Ok tt)) ≡ cond a (Err (OfNamespace x)) (Ok tt)
of_test true x = refl
of_test false x = refl

-- the limit of fires alone decides on a fire
pub window_admits_fire : (T : Trace) (n : List ℕ) (limits : NamespaceLimits) (now : ℕ) (r : Result (Unit {0}) WindowRefusal) → r ≡ notes.fire_admitted (notes_of T) n limits now → of_namespace r ≡ fire_admitted T n limits now
window_admits_fire T n limits now r is =
    ap of_namespace is
    ∙ (of_test (nat_le limits.fires (notes.fires (notes_of T) n now)) (FireLimit (notes.fires (notes_of T) n now) limits.fires)
    ∙ ap (λ (m : ℕ). cond (nat_le limits.fires m) (Err (OfNamespace (FireLimit m limits.fires))) (Ok tt)) (fires_noted T n now))
