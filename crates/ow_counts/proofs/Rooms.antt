-- What is admitted had room.
use Rattle.std.proofs.Common.{◌≡◌, ◌<◌, Bool, true, false, cond, leb, Result, Ok, Err, refl, arith}
use Rattle.std.proofs.lemmas.Bool.{leb-false}
use Rattle.ow_records.specs.declared.activations.Activation.{Activation}
use Rattle.ow_floor.specs.Trace.{Trace}
use Rattle.ow_records.specs.declared.record.Record.{Record}
use Rattle.ow_counts.specs.Counts.{admitted, busy, concurrent, fire_admitted, fires, minute, most_busy}
use Rattle.ow_counts.specs.Within.{HadRoom, LimitsByName}
use Rattle.ow_counts.specs.declared.refusal.LimitRefusal.{LimitRefusal}

-- what three tests let through
passed : (a b c : Bool) (x y z : LimitRefusal) (e : Result (Unit {0}) LimitRefusal) → cond a (Err x) (cond b (Err y) (cond c (Err z) (Ok tt))) ≡ e → e ≡ Ok tt → (a ≡ false) × (b ≡ false) × (c ≡ false)
passed true b c x y z e is ok = cc
passed false true c x y z e is ok = cc
passed false false true x y z e is ok = cc
passed false false false x y z e is ok = (refl, refl, refl)

pub had_room : (limits : LimitsByName) (a : Activation) (T : Trace) → admitted T a.namespace (limits a.namespace) a.at ≡ Ok tt → HadRoom limits a T
had_room limits a T ok =
    let all : (leb most_busy (busy T) ≡ false) × (leb (limits a.namespace).per_minute (minute T a.namespace a.at) ≡ false) × (leb (limits a.namespace).concurrent (concurrent T a.namespace) ≡ false) = passed _ _ _ _ _ _ _ refl ok in
    record {
      busy = omega (arith, leb-false most_busy (busy T) all.0);
      minute = omega (arith, leb-false _ (minute T a.namespace a.at) all.1);
      concurrent = omega (arith, leb-false _ (concurrent T a.namespace) all.2);
    }

passed_one : (a : Bool) (x : LimitRefusal) (e : Result (Unit {0}) LimitRefusal) → cond a (Err x) (Ok tt) ≡ e → e ≡ Ok tt → a ≡ false
passed_one true x e is ok = cc
passed_one false x e is ok = refl

pub fires_had_room : (limits : LimitsByName) (r : Record) (T : Trace) → fire_admitted T r.namespace (limits r.namespace) r.span.start ≡ Ok tt → fires T r.namespace r.span.start < (limits r.namespace).fires
fires_had_room limits r T ok =
    let room : leb (limits r.namespace).fires (fires T r.namespace r.span.start) ≡ false = passed_one _ _ _ refl ok in
    omega (arith, leb-false _ (fires T r.namespace r.span.start) room)
