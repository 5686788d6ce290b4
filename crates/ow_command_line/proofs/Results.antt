-- What holds of a result's variant, and of a sink that took nothing.
use Rattle.std.proofs.Common.{ℕ, List, [], Option, Some, None, Result, Ok, Err, OnErr, OnOk, refl, ap, sym, append-nil}
use Rattle.ow_traits.specs.Streams.{Takes}

pub on_err : {T E P Q : Type 0} (r : Result T E) → OnErr r P → (P → Q) → OnErr r Q
on_err (Ok x) holds f = tt
on_err (Err e) holds f = f holds

pub on_ok : {T E P Q : Type 0} (r : Result T E) → OnOk r P → (P → Q) → OnOk r Q
on_ok (Ok x) holds f = f holds
on_ok (Err e) holds f = tt

pub takes_none : (old : Option (List ℕ)) → Takes old old []
takes_none None = refl
takes_none (Some before) = ap Some (sym (append-nil before))
