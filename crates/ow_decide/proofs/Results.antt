-- What follows of a result.
use Rattle.std.proofs.Common.{IfOk, OnOk, Result, Ok, Err}
use Rattle.ow_http.specs.Steps.{◌>>=◌}
use Rattle.ow_http.specs.declared.reason.Reason.{Reason}

pub if_ok_map : {T E : Type 0} (r : Result T E) (P Q : T → Type 0) → ((x : T) → P x → Q x) → IfOk r P → IfOk r Q
if_ok_map (Ok x) P Q f p = f x p
if_ok_map (Err e) P Q f p = p

-- of what isn't refused the rest is asked
pub then_ok : {X Y : Type 0} (N : Y → Type 0) (r : Result X Reason) (f : X → Result Y Reason) → ((x : X) → IfOk (f x) N) → IfOk (r >>= f) N
then_ok N (Ok x) f keeps = keeps x
then_ok N (Err reason) f keeps = tt

pub then_from : {X Y : Type 0} (M : X → Type 0) (N : Y → Type 0) (r : Result X Reason) (f : X → Result Y Reason) → IfOk r M → ((x : X) → M x → IfOk (f x) N) → IfOk (r >>= f) N
then_from M N (Ok x) f made keeps = keeps x made
then_from M N (Err reason) f made keeps = tt

pub if_ok_both : {T E : Type 0} (r : Result T E) (P Q R : T → Type 0) → ((x : T) → P x → Q x → R x) → IfOk r P → IfOk r Q → IfOk r R
if_ok_both (Ok x) P Q R f p q = f x p q
if_ok_both (Err e) P Q R f p q = p

pub on_both : {T E : Type 0} (r : Result T E) (P Q R : Type 0) → (P → Q → R) → OnOk r P → OnOk r Q → OnOk r R
on_both (Ok x) P Q R f p q = f p q
on_both (Err e) P Q R f p q = p
