-- What is known on success.
use Rattle.std.proofs.Common.{◌≡◌, false, subst, sym}
use Rattle.std.specs.Prelude.{IfOk, IsOk, OnOk, Result, Ok, Err, is_err}

pub certain : {A E : Type 0} (r : Result A E) (P : Type 0) → OnOk r P → IsOk r → P
certain (Ok a) P h ok = h
certain (Err e) P h ok = cc

pub sure : {A E : Type 0} (r : Result A E) (P : Type 0) → OnOk r P → false ≡ is_err r → P
sure (Ok a) P h ok = h
sure (Err e) P h ok = cc

pub on_ok : {A E : Type 0} (r : Result A E) (P : Type 0) → P → OnOk r P
on_ok (Ok a) P h = h
on_ok (Err e) P h = tt

-- what holds of the value that a result has on success
pub on_value : {A E : Type 0} (r : Result A E) (P : A → Type 0) (a : A) → IfOk r (λ x. x ≡ a) → P a → IfOk r P
on_value (Ok x) P a is h = subst P (sym is) h
on_value (Err e) P a is h = tt

-- what holds on success where something else does
pub on_more : {A E : Type 0} (r : Result A E) (P Q : Type 0) → (P → Q) → OnOk r P → OnOk r Q
on_more (Ok a) P Q f h = f h
on_more (Err e) P Q f h = tt

-- what holds of the value on success where something else does
pub if_more : {A E : Type 0} (r : Result A E) (P Q : A → Type 0) → ((a : A) → P a → Q a) → IfOk r P → IfOk r Q
if_more (Ok a) P Q f h = f a h
if_more (Err e) P Q f h = tt

pub if_on : {A E : Type 0} (r : Result A E) (P : A → Type 0) (Q : Type 0) → ((a : A) → P a → Q) → IfOk r P → OnOk r Q
if_on (Ok a) P Q f h = f a h
if_on (Err e) P Q f h = tt
