-- What holds of each of some items.
use Rattle.std.proofs.Common.{◌++◌, [], ◌∷◌, append_assoc, subst, sym}
use Rattle.std.specs.List.{AllByRecursion}
use Rattle.ow_floor.specs.Trace.{Item, Trace}
use Rattle.ow_trees.specs.Each.{AreEach}

pub each_append : (P : Item → Trace → Type 0) (xs ys T : Trace) → AreEach P xs (ys ++ T) → AreEach P ys T → AreEach P (xs ++ ys) T
each_append P [] ys T first second = second
each_append P (x ∷ xs) ys T first second = (subst (λ (S : Trace). P x S) (sym (append_assoc xs ys T)) first.0, each_append P xs ys T first.1 second)

pub each_more : (P Q : Item → Trace → Type 0) → ((item : Item) (T : Trace) → P item T → Q item T) → (xs T : Trace) → AreEach P xs T → AreEach Q xs T
each_more P Q f [] T each = tt
each_more P Q f (x ∷ xs) T each = (f x (xs ++ T) each.0, each_more P Q f xs T each.1)

pub each_all : (P : Item → Type 0) (xs T : Trace) → AreEach (λ item S. P item) xs T → AllByRecursion P xs
each_all P [] T each = tt
each_all P (x ∷ xs) T each = (each.0, each_all P xs T each.1)
