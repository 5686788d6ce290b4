-- The first of what is found in a list.
use Rattle.std.proofs.Common.{◌≡◌, ◌⊎◌, List, [], ◌∷◌, Option, Some, None, refl, inl, inr, ⊎_elim}
use Rattle.std.specs.List.{All}
use Rattle.std.specs.Option.{option_or}
use Rattle.std.proofs.lemmas.List.Elements.{All-cons, All-head, All-nil, All-tail}
use Rattle.ow_audit.specs.First.{first_found}

or_none : {X : Type 0} (a b : Option X) → option_or a b ≡ None → (a ≡ None) × (b ≡ None)
or_none None b e = (refl, e)
or_none (Some x) b e = cc e

or_some : {X : Type 0} (a b : Option X) (x : X) → option_or a b ≡ Some x → (a ≡ Some x) ⊎ (b ≡ Some x)
or_some None b x e = inr e
or_some (Some y) b x e = inl e

-- where nothing is found, nothing is at each
pub none_first : {X Y : Type 0} (f : X → Option Y) (xs : List X) → first_found f xs ≡ None → All (λ x. f x ≡ None) xs
none_first f [] e = All-nil (λ x. f x ≡ None)
none_first f (x ∷ xs) e = let each = or_none (f x) (first_found f xs) e in All-cons (λ y. f y ≡ None) x xs each.0 (none_first f xs each.1)

-- what is found is found at one of them, at which something else doesn't hold
pub some_first : {X Y : Type 0} (f : X → Option Y) (P : X → Type 0) (y : Y) → ((x : X) → f x ≡ Some y → P x → ⊥) → (xs : List X) → first_found f xs ≡ Some y → All P xs → ⊥
some_first f P y not [] e all = cc e
some_first f P y not (x ∷ xs) e all = ⊎_elim (λ h. not x h (All-head P x xs all)) (λ h. some_first f P y not xs h (All-tail P x xs all)) (or_some (f x) (first_found f xs) y e)
