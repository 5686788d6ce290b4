-- The names of web requests.
use Rattle.std.proofs.Common.{◌≡◌, ◌∙◌, ℕ, Bool, true, false, if◌then◌else◌, List, Option, refl, ap, codes}
use Rattle.std.specs.Str.{bytes_eq}
use Rattle.ow_names.specs.Name.{first_fault}
use Rattle.ow_names.specs.Path.{home, named, named_in, or_fault, within}

by_self : (b : Bool) (namespace : List ℕ) → (if b then namespace else namespace) ≡ namespace
by_self true namespace = refl
by_self false namespace = refl

-- a namespace that is read from within itself is read as it is written
pub within_so : (here namespace : List ℕ) (parent : Option (List ℕ)) (name : List ℕ) → here ≡ namespace → named_in here namespace parent name ≡ within namespace parent name
within_so here namespace parent name is =
    ap (λ (h : List ℕ). or_fault (first_fault namespace) (named (home h namespace) parent name)) is
    ∙ ap (λ (n : List ℕ). or_fault (first_fault namespace) (named n parent name)) (by_self (bytes_eq namespace (codes "_")) namespace)
