-- The parts of a text, for private clauses.
use Rattle.std.specs.Prelude.{◌≡◌, ◌<◌, ℕ, List, [], ◌∷◌, length, Option, Some, None}
use Rattle.std.specs.Borrow.{Bor}
use Rattle.ow_names.specs.Path.{parts}
use Rattle.ow_names.specs.declared.paths.Parts.{Parts}
use Rattle.ow_names.specs.declared.paths.Parts.TheVariants.{One, Two, Three, Four, More}

abbrev pub AreParts : Parts → List (List ℕ) → Type 0
AreParts (One a) ps = ps ≡ a.now ∷ []
AreParts (Two a b) ps = ps ≡ a.now ∷ b.now ∷ []
AreParts (Three a b c) ps = ps ≡ a.now ∷ b.now ∷ c.now ∷ []
AreParts (Four a b c d) ps = ps ≡ a.now ∷ b.now ∷ c.now ∷ d.now ∷ []
AreParts More ps = 4 < length ps

abbrev pub CutsFirst : Option (Bor (List ℕ) × Bor (List ℕ)) → List ℕ → Type 0
CutsFirst None s = parts s ≡ s ∷ []
CutsFirst (Some x) s = parts s ≡ x.0.now ∷ parts x.1.now
