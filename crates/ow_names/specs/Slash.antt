-- The byte between the parts of a path.
use Rattle.std.specs.Prelude.{◌≡◌, ◌==◌, ℕ, List, Bool, false}
use Rattle.std.specs.List.{All}

abbrev pub is_slash : ℕ → Bool
is_slash b = b == 47

-- no byte of the part is a slash
abbrev pub HasNoSlash : List ℕ → Type 0
HasNoSlash = All (λ b. is_slash b ≡ false)
