-- A name and its value: of a header, of a query.
use Rattle.std.specs.Prelude.{ℕ, List}

abbrev pub Pair : Type 0
Pair = List ℕ × List ℕ
