-- For private clauses: what is done through a connection, where there is one.
use Rattle.std.specs.Prelude.{◌≡◌, Result, Ok, Err}

-- an error in its place stays
abbrev pub Through : {C E : Type 0} → (C → C → Type 0) → Result C E → Result C E → Type 0
Through Goes (Ok old) (Ok new) = Goes old new
Through Goes (Ok old) (Err error) = ⊥
Through Goes (Err error) new = new ≡ Err error
