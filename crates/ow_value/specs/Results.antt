-- Several results as one: the first refusal, or all values.
use Rattle.std.specs.Prelude.{Result, Ok, Err}

abbrev pub joined2 : {A B F : Type 0} → Result A F → Result B F → Result (A × B) F
joined2 (Err e) b = Err e
joined2 (Ok a) (Err e) = Err e
joined2 (Ok a) (Ok b) = Ok (a, b)

abbrev pub joined3 : {A B C F : Type 0} → Result A F → Result B F → Result C F → Result (A × B × C) F
joined3 (Err e) b c = Err e
joined3 (Ok a) (Err e) c = Err e
joined3 (Ok a) (Ok b) (Err e) = Err e
joined3 (Ok a) (Ok b) (Ok c) = Ok (a, b, c)
