-- The number by which a client knows each refusal of a value.
use Rattle.std.specs.Prelude.{ℕ}
use Rattle.ow_value.specs.declared.reader.ValueRefusal.{ValueRefusal}
use Rattle.ow_value.specs.declared.reader.ValueRefusal.TheVariants.{NotJson, NotWhole, TooDeep, NoMemory}

abbrev pub refusal_number : ValueRefusal → ℕ
refusal_number NoMemory = 0
refusal_number NotJson = 1
refusal_number NotWhole = 2
refusal_number TooDeep = 3
