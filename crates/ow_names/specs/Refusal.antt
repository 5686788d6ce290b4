-- The number by which a client knows each refusal.
use Rattle.std.specs.Prelude.{ℕ}
use Rattle.ow_names.specs.declared.refusal.NameRefusal.{NameRefusal}
use Rattle.ow_names.specs.declared.refusal.NameRefusal.TheVariants.{BadPath, Empty, TooLong, BadChar, EndsInSpace, NoMemory}

abbrev pub refusal_number : NameRefusal → ℕ
refusal_number NoMemory = 0
refusal_number Empty = 4
refusal_number TooLong = 5
refusal_number (BadChar place) = 6
refusal_number EndsInSpace = 7
refusal_number BadPath = 8
