-- The number by which a client knows each refusal.
use Rattle.std.specs.Prelude.{ℕ}
use Rattle.ow_entity.specs.declared.refusal.EntityRefusal.{EntityRefusal}
use Rattle.ow_entity.specs.declared.refusal.EntityRefusal.TheVariants.{MissingField, WrongType, OutOfRange, UnknownKind, TooLarge, BadName, LastVersion, NoMemory}
use Rattle.ow_names.specs.Refusal as names

abbrev pub refusal_number : EntityRefusal → ℕ
refusal_number NoMemory = 0
refusal_number (MissingField name) = 9
refusal_number (WrongType name) = 10
refusal_number (OutOfRange name) = 11
refusal_number UnknownKind = 12
refusal_number TooLarge = 13
refusal_number (BadName e) = names.refusal_number e
refusal_number LastVersion = 18
