-- What texts are code, and what is wrong with others.
use Rattle.std.specs.Prelude.{ℕ, List, length, nat_lt, is_some, if◌then◌else◌, Result, Ok, Err}
use Rattle.ow_value.specs.declared.measure.TheConstants.{MEGABYTE}
use Rattle.ow_entity.specs.declared.field_name.FieldName.TheVariants as fields
use Rattle.ow_entity.specs.declared.refusal.EntityRefusal.{EntityRefusal}
use Rattle.ow_entity.specs.declared.refusal.EntityRefusal.TheVariants.{WrongType, TooLarge}
use Rattle.ow_entity.specs.PlainCode.{plain_cases}

-- the name of a program
abbrev pub program_name : List ℕ → Result (List ℕ) EntityRefusal
program_name text = if nat_lt MEGABYTE (length text) then Err TooLarge else Ok text

abbrev pub plain_code : List ℕ → Result (List ℕ) EntityRefusal
plain_code text =
    if nat_lt MEGABYTE (length text) then Err TooLarge
    else if is_some (plain_cases text) then Ok text
    else Err (WrongType fields.Code)
