-- What is true of records that are written and read back, of ids and of abandoned activations.
use Rattle.std.specs.Prelude.{◌≡◌, ℕ, List, Some, None}
use Rattle.ow_value.specs.Value.{V}
use Rattle.ow_records.specs.Id.{id_of, id_text}
use Rattle.ow_records.specs.Known.{IsId, IsKnown}
use Rattle.ow_records.specs.LowerId.{id_of_lower}
use Rattle.ow_records.specs.Record.{record_of}
use Rattle.ow_records.specs.RecordIn.{record_from, record_in}
use Rattle.ow_records.specs.Unrecorded.{abandoned_record, unrecorded_of}
use Rattle.ow_records.specs.Written.{record_value}
use Rattle.ow_records.specs.declared.activations.Activation.{Activation}
use Rattle.ow_records.specs.declared.ids.Id.{Id}
use Rattle.ow_records.specs.declared.outcomes.Ending.TheVariants.{Abandoned}
use Rattle.ow_records.specs.declared.record.Record.{Record}

abbrev pub IdsReadBack : Type 0
IdsReadBack = (id : Id) → IsId id → id_of (id_text id) ≡ Some id

-- digits in lower case are read as exactly the ids of which they are the texts
abbrev pub LowerIdsReadBack : Type 0
LowerIdsReadBack = (id : Id) → IsId id → id_of_lower (id_text id) ≡ Some id

abbrev pub LowerIsRead : Type 0
LowerIsRead = (text : List ℕ) (id : Id) → id_of_lower text ≡ Some id → IsId id × (text ≡ id_text id) × (id_of text ≡ Some id)

abbrev pub IdTextsDiffer : Type 0
IdTextsDiffer = (a b : Id) → IsId a → IsId b → id_text a ≡ id_text b → a ≡ b

-- a value that reads as a record is what is written of it
abbrev pub ReadIsWritten : Type 0
ReadIsWritten = (v : V) (r : Record) → record_in v ≡ Some r → record_value r ≡ v

abbrev pub WrittenIsRead : Type 0
WrittenIsRead = (r : Record) → IsKnown r → record_in (record_value r) ≡ Some r

-- the same of what is read and not confirmed
abbrev pub FieldsReadBack : Type 0
FieldsReadBack = (r : Record) → IsKnown r → record_from (record_value r) ≡ Some r

abbrev pub AbandonedIsRecorded : Type 0
AbandonedIsRecorded = (a : Activation) (at : ℕ) → abandoned_record (unrecorded_of a) at ≡ record_of a Abandoned None None at
