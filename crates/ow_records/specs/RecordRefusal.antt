-- The number by which a client knows that there is no such record.
use Rattle.std.specs.Prelude.{ℕ}
use Rattle.ow_records.specs.declared.record_refusal.RecordRefusal.{RecordRefusal}
use Rattle.ow_records.specs.declared.record_refusal.RecordRefusal.TheVariants.{BadRecord, NoMemory, NotFound}

abbrev pub record_refusal_number : RecordRefusal → ℕ
record_refusal_number NoMemory = 0
record_refusal_number NotFound = 14
record_refusal_number BadRecord = 30
