-- The answer to a request that collects the end of an activation.
use Rattle.std.specs.Prelude.{ℕ, Option, Some, None, if◌then◌else◌, nat_lt, Result, Ok, Err}
use Rattle.ow_records.specs.declared.ids.Id.{Id}
use Rattle.ow_records.specs.declared.record.Record.{Record}
use Rattle.ow_floor.specs.declared.answers.Collected.{Collected}
use Rattle.ow_floor.specs.declared.answers.Collected.TheVariants as answers
use Rattle.ow_floor.specs.declared.answers.FloorRefusal.{FloorRefusal}
use Rattle.ow_floor.specs.declared.answers.FloorRefusal.TheVariants.{NotFound, NoRun, NoSlot}
use Rattle.ow_floor.specs.Trace.{Trace, shown_of, wait_of}

-- no request waits for it; its record; its request still waits; its request waits no longer
pub data Collection : Type 0 where
  Unknown : Collection
  Recorded : (ended : Record) → Collection
  NotYet : Collection
  Elapsed : Collection

-- by the moment until which the request waits, and by the record that is shown
abbrev pub collected_by : ℕ → Option ℕ → Option Record → Collection
collected_by at None ended = Unknown
collected_by at (Some until) (Some r) = Recorded r
collected_by at (Some until) None = if nat_lt at until then NotYet else Elapsed

-- at this moment
abbrev pub collected : ℕ → Id → Trace → Collection
collected at id T = collected_by at (wait_of T id) (shown_of T id)

-- what an answer of `collect` says
abbrev pub collection_of : Result Collected FloorRefusal → Collection
collection_of (Err refusal) = Unknown
collection_of (Ok (answers.Recorded r)) = Recorded r.now
collection_of (Ok answers.NotYet) = NotYet
collection_of (Ok answers.Elapsed) = Elapsed

-- the number of a refusal
abbrev pub refusal_number : FloorRefusal → ℕ
refusal_number NotFound = 14
refusal_number (NoSlot slot kept) = 28
refusal_number (NoRun run) = 29
