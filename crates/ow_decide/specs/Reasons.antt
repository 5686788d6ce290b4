-- What the hall refuses, and what it makes of the refusals of the crates below.
use Rattle.std.specs.Prelude.{Bool, true, false}
use Rattle.ow_value.specs.declared.reader.ValueRefusal.TheVariants.{TooDeep}
use Rattle.ow_entity.specs.declared.refusal.EntityRefusal.TheVariants.{TooLarge}
use Rattle.ow_tables.specs.declared.refusal.TableRefusal.{TableRefusal}
use Rattle.ow_tables.specs.declared.refusal.TableRefusal.TheVariants as tables
use Rattle.ow_tenant.specs.declared.refusal.WindowRefusal.{WindowRefusal}
use Rattle.ow_tenant.specs.declared.refusal.WindowRefusal.TheVariants as windows
use Rattle.ow_counts.specs.declared.refusal.LimitRefusal.{LimitRefusal}
use Rattle.ow_counts.specs.declared.refusal.LimitRefusal.TheVariants as limits
use Rattle.ow_http.specs.declared.call_refusal.CallRefusal.TheVariants as calls
use Rattle.ow_http.specs.declared.reason.Reason.{Reason}
use Rattle.ow_http.specs.declared.reason.Reason.TheVariants.{Call, Service}
use Rattle.ow_http.specs.declared.service_refusal.ServiceRefusal.TheVariants as services
use Rattle.ow_reads.specs.Reasons.{not_found}

-- the parameters of a call have too many bytes
abbrev pub too_large : Reason
too_large = Call (calls.BadEntity TooLarge)

-- values nest deeper than a body may
abbrev pub too_deep : Reason
too_deep = Call (calls.BadValue TooDeep)

-- the floor drains
abbrev pub draining : Reason
draining = Service services.Draining

-- the store has no room
abbrev pub store_full : Reason
store_full = Service services.KeptFull

-- the book is full
abbrev pub book_full : Reason
book_full = Service services.BookFull

-- the reason is that the book is full
abbrev pub tells_full : Reason → Bool
tells_full (Service services.BookFull) = true
tells_full reason = false

-- a refusal of the tables
abbrev pub table_reason : TableRefusal → Reason
table_reason tables.NotFound = not_found
table_reason tables.BindsABinding = Service services.BindsABinding
table_reason tables.Exists = Service services.Exists
table_reason tables.SequenceTooLong = Service services.SequenceTooLong
table_reason tables.SequenceLoops = Service services.SequenceLoops
table_reason tables.NotEmpty = Service services.NotEmpty
table_reason (tables.Entity e) = Call (calls.BadEntity e)
table_reason tables.NoMemory = Call calls.NoMemory

-- a limit of the namespace that is charged
abbrev pub window_reason : WindowRefusal → Reason
window_reason (windows.MinuteLimit count allowed) = Service (services.MinuteLimit count allowed)
window_reason (windows.ConcurrentLimit count allowed) = Service (services.ConcurrentLimit count allowed)
window_reason (windows.FireLimit count allowed) = Service (services.FireLimit count allowed)

-- a limit that one more invocation would pass
abbrev pub limit_reason : LimitRefusal → Reason
limit_reason limits.OfficeBusy = Service services.OfficeBusy
limit_reason (limits.OfNamespace refusal) = window_reason refusal
