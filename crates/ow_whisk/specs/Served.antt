-- For private clauses: the exit status of each way in which a service ends, and the tables that one can be opened over.
use Rattle.std.specs.Prelude.{ℕ}
use Rattle.ow_traits.specs.Prewarms.{AreWantsSized}
use Rattle.ow_tenant.specs.Table.{IsPoolSized}
use Rattle.ow_command_line.specs.declared.status.Status.{Status}
use Rattle.ow_command_line.specs.declared.status.Status.TheVariants as statuses
use Rattle.ow_serve.specs.declared.served.ServedEnd.{ServedEnd}
use Rattle.ow_serve.specs.declared.served.ServedEnd.TheVariants as ends

abbrev pub served_number : ServedEnd → ℕ
served_number ends.Closed = 0
served_number ends.StoreFault = 5
served_number ends.NoMemory = 7
served_number (ends.BadKept key) = 9
served_number ends.ListenFault = 10
served_number ends.NoWorker = 11
served_number (ends.Unmatched difference) = 12

-- where a service is passed on, containers fit the pool of its table
abbrev pub IsSized : Status → Type 0
IsSized (statuses.Passed words table) = AreWantsSized table.wants × IsPoolSized table.pool
IsSized other = Unit {0}
