-- For private clauses: what an error of an accept concerns.
use Rattle.std.specs.Prelude.{ℤ, pos, Option, Some, if◌then◌else◌, ◌==◌, ◌||◌}
use Rattle.ow_system.specs.declared.blame.Blamed.{Blamed}
use Rattle.ow_system.specs.declared.blame.Blamed.TheVariants.{Connection, Want, Listener}
use Rattle.std.specs.declared.io.ErrorKind.{ErrorKind}
use Rattle.std.specs.declared.io.ErrorKind.TheVariants.{ConnectionAborted, ConnectionReset, HostUnreachable, Interrupted, NetworkDown, NetworkUnreachable, OutOfMemory, TimedOut}

-- what is to blame for an error whose kind doesn't say: on Linux 23 is a lack of files, 24 of descriptors, and 105 of room for buffers; 64
-- (no network), 71 (protocol), 92 (no such option) and 112 (host down) are pending errors of the connection that came
abbrev pub blamed_by_number : Option ℤ → Blamed
blamed_by_number (Some (pos n)) = if n == 23 || n == 24 || n == 105 then Want else if n == 64 || n == 71 || n == 92 || n == 112 then Connection else Listener
blamed_by_number code = Listener

-- what is to blame for an error of an accept, by its kind, or else by the system's number
abbrev pub blamed : ErrorKind → Option ℤ → Blamed
blamed ConnectionAborted code = Connection
blamed ConnectionReset code = Connection
blamed HostUnreachable code = Connection
blamed Interrupted code = Connection
blamed NetworkDown code = Connection
blamed NetworkUnreachable code = Connection
blamed TimedOut code = Connection
blamed OutOfMemory code = Want
blamed kind code = blamed_by_number code
