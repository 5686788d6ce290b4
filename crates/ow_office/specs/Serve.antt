-- The command `serve`: the office reads the table, and passes the service on.
use Rattle.std.specs.Prelude.{◌≡◌}
use Rattle.ow_tenant.specs.Table.{Table}
use Rattle.ow_command_line.specs.declared.command.ServeWords.{ServeWords}
use Rattle.ow_command_line.specs.declared.status.Status.{Status}
use Rattle.ow_command_line.specs.declared.status.Status.TheVariants as statuses
use Rattle.ow_office.specs.Sides.{Sides, TouchesTable}

-- a service is passed on with the words and this table
abbrev pub PassesOn : ServeWords → Table → Sides → Sides → Status → Type 0
PassesOn asked t before after (statuses.Passed words tenants) = (words ≡ asked) × (tenants ≡ t) × TouchesTable before after
PassesOn asked t before after other = ⊥
