-- For how many days records are retained.
use Rattle.std.specs.Prelude.{◌≤◌, ℕ}

-- a `retain` row may give this many days
abbrev pub AreDays : ℕ → Type 0
AreDays days = (1 ≤ days) × (days ≤ 3650)
