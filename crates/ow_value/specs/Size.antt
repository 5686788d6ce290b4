-- The units of limits.
use Rattle.std.specs.Prelude.{ℕ}

-- the bytes of 1 MB
abbrev pub megabyte : ℕ
megabyte = 1048576
