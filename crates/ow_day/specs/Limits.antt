-- The limits of a day, in bytes.
use Rattle.std.specs.Prelude.{ℕ}

-- the most bytes of a day
abbrev pub most_bytes : ℕ
most_bytes = 1073741824

-- the most bytes of a line without its newline, and of a request
abbrev pub most_line : ℕ
most_line = 8388608

-- the most bytes that are read at once
abbrev pub most_piece : ℕ
most_piece = 65536

-- as soon as this many bytes of answers are ready, they are written, for private clauses
abbrev pub most_ready : ℕ
most_ready = 1048576
