-- The parts of a path between its slashes.
use Rattle.std.specs.Prelude.{zero, suc, ℕ, List}
use Rattle.std.specs.List.{before_first, after_first}
use Rattle.percent_encoding.specs.Percent.{percent_decode}
use Rattle.ow_names.specs.Slash.{is_slash}

-- what follows the first n slashes
abbrev pub after_slashes : ℕ → List ℕ → List ℕ
after_slashes zero path = path
after_slashes (suc n) path = after_slashes n (after_first is_slash path)

-- the segment after the first n slashes
abbrev pub segment_at : ℕ → List ℕ → List ℕ
segment_at n path = before_first is_slash (after_slashes n path)

-- the segment, percent-decoded
unfoldable pub part_at : ℕ → List ℕ → List ℕ
part_at n path = percent_decode (segment_at n path)
