-- How deep the lists and objects of a text may nest.
use Rattle.std.specs.Prelude.{ℕ}

abbrev pub most_nested : ℕ
most_nested = 100

-- of a kept record, which nests two deeper than the result in it
abbrev pub most_nested_record : ℕ
most_nested_record = 102
