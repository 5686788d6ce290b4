-- The number of each refusal.
use Rattle.std.specs.Prelude.{ℕ}
use Rattle.ow_keep.specs.declared.refusal.KeepRefusal.{KeepRefusal}
use Rattle.ow_keep.specs.declared.refusal.KeepRefusal.TheVariants.{BadKept, NoMemory}

abbrev pub refusal_number : KeepRefusal → ℕ
refusal_number NoMemory = 0
refusal_number (BadKept key) = 30
