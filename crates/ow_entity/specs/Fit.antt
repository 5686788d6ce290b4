-- Within which bounds the texts, the lists and the pairs of entities lie.
use Rattle.std.specs.Prelude.{◌≡◌, ◌≤◌, ℕ, List, true, length, is_some}
use Rattle.std.specs.List.{AllByRecursion}
use Rattle.ow_names.specs.FullName.{IsFullName}
use Rattle.ow_names.specs.declared.full.FullName.{FullName}
use Rattle.ow_value.specs.Value.{Pairs}
use Rattle.ow_value.specs.declared.measure.TheConstants.{MEGABYTE}
use Rattle.ow_entity.specs.Pairs.{pairs_size}
use Rattle.ow_entity.specs.PlainCode.{plain_cases}

-- the pairs have at most 1 MB as an object
pub record IsFitPairs (ps : Pairs) : Type 0 where
  pub size : pairs_size ps ≤ MEGABYTE

-- the text has at most 1 MB
pub record IsFitText (text : List ℕ) : Type 0 where
  pub size : length text ≤ MEGABYTE

-- the text has the form of plain code, and at most 1 MB
pub record IsFitPlain (text : List ℕ) : Type 0 where
  pub size : length text ≤ MEGABYTE
  pub form : is_some (plain_cases text) ≡ true

-- the components of a sequence: one at least, and each a full name
pub record IsFitSequence (components : List FullName) : Type 0 where
  pub some : 1 ≤ length components
  pub names : AllByRecursion IsFullName components
