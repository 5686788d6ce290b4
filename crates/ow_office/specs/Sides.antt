-- All that a command may touch, as it is before the command or after it.
use Rattle.std.specs.Prelude.{◌≡◌, ℕ, List, Option}
use Rattle.ow_traits.specs.Telling.{Telling}

-- a source: the bytes that it has left, where it reports them, and how many of its reads failed
pub record SourceView : Type 0 where
  pub left : Option (List ℕ)
  pub faults : ℕ

-- a sink: the bytes that it took, where it reports them, and how many of its writes failed
pub record SinkView : Type 0 where
  pub taken : Option (List ℕ)
  pub faults : ℕ

-- the sources of the office table and of the day, the output, and the store
pub record Sides : Type 0 where
  pub table : SourceView
  pub day : SourceView
  pub out : SinkView
  pub store : Telling

abbrev pub source : {S : Type 0} → (S → Option (List ℕ)) → (S → ℕ) → S → SourceView
source left faults s = record { left = left s; faults = faults s }

abbrev pub sink : {O : Type 0} → (O → Option (List ℕ)) → (O → ℕ) → O → SinkView
sink taken faults o = record { taken = taken o; faults = faults o }

abbrev pub sides : SourceView → SourceView → SinkView → Telling → Sides
sides table day out store = record { table = table; day = day; out = out; store = store }

-- nothing but the source of the table was touched
abbrev pub TouchesTable : Sides → Sides → Type 0
TouchesTable before after = after ≡ sides after.table before.day before.out before.store

-- nothing but the output was touched
abbrev pub TouchesOutput : Sides → Sides → Type 0
TouchesOutput before after = after ≡ sides before.table before.day after.out before.store
