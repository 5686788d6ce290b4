-- The state that goes with the book, as the code has it.
use Rattle.std.specs.Prelude.{◌≡◌, ◌++◌, ℕ, List, Option, Some, None}
use Rattle.ow_entity.specs.declared.rows.Row.{Row}
use Rattle.ow_floor.specs.Laws.{Stands}
use Rattle.ow_floor.specs.View.{FloorView, Shown, archived_on}
use Rattle.ow_decide.specs.declared.step.OthersStep.{OthersStep}
use Rattle.ow_decide.specs.declared.step.OthersStep.TheVariants as others_steps
use Rattle.ow_floor.specs.declared.moves.Moved.{Moved}
use Rattle.ow_decide.specs.declared.step.Now.{Now}
use Rattle.ow_decide.specs.declared.step.Step.{Step}
use Rattle.ow_tenant.specs.Notes as notes
use Rattle.ow_tenant.specs.Table.{Table}
use Rattle.ow_counts.specs.View.{CountsView, MayAllMove, StandsFor, noted_moves, notes_of}
use Rattle.ow_decide.specs.declared.waits.Wait.{Wait}
use Rattle.ow_decide.specs.Sight.{Sight}
use Rattle.ow_commits.specs.Kept.{OthersView}
use Rattle.ow_commits.specs.Noting.{noting}
use Rattle.ow_decide.specs.Decision.{Decision, held}
use Rattle.ow_commits.specs.Keeping.{FollowingView, KeepingView, StandsForKept}
use Rattle.ow_hall.specs.History.{IsLegal, Seen, seen}
use Rattle.ow_hall.specs.Ledger.{Ledger}
use Rattle.ow_decide.specs.Making.{Carries, IsSeen}

-- ---- floor, rows, waits and counts

-- floor, rows, waits, counts, sizes, and the archive and the notes; and for how many more rows, waits and notes there is room
pub record StateView : Type 0 where
  pub floor : FloorView
  pub rows : List Row
  pub row_room : ℕ
  pub waits : List Wait
  pub wait_room : ℕ
  pub counts : CountsView
  pub keeping : KeepingView
  pub others : OthersView
  pub note_room : ℕ

-- they agree with what is seen
pub record IsAt (v : StateView) (s : Seen) : Type 0 where
  pub stands : Stands v.floor.now s.trace
  pub rows : v.rows ≡ s.rows
  pub waits : v.waits ≡ s.waits
  pub counts : StandsFor v.counts (notes_of s.trace)
  pub keeping : StandsForKept v.keeping s.others s.rows s.trace
  pub others : v.others ≡ s.others

-- the book is legal; floor, rows, waits and counts agree with it; and the floor isn't held
pub record Keeps (w : StateView) (t : Table) (L : Ledger) : Type 0 where
  pub stands : IsAt w (seen t L.entries)
  pub legal : IsLegal t L.entries
  pub free : w.floor.before ≡ None

-- ---- a step

-- over floor, rows and waits: what is decided of what is seen is done on the floor, and made ready beside it with all that is committed
-- of it, for private clauses
abbrev pub Makes : StateView → Shown → Table → Now → (Sight → Decision) → Step → Type 0
Makes old new t now decided step = (S : Sight) → IsSeen S t old.rows old.counts old.keeping old.floor.now now → S.waits ≡ old.waits → S.others ≡ old.others
    → Carries step (decided S) S × Stands new (held (decided S) ++ S.trace)

-- ---- the size of what is kept

-- that of what was committed, or what it was where nothing was to be committed, for private clauses
abbrev pub kept_with : Option FollowingView → KeepingView → KeepingView
kept_with None v = v
kept_with (Some c) v = record { bytes = c.bytes; opens = c.opens }

-- ---- what becomes of the archive and of the notes

-- the archive and the notes once some of the records are archived, once a note is kept, or as they were, for private clauses
abbrev pub others_kept : Option OthersStep → OthersView → OthersView
others_kept None o = o
others_kept (Some (others_steps.Archives until archive)) o = record o { archive = archive }
others_kept (Some (others_steps.KeepsNote note)) o = noting note o

-- the floor once the records whose end is at most a moment are archived, or as it was, for private clauses
abbrev pub floor_kept : Option OthersStep → Shown → Shown
floor_kept None v = v
floor_kept (Some (others_steps.Archives until archive)) v = archived_on until v
floor_kept (Some (others_steps.KeepsNote note)) v = v

-- ---- notes

-- new counts agree with all notes with which the old ones agreed, for private clauses
abbrev pub KeepsNotes : CountsView → CountsView → Type 0
KeepsNotes old new = (ns : notes.Notes) → StandsFor old ns → StandsFor new ns

-- where the old counts agreed with some notes, the new ones agree with those and the notes of all that moved, each of which may come, for
-- private clauses
abbrev pub NotesMoves : List Moved → CountsView → CountsView → Type 0
NotesMoves ms old new = (ns : notes.Notes) → MayAllMove ms ns → StandsFor old ns → StandsFor new (noted_moves ms ns)
