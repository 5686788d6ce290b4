-- For private clauses: what a load reads of a database, and what it leaves of it.
use Rattle.std.specs.Prelude.{◌≡◌, ◌⊎◌, ℕ, false, List, [], ◌∷◌, All, Result, IfOk, OnOk}
use Rattle.sqlite_value.specs.Order.{Row, column}
use Rattle.sqlite_value.specs.declared.value.Value.{Value}
use Rattle.sqlite_value.specs.declared.value.Value.TheVariants.{Text}
use Rattle.sqlite.specs.Store.{Ghosts}
use Rattle.sqlite.specs.State.{CommitsBy, HasCleanDisk, KeepsCommit, Shown, Survives}
use Rattle.sqlite.specs.Held.{Held, state}
use Rattle.sqlite.specs.Tree.{Trees}
use Rattle.ow_traits.specs.Rows.{with_row}
use Rattle.ow_sqlite.specs.Statements.{Executed, create_old_sql, create_sql, select_sql}

-- the text of a value; an empty one where the value is no text
abbrev pub text_in : Value → List ℕ
text_in (Text text) = text
text_in _ = []

-- a row begins with two texts
pub record StartsWithTexts (row : Row) : Type 0 where
  pub key : column row 0 ≡ Text (text_in (column row 0))
  pub text : column row 1 ≡ Text (text_in (column row 1))

abbrev pub AreTexts : List Row → Type 0
AreTexts shown = All StartsWithTexts shown

-- the rows with the second text of a row put at its first
abbrev pub row_put : Row → List (List ℕ × List ℕ) → List (List ℕ × List ℕ)
row_put row rows = with_row rows (text_in (column row 0)) (text_in (column row 1))

pub record PutsRow (row : Row) (old new : List (List ℕ × List ℕ)) : Type 0 where
  pub texts : StartsWithTexts row
  pub put : new ≡ row_put row old

-- the rows, with those shown put one after another
abbrev pub rows_after : List Row → List (List ℕ × List ℕ) → List (List ℕ × List ℕ)
rows_after [] rows = rows
rows_after (row ∷ shown) rows = rows_after shown (row_put row rows)

-- the statements that make the two tables, each where it isn't there, were executed one after the other
abbrev pub MakesTables : {S : Type 0} → Ghosts S → Held S → Held S → Type 0
MakesTables {S} g old new = (mid : Held S) × Executed g create_sql [] old mid × Executed g create_old_sql [] mid new

-- the tables are made where they aren't there, and the rows are the ones that the table of kept rows shows
pub record LoadsTable {S : Type 0} (g : Ghosts S) (old new : Held S) (rows : List (List ℕ × List ℕ)) : Type 0 where
  pub mid : Held S
  pub made : MakesTables g old mid
  pub shown : List Row
  pub read : Shown select_sql [] (state g mid) (state g new) shown
  pub texts : AreTexts shown
  pub whole : rows ≡ rows_after shown []

-- what is committed is what was committed before, or what was committed after the first of the statements that make the tables, or after both
abbrev pub KeepsButTables : {S : Type 0} → Ghosts S → Held S → Held S → Type 0
KeepsButTables {S} g old new = KeepsCommit (state g old) (state g new) ⊎ ((mid : Held S) × Executed g create_sql [] old mid × KeepsCommit (state g mid) (state g new))
    ⊎ ((mid : Held S) × MakesTables g old mid × KeepsCommit (state g mid) (state g new))

-- what the first of these statements commits, or the second after it
abbrev pub CommitsTables : {S : Type 0} → Ghosts S → Held S → Trees → Type 0
CommitsTables {S} g old trees = CommitsBy create_sql [] (state g old) trees ⊎ ((mid : Held S) × Executed g create_sql [] old mid × CommitsBy create_old_sql [] (state g mid) trees)

-- a stop at any moment of a load leaves what a stop before it left, or what one of the statements that make the tables commits
abbrev pub SurvivesLoad : {S : Type 0} → Ghosts S → Held S → Held S → Type 0
SurvivesLoad g old new = Survives (state g old) (state g new) (CommitsTables g old)

-- how the making of the tables leaves the database, while the disk returns what was written
pub record EndsMaking {S T E : Type 0} (g : Ghosts S) (result : Result T E) (old new : Held S) : Type 0 where
  pub made : HasCleanDisk (state g new) → OnOk result (MakesTables g old new)
  pub kept : HasCleanDisk (state g new) → KeepsButTables g old new
  pub over : HasCleanDisk (state g new) → old.in_transaction ≡ false → new.in_transaction ≡ false

-- how a load leaves the database, while the disk returns what was written: the rows are read, where it succeeds; what is committed is as it
-- was, except for the tables; and no transaction is begun
pub record EndsLoad {S E : Type 0} (g : Ghosts S) (result : Result (List (List ℕ × List ℕ)) E) (old new : Held S) : Type 0 where
  pub loaded : HasCleanDisk (state g new) → IfOk result (LoadsTable g old new)
  pub kept : HasCleanDisk (state g new) → KeepsButTables g old new
  pub over : HasCleanDisk (state g new) → old.in_transaction ≡ false → new.in_transaction ≡ false
