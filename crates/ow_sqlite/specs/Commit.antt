-- For private clauses: what a commit of changes makes of a database.
use Rattle.std.specs.Prelude.{◌≡◌, true, false, IsTrue, List, [], ◌∷◌, Result, OnOk, OnErr}
use Rattle.sqlite_value.specs.declared.value.Value.TheVariants.{Text}
use Rattle.sqlite.specs.Store.{Ghosts}
use Rattle.sqlite.specs.State.{HasCleanDisk, Survives}
use Rattle.sqlite.specs.Held.{Held, state}
use Rattle.sqlite.specs.Tree.{Trees}
use Rattle.ow_traits.specs.declared.change_list.Change.{Change}
use Rattle.ow_traits.specs.declared.change_list.Change.TheVariants.{Put, Drop as Dropped, Retire}
use Rattle.ow_sqlite.specs.Statements.{Executed, drop_sql, put_old_sql, put_sql}

-- the statement of the change was executed, or its two statements, one after the other
abbrev pub Makes : {S : Type 0} → Ghosts S → Change → Held S → Held S → Type 0
Makes g (Put key text) old new = Executed g put_sql (Text key ∷ Text text ∷ []) old new
Makes g (Dropped key) old new = Executed g drop_sql (Text key ∷ []) old new
Makes {S} g (Retire key text) old new = (mid : Held S) × Executed g drop_sql (Text key ∷ []) old mid × Executed g put_old_sql (Text key ∷ Text text ∷ []) mid new

-- the statements of the changes were executed one after another
unfoldable pub MakesAll : {S : Type 0} → Ghosts S → List Change → Held S → Held S → Type 0
MakesAll g [] old new = new ≡ old
MakesAll {S} g (change ∷ changes) old new = (mid : Held S) × Makes g change old mid × MakesAll g changes mid new

-- they were executed in a transaction, and what they made is committed
pub record CommitsAll {S : Type 0} (g : Ghosts S) (changes : List Change) (old new : Held S) : Type 0 where
  pub last : Held S
  pub made : MakesAll g changes (record old { in_transaction = true }) last
  pub committed : (state g new).committed ≡ (state g last).now

-- the pages of the tables after all the changes
abbrev pub IsAfterAll : {S : Type 0} → Ghosts S → List Change → Held S → Trees → Type 0
IsAfterAll {S} g changes old trees = (last : Held S) × MakesAll g changes (record old { in_transaction = true }) last × (trees ≡ (state g last).now.trees)

-- a stop at any moment of a commit leaves what a stop before it left, or all the changes
abbrev pub SurvivesCommit : {S : Type 0} → Ghosts S → List Change → Held S → Held S → Type 0
SurvivesCommit g changes old new = Survives (state g old) (state g new) (IsAfterAll g changes old)

-- how a commit leaves the database, while the disk returns what was written: with all the changes, or with what was committed before; its
-- transaction is over, whatever the disk does
pub record EndsCommit {S T E : Type 0} (g : Ghosts S) (changes : List Change) (result : Result T E) (old new : Held S) : Type 0 where
  pub all : HasCleanDisk (state g new) → OnOk result (CommitsAll g changes old new)
  pub neither : HasCleanDisk (state g new) → IsTrue (state g new).is_open → OnErr result ((state g new).committed ≡ (state g old).committed)
  pub over : old.in_transaction ≡ false → new.in_transaction ≡ false
