-- What is committed to the store, for private clauses.
use Rattle.std.specs.Prelude.{◌≢◌, Bool, true, false, List, [], Option, Some, None, Result, Ok, Err}
use Rattle.ow_traits.specs.Telling.{Telling}
use Rattle.ow_traits.specs.Keeper.{KeepsCause}
use Rattle.ow_traits.specs.declared.change_list.Change.{Change}
use Rattle.ow_traits.specs.declared.keepers.KeeperError.{KeeperError}
use Rattle.ow_traits.specs.declared.keepers.KeeperError.TheVariants.{Failed, NoMemory}
use Rattle.ow_commits.specs.Keeping.{FollowingView}
use Rattle.ow_hall.specs.Comes.{Holds, Refuses}
use Rattle.ow_hall.specs.Ledger.{Ledger, faulted}

-- all of them, or none where there is no commit
abbrev pub changes_in : Option FollowingView → List Change
changes_in None = []
changes_in (Some c) = c.changes

abbrev pub refused : KeeperError → Result (Unit {0}) KeeperError
refused e = Err e

-- the store holds what it held, with these changes; or it is as it was, which comes only where there are some
abbrev pub CommitsTo : {P : Type 0} → (P → Telling) → List Change → P → P → Result (Unit {0}) KeeperError → Type 0
CommitsTo telling changes old new (Ok done) = Holds telling changes old new
CommitsTo telling changes old new (Err e) = (changes ≢ []) × Refuses telling changes old new × KeepsCause (telling old).faults (telling new).faults (refused e)

-- a commit failed by a fault of the store, which is tallied, or because no memory was left
abbrev pub is_fault : KeeperError → Bool
is_fault Failed = true
is_fault NoMemory = false

abbrev pub uncommitted : KeeperError → Ledger → Ledger
uncommitted Failed L = faulted L
uncommitted NoMemory L = L
