use Rattle.std.proofs.Common.{◌≡◌, drop, IsTrue}
use Rattle.sqlite.specs.State.{HasCleanDisk, KeepsCommit, Survives}
use Rattle.sqlite.specs.Held.{state}
use Rattle.ow_sqlite.specs.Commit.{MakesAll}
use Rattle.ow_sqlite.proofs.kept_changes.commit_changes.Given as goal

abbrev pub invariant-loop-change : goal.invariant-loop-change
invariant-loop-change g l = record {
  same : l.tx.conn.ghost_name ≡ l.initial.tx.conn.ghost_name;
  survives : Survives (state g.S.Store l.initial.tx.conn.now) (state g.S.Store l.tx.conn.now) (λ _. ⊥);
  kept : HasCleanDisk (state g.S.Store l.tx.conn.now) → KeepsCommit (state g.S.Store l.initial.tx.conn.now) (state g.S.Store l.tx.conn.now);
  inside : HasCleanDisk (state g.S.Store l.tx.conn.now) → IsTrue (state g.S.Store l.tx.conn.now).in_transaction;
  made : HasCleanDisk (state g.S.Store l.tx.conn.now) → (last : _) → MakesAll g.S.Store (drop l.change-index l.changes) l.tx.conn.now last
      → MakesAll g.S.Store l.changes l.initial.tx.conn.now last;
}
