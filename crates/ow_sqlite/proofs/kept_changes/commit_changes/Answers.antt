use Rattle.std.proofs.Common.{◌≡◌, ◌≤◌, false, length, OnOk, rules, arith, subst}
use Rattle.sqlite.specs.State.{HasCleanDisk}
use Rattle.sqlite.specs.Held.{state}
use Rattle.ow_sqlite.specs.Commit.{CommitsAll, Makes, MakesAll, SurvivesCommit}
use Rattle.ow_sqlite.proofs.Making.{makes_next, makes_none, ok_then}
use Rattle.ow_sqlite.proofs.Stopping.{stops_safely}
use Rattle.ow_sqlite.proofs.kept_changes.commit_changes.Goals as goal

pub loop-change-preserved : goal.loop-change-preserved
loop-change-preserved g c = record {
  same = search rules;
  survives = search rules;
  kept = search rules;
  inside = search rules;
  made = λ clean last rest.
      let before : HasCleanDisk (state g.S.Store c.loop-change.tx.conn.now) = omega (arith, c.in_ok-make.ensures.survives.clean, clean) in
      let one : Makes g.S.Store c.change-item.result c.loop-change.tx.conn.now c.make.new.tx.conn.now = c.in_ok-make.ensures.made clean (c.loop-change.invariant.inside before) in
      c.loop-change.invariant.made before last (makes_next g.S.Store c.args.changes.now c.loop-change.change-index c.change-item.result _ _ last (search rules) (search rules) one rest);
}

pub returns-clause-end : goal.returns-clause-end
returns-clause-end g c =
    let end = c.commit.new.self.0 in
    let last = c.loop-change.tx.conn.now in
    let same : end ≡ c.conn-2-1.given.0 = search rules in
    record {
      all = λ clean.
          let late : HasCleanDisk (state g.S.Store end) = search rules in
          let early : HasCleanDisk (state g.S.Store last) = omega (arith, c.commit.ensures.survives.clean, late) in
          let past : length c.args.changes.now ≤ c.loop-change.change-index = search rules in
          let made = c.loop-change.invariant.made early last (makes_none g.S.Store c.args.changes.now _ last past) in
          subst (λ h. OnOk c.commit.result (CommitsAll g.S.Store c.args.changes.now c.args.conn.now h)) same
          (ok_then c.commit.result _ _ (λ ok. record { last = last; made = subst (λ h. MakesAll g.S.Store c.args.changes.now h last) c.transaction-tx.ensures.begun made; committed = ok.1.committed_is })
          (c.commit.ensures.ok late));
      neither = search rules;
      over = λ free. subst (λ h. h.in_transaction ≡ false) same c.commit.ensures.ended;
    }

pub returns-clause-stop : goal.returns-clause-stop
returns-clause-stop g c =
    let end = c.commit.new.self.0 in
    let last = c.loop-change.tx.conn.now in
    let same : end ≡ c.conn-2-1.given.0 = search rules in
    let past : length c.args.changes.now ≤ c.loop-change.change-index = search rules in
    subst (λ h. SurvivesCommit g.S.Store c.args.changes.now c.args.conn.now h) same
    (stops_safely g.S.Store c.args.changes.now c.args.conn.now c.transaction-tx.result.conn.now last end c.transaction-tx.ensures.begun
    (λ clean. c.loop-change.invariant.made clean last (makes_none g.S.Store c.args.changes.now _ last past)) c.loop-change.invariant.survives c.commit.ensures.survives)
