use Rattle.std.proofs.Common.{IfOk, subst, sym, ap}
use Rattle.ow_decide.specs.declared.events.Event.{Event}
use Rattle.ow_decide.specs.Decisions.{decide}
use Rattle.ow_decide.specs.Making.{MakesFor}
use Rattle.ow_decide.proofs.Results.{if_ok_map}
use Rattle.ow_commits.specs.Kept.{OthersView}
use Rattle.ow_decide.proofs.step.step_for.Goals as goal

pub returns-in-Next-clause-ok : goal.returns-in-Next-clause-ok
returns-in-Next-clause-ok c = subst (λ (e : Event). IfOk c.next.result (MakesFor c.args.waits.now (record { archive = c.args.archive; notes = c.args.notes.now }) c.args.tenants.now c.args.tables.now.rows c.args.counts.now c.args.keeping.now c.args.now c.args.floor.now.now c.next.new.floor.now (λ S. decide S e)))
    (sym c.in-Next.is) (if_ok_map c.next.result _ _ (λ s h S seen waits others. h c.args.tenants.now c.args.tables.now.rows c.args.counts.now c.args.keeping.now S seen) c.next.ensures.ok)

pub returns-in-Answered-clause-ok : goal.returns-in-Answered-clause-ok
returns-in-Answered-clause-ok c = subst (λ (e : Event). IfOk c.answered.result (MakesFor c.args.waits.now (record { archive = c.args.archive; notes = c.args.notes.now }) c.args.tenants.now c.args.tables.now.rows c.args.counts.now c.args.keeping.now c.args.now c.args.floor.now.now c.answered.new.floor.now (λ S. decide S e)))
    (sym c.in-Answered.is) (if_ok_map c.answered.result _ _ (λ s h S seen waits others. h c.args.tenants.now c.args.counts.now S seen) c.answered.ensures.ok)

pub returns-in-Sweep-clause-ok : goal.returns-in-Sweep-clause-ok
returns-in-Sweep-clause-ok c = subst (λ (e : Event). IfOk c.sweep.result (MakesFor c.args.waits.now (record { archive = c.args.archive; notes = c.args.notes.now }) c.args.tenants.now c.args.tables.now.rows c.args.counts.now c.args.keeping.now c.args.now c.args.floor.now.now c.sweep.new.floor.now (λ S. decide S e)))
    (sym c.in-Sweep.is) (if_ok_map c.sweep.result _ _ (λ s h S seen waits others. h S c.args.counts.now seen (ap (λ (o : OthersView). o.archive) others)) c.sweep.ensures.ok)

pub returns-in-Reopened-clause-ok : goal.returns-in-Reopened-clause-ok
returns-in-Reopened-clause-ok c = subst (λ (e : Event). IfOk c.reopen.result (MakesFor c.args.waits.now (record { archive = c.args.archive; notes = c.args.notes.now }) c.args.tenants.now c.args.tables.now.rows c.args.counts.now c.args.keeping.now c.args.now c.args.floor.now.now c.reopen.new.floor.now (λ S. decide S e)))
    (sym c.in-Reopened.is) (if_ok_map c.reopen.result _ _ (λ s h S seen waits others. h c.args.tenants.now c.args.tables.now.rows c.args.counts.now S seen) c.reopen.ensures.ok)

pub returns-in-Drain-clause-ok : goal.returns-in-Drain-clause-ok
returns-in-Drain-clause-ok c = subst (λ (e : Event). MakesFor c.args.waits.now (record { archive = c.args.archive; notes = c.args.notes.now }) c.args.tenants.now c.args.tables.now.rows c.args.counts.now c.args.keeping.now c.args.now c.args.floor.now.now c.drain.new.floor.now (λ S. decide S e) c.drain.result)
    (sym c.in-Drain.is) (λ S seen waits others. c.drain.ensures.ok c.args.tenants.now c.args.tables.now.rows c.args.counts.now c.args.keeping.now S seen)

pub returns-in-Collected-clause-ok : goal.returns-in-Collected-clause-ok
returns-in-Collected-clause-ok c = subst (λ (e : Event). IfOk c.collect.result (MakesFor c.args.waits.now (record { archive = c.args.archive; notes = c.args.notes.now }) c.args.tenants.now c.args.tables.now.rows c.args.counts.now c.args.keeping.now c.args.now c.args.floor.now.now c.args.floor.now.now (λ S. decide S e)))
    (sym c.in-Collected.is) (if_ok_map c.collect.result _ _ (λ s h. h c.args.tenants.now c.args.tables.now.rows c.args.counts.now c.args.keeping.now (record { archive = c.args.archive; notes = c.args.notes.now })) c.collect.ensures.ok)

pub returns-in-Deployed-clause-ok : goal.returns-in-Deployed-clause-ok
returns-in-Deployed-clause-ok c = subst (λ (e : Event). IfOk c.deploy.result (MakesFor c.args.waits.now (record { archive = c.args.archive; notes = c.args.notes.now }) c.args.tenants.now c.args.tables.now.rows c.args.counts.now c.args.keeping.now c.args.now c.args.floor.now.now c.args.floor.now.now (λ S. decide S e)))
    (sym c.in-Deployed.is) (if_ok_map c.deploy.result _ _ (λ s h S seen waits others. h c.args.counts.now S seen) c.deploy.ensures.ok)

pub returns-in-Fired-clause-ok : goal.returns-in-Fired-clause-ok
returns-in-Fired-clause-ok c = subst (λ (e : Event). IfOk c.fire.result (MakesFor c.args.waits.now (record { archive = c.args.archive; notes = c.args.notes.now }) c.args.tenants.now c.args.tables.now.rows c.args.counts.now c.args.keeping.now c.args.now c.args.floor.now.now c.fire.new.floor.now (λ S. decide S e)))
    (sym c.in-Fired.is) (if_ok_map c.fire.result _ _ (λ s h S seen waits others. h S seen (ap (λ (o : OthersView). o.notes) others)) c.fire.ensures.ok)
