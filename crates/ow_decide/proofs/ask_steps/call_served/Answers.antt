use Rattle.std.proofs.Common.{◌≡◌, IfOk, subst, sym}
use Rattle.ow_reads.specs.declared.acts.Act.{Act}
use Rattle.ow_counts.specs.View.{CountsView}
use Rattle.ow_decide.specs.Asking.{change_done}
use Rattle.ow_decide.specs.Sight.{Sight}
use Rattle.ow_decide.specs.Making.{IsSeen, served_of}
use Rattle.ow_decide.proofs.Results.{if_ok_map}
use Rattle.ow_decide.proofs.ask_steps.call_served.Goals as goal

pub returns-in-Invokes-clause-done : goal.returns-in-Invokes-clause-done
returns-in-Invokes-clause-done c = subst (λ (a : Act). IfOk c.invoked-served.result (λ d. (S : Sight) (k : CountsView) → IsSeen S c.args.tenants.now c.args.tables.now.rows k c.args.keeping.now c.args.floor.now.now c.args.now
    → served_of S d ≡ change_done S c.args.holder.now a c.args.call)) (sym c.in-Invokes.is)
    (if_ok_map c.invoked-served.result _ _ (λ d h S k seen. h S k c.args.keeping.now seen) c.invoked-served.ensures.done)

pub returns-in-Invokes-clause-commit : goal.returns-in-Invokes-clause-commit
returns-in-Invokes-clause-commit c = if_ok_map c.invoked-served.result _ _ (λ d h S k seen. h S) c.invoked-served.ensures.commit

pub returns-in-Fires-clause-done : goal.returns-in-Fires-clause-done
returns-in-Fires-clause-done c = subst (λ (a : Act). IfOk c.fired-served.result (λ d. (S : Sight) (k : CountsView) → IsSeen S c.args.tenants.now c.args.tables.now.rows k c.args.keeping.now c.args.floor.now.now c.args.now
    → served_of S d ≡ change_done S c.args.holder.now a c.args.call)) (sym c.in-Fires.is)
    (if_ok_map c.fired-served.result _ _ (λ d h S k seen. h S k c.args.keeping.now seen) c.fired-served.ensures.done)

pub returns-in-Fires-clause-commit : goal.returns-in-Fires-clause-commit
returns-in-Fires-clause-commit c = if_ok_map c.fired-served.result _ _ (λ d h S k seen. h S) c.fired-served.ensures.commit
