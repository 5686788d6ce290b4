use Rattle.std.proofs.Common.{◌≡◌, IfOk, subst, sym}
use Rattle.ow_commits.specs.Keeping.{StandsForKept}
use Rattle.ow_tenant.specs.declared.entries.Holder.{Holder}
use Rattle.ow_reads.specs.declared.acts.Act.{Act}
use Rattle.ow_decide.specs.Asking.{change_done}
use Rattle.ow_decide.specs.Making.{done_of}
use Rattle.ow_decide.specs.Sight.{Sight}
use Rattle.ow_decide.proofs.Results.{if_ok_map}
use Rattle.ow_decide.proofs.ask_steps.changed.Goals as goal

pub returns-in-Puts-clause-done : goal.returns-in-Puts-clause-done
returns-in-Puts-clause-done c = subst (λ (a : Act). IfOk c.put.result (λ d. (S : Sight) (h : Holder) → S.rows ≡ c.args.tables.now.rows → StandsForKept c.args.keeping.now S.others S.rows S.trace
    → done_of d ≡ change_done S h a c.args.call)) (sym c.in-Puts.is) c.put.ensures.done

pub returns-in-Removes-clause-done : goal.returns-in-Removes-clause-done
returns-in-Removes-clause-done c = subst (λ (a : Act). IfOk c.removed-done.result (λ d. (S : Sight) (h : Holder) → S.rows ≡ c.args.tables.now.rows → StandsForKept c.args.keeping.now S.others S.rows S.trace
    → done_of d ≡ change_done S h a c.args.call)) (sym c.in-Removes.is) (if_ok_map c.removed-done.result _ _ (λ d h S holder rows keeps. h S holder rows) c.removed-done.ensures.done)

pub returns-in-Sets-clause-done : goal.returns-in-Sets-clause-done
returns-in-Sets-clause-done c = subst (λ (a : Act). IfOk c.set-done.result (λ d. (S : Sight) (h : Holder) → S.rows ≡ c.args.tables.now.rows → StandsForKept c.args.keeping.now S.others S.rows S.trace
    → done_of d ≡ change_done S h a c.args.call)) (sym c.in-Sets.is) (if_ok_map c.set-done.result _ _ (λ d h S holder rows keeps. h S holder rows) c.set-done.ensures.done)
