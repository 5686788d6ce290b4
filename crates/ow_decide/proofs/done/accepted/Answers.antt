use Rattle.std.proofs.Common.{Result, subst}
use Rattle.ow_http.specs.declared.reason.Reason.{Reason}
use Rattle.ow_decide.specs.Making.{IsTaken}
use Rattle.ow_decide.specs.declared.commits.Made.{Made}
use Rattle.ow_decide.proofs.AskLaws.{refused_carries, taken_carries}
use Rattle.ow_decide.proofs.Results.{if_ok_map}
use Rattle.ow_decide.proofs.done.accepted.Goals as goal

pub returns-in-Ok-clause-ok : goal.returns-in-Ok-clause-ok
returns-in-Ok-clause-ok c = if_ok_map c.invoked.result _ _ (λ s is S plan v same waits taken.
    taken_carries c.in-Ok.made c.args.id c.args.until c.args.shows s is S plan v same waits (subst (λ (x : Result Made Reason). IsTaken x plan S v) c.in-Ok.is taken)) c.invoked.ensures.ok

pub returns-in-Err-clause-ok : goal.returns-in-Err-clause-ok
returns-in-Err-clause-ok c = if_ok_map c.step.result _ _ (λ s carries S plan v same waits taken.
    refused_carries c.in-Err.reason c.args.shows s carries S plan v (subst (λ (x : Result Made Reason). IsTaken x plan S v) c.in-Err.is taken)) c.step.ensures.ok
