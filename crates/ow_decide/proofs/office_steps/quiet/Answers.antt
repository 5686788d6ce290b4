use Rattle.std.proofs.Common.{◌∙◌, [], true, false, Result, Err, Ok, sym, subst}
use Rattle.ow_http.specs.declared.reason.Reason.{Reason}
use Rattle.ow_decide.specs.OfficeFiring.{Shot, office_decision, quiet_shot}
use Rattle.ow_decide.specs.Making.{Carries}
use Rattle.ow_decide.specs.Reasons.{store_full}
use Rattle.ow_decide.specs.declared.step.Step.{Step}
use Rattle.ow_decide.proofs.OwnLaws.{noted_carries, quiet_so, refused_carries}
use Rattle.ow_decide.proofs.office_steps.quiet.Goals as goal

pub returns-then-is_store_full-clause-ok : goal.returns-then-is_store_full-clause-ok
returns-then-is_store_full-clause-ok c = λ S keeps sound are.
    let n = c.args.note.now in
    let noted = c.in_ok-noted.ensures S [] (c.in_ok-made.ensures.made S [] keeps sound tt tt c.new.ensures) are in
    subst (λ (r : Result Shot Reason). Carries c.refused.result (office_decision S.others n r) S)
    (quiet_so S n c.bytes.result true (c.bytes.ensures ∙ noted.bytes) (sym c.is_store_full.ensures ∙ c.if-is_store_full.true))
    (subst (λ (x : Step). Carries x (office_decision S.others n (Err store_full)) S) (sym c.refused.ensures) (refused_carries n S store_full))

pub returns-clause-ok : goal.returns-clause-ok
returns-clause-ok c = λ S keeps sound are.
    let n = c.args.note.now in
    let noted = c.in_ok-noted.ensures S [] (c.in_ok-made.ensures.made S [] keeps sound tt tt c.new.ensures) are in
    subst (λ (r : Result Shot Reason). Carries c.step.result (office_decision S.others n r) S)
    (quiet_so S n c.bytes.result false (c.bytes.ensures ∙ noted.bytes) (sym c.is_store_full.ensures ∙ c.if-is_store_full.false))
    (subst (λ (x : Step). Carries x (office_decision S.others n (Ok quiet_shot)) S) (sym c.step.ensures) (noted_carries c.in_ok-noted.noted n S quiet_shot noted))
