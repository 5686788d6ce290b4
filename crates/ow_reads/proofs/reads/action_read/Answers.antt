use Rattle.std.proofs.Common.{◌∙◌, sym}
use Rattle.std.proofs.lemmas.Result.{IfOk-weaker}
use Rattle.ow_reads.proofs.BehindLaws.{read_in}
use Rattle.ow_reads.proofs.reads.action_read.Goals as goal

pub returns-in-Some-package_named-clause-value : goal.returns-in-Some-package_named-clause-value
returns-in-Some-package_named-clause-value c = IfOk-weaker c.action_in.result _ _ (λ r h.
    h ∙ read_in c.args.tables.now.rows c.args.name.now c.in-Some.bundle c.in-Some-package_named.bundle.now (sym c.in_ok-bundle.ensures ∙ c.in-Some.is) (sym c.in-Some-package_named.ensures.value)) c.action_in.ensures.value
