use Rattle.ow_keep.proofs.Exact.{is_kept, is_bad, is_only}
use Rattle.ow_keep.proofs.keeping.kept_items.Goals as goal

pub returns-clause-kept : goal.returns-clause-kept
returns-clause-kept c = is_kept (λ v. v.items) c.args.rows.now c.judged.result c.judged.ensures.value

pub returns-clause-only : goal.returns-clause-only
returns-clause-only c = is_only (λ v. v.items) c.args.rows.now c.judged.result c.judged.ensures.value

pub returns-clause-bad : goal.returns-clause-bad
returns-clause-bad c = is_bad (λ v. v.items) c.args.rows.now c.judged.result c.judged.ensures.value
