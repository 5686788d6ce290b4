use Rattle.ow_keep.proofs.MomentLaws.{judged_small, moments_small}
use Rattle.ow_keep.proofs.laws.moments_are_small.Goals as goal

pub returns-clause-kept : goal.returns-clause-kept
returns-clause-kept c = moments_small

pub returns-clause-judged : goal.returns-clause-judged
returns-clause-judged c = judged_small
