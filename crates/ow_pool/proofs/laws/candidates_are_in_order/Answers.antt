use Rattle.ow_pool.proofs.CandidateLaws.{are_candidates}
use Rattle.ow_pool.proofs.laws.candidates_are_in_order.Goals as goal

pub returns : goal.returns
returns c = are_candidates
