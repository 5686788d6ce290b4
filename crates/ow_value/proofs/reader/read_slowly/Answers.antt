use Rattle.ow_value.proofs.Refused.{reads_no_json, taken_is_read}
use Rattle.ow_value.proofs.reader.read_slowly.Goals as goal

pub returns-in_default : goal.returns-in_default
returns-in_default c limit other = reads_no_json limit _ (c.in-Err.ensures.err (λ m. c.in_default.not-Memory (c.classify.ensures.memory.1 m)))

pub returns : goal.returns
returns c = let ok = c.in-Ok.ensures.ok in taken_is_read _ _ ok.0 ok.1 _ c.taken.ensures.value
