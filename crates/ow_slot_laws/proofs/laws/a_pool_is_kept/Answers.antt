use Rattle.ow_slot_laws.proofs.Pool.{event_keeps, kept}
use Rattle.ow_slot_laws.proofs.laws.a_pool_is_kept.Goals as goal

pub returns : goal.returns
returns c = record { life = kept; event = event_keeps }
