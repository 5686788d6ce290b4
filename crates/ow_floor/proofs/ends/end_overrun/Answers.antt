use Rattle.std.proofs.Common.{refl, sym, ap, subst}
use Rattle.ow_slots.specs.Slots.{IsThere, first_with}
use Rattle.ow_slots.specs.State.{IsUnrecorded, runs}
use Rattle.ow_slot_laws.specs.Life as lives
use Rattle.ow_floor.proofs.Serving.{within_kept}
use Rattle.ow_floor.proofs.Showing.{good_event}
use Rattle.ow_floor.proofs.ends.end_overrun.Goals as goal

pub overrun-requires : goal.overrun-requires
overrun-requires c =
    subst (λ ss. IsThere IsUnrecorded (first_with (runs c.args.run.number) ss)) (sym (ap (λ R. R.slots) c.in_ok-end_at.ensures.made.now)) c.requires.late.unrecorded

pub returns-clause-lists_fit : goal.returns-clause-lists_fit
returns-clause-lists_fit c =
    let event = lives.Overran c.args.run.number c.args.at in
    rw c.in_ok-overrun.ensures.now
    (good_event c.end_at.new.lists.now c.args.at event (within_kept event c.end_at.new.lists.now.slots c.end_at.new.lists.now.pool refl c.in_ok-end_at.ensures.lists_fit.pool) c.in_ok-end_at.ensures.lists_fit)

pub returns-clause-made : goal.returns-clause-made
returns-clause-made c = record { middle = c.end_at.new.lists.now; ended = c.in_ok-end_at.ensures.made; now = c.in_ok-overrun.ensures.now }
