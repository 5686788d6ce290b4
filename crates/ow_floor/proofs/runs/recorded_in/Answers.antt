use Rattle.std.proofs.Common.{Some, None, refl, ap, ◌∙◌}
use Rattle.ow_slots.specs.Slots.{IsPlace, PlaceOf, has}
use Rattle.ow_slots.specs.State.{recorded_of, runs}
use Rattle.ow_slots.proofs.Changes.{place_of}
use Rattle.ow_floor.proofs.runs.recorded_in.Goals as goal

pub returns-in-Some : goal.returns-in-Some
returns-in-Some c =
    let place : IsPlace (has (runs c.args.run)) c.as_slice-all.result.now c.in-Some.place = place_of (has (runs c.args.run)) c.as_slice-all.result.now (Some c.in-Some.place) c.in-Some.ensures in
    rw (← c.as_slice-all.ensures.value, place.found) (ap Some (c.recorded.ensures ∙ ap (λ s. recorded_of s.state) (place.here c.index-all-place.result)))

pub returns-in-None : goal.returns-in-None
returns-in-None c =
    let none : PlaceOf (has (runs c.args.run)) c.as_slice-all.result.now None = place_of (has (runs c.args.run)) c.as_slice-all.result.now None c.in-None.ensures in
    rw (← c.as_slice-all.ensures.value, none.0) refl
