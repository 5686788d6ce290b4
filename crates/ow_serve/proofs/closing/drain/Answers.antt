use Rattle.std.proofs.Common.{◌∙◌, refl, subst}
use Rattle.ow_floor.specs.declared.answers.Drain.TheVariants as drains
use Rattle.ow_serve.specs.Ended.{DrainsOnce}
use Rattle.ow_serve.specs.Working.{goes_on, stays}
use Rattle.ow_serve.proofs.closing.drain.Goals as goal

pub loop-init : goal.loop-init
loop-init g c = record { stays = stays; first = λ first begins. begins; clock = refl }

pub loop-preserved : goal.loop-preserved
loop-preserved g c =
    let was = c.loop.invariant in
    let many = c.in-Ok-StillOpen.field-0-0 in
    let told = rw c.in-Ok-StillOpen.field-0-is at c.in-Ok-StillOpen.ensures.called in
    record {
      stays = goes_on was.stays (many, subst (λ a. DrainsOnce (g.C.Clock.tells a.value) (drains.StillOpen many) c.loop.service.notes.notes c.drain_once.new.service.notes.notes) was.clock told);
      first = λ first begins. c.in-Ok-StillOpen.ensures.first first (was.first first begins);
      clock = c.in-Ok-StillOpen.ensures.clock ∙ was.clock;
    }

pub returns-in-Ok-Drained-clause-drained : goal.returns-in-Ok-Drained-clause-drained
returns-in-Ok-Drained-clause-drained g c =
    let was = c.loop.invariant in
    let all = c.in-Ok-Drained.field-0-0 in
    let told = rw c.in-Ok-Drained.field-0-is at c.in-Ok-Drained.ensures.called in
    record {
      before = c.loop.service.notes.notes;
      stays = was.stays;
      recorded = all;
      drained = subst (λ a. DrainsOnce (g.C.Clock.tells a.value) (drains.Drained all) c.loop.service.notes.notes c.drain_once.new.service.notes.notes) was.clock told;
    }

pub returns-in-Ok-Drained-clause-first : goal.returns-in-Ok-Drained-clause-first
returns-in-Ok-Drained-clause-first g c = λ first begins. c.in-Ok-Drained.ensures.first first (c.loop.invariant.first first begins)

pub returns-in-Err-clause-first : goal.returns-in-Err-clause-first
returns-in-Err-clause-first g c = λ first begins. c.in-Err.ensures.first first (c.loop.invariant.first first begins)
