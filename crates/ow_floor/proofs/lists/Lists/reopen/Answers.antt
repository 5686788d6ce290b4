use Rattle.ow_floor.specs.declared.lists.Berth.{Berth}
use Rattle.ow_floor.proofs.Going.{gone_empty, gone_within}
use Rattle.ow_floor.proofs.lists.Lists.reopen.Goals as goal

pub invariant_of-self-2 : goal.invariant_of-self-2
invariant_of-self-2 c = (
  c.self.invariant.0,
  rw (c.replace.ensures.now, c.in_ok-runs.ensures, c.items.ensures, c.in_ok-reserve_step.ensures.now)
      (gone_empty Berth c.self.inside.runs_gone c.self.inside.runs.now (gone_within _ _ c.self.invariant.1)),
  c.self.invariant.2,
)
