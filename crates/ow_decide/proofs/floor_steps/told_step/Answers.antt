use Rattle.std.proofs.Common.{◌∙◌, refl, sym}
use Rattle.ow_decide.proofs.FloorLaws.{nothing_moved}
use Rattle.ow_decide.proofs.floor_steps.told_step.Goals as goal

pub returns : goal.returns
returns c = record {
  told = refl;
  change = refl;
  waits = refl;
  moves = c.in-Ok.ensures.same;
  others = refl;
  commit = λ S items u w keeps sound right own same.
      let made = c.in-Ok.ensures.made S items keeps sound right own same in record { changes = made.changes; stands = made.stands };
}

pub returns-then-is_empty : goal.returns-then-is_empty
returns-then-is_empty c = record {
  told = refl;
  change = refl;
  waits = refl;
  moves = refl;
  others = refl;
  commit = λ S items u w keeps sound right own same. (refl, (own, sym same ∙ (sym c.items.ensures ∙ nothing_moved c.items.result.now (sym c.if-is_empty.true ∙ c.is_empty.ensures))));
}
