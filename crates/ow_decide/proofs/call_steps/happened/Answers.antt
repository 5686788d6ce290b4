use Rattle.std.proofs.Common.{◌∙◌, List, ap, refl}
use Rattle.ow_floor.specs.Calls.{happened_of}
use Rattle.ow_floor.specs.declared.answers.Happening.{Happening}
use Rattle.ow_decide.specs.declared.events.Told.TheVariants as told
use Rattle.ow_decide.specs.declared.replies.Called.TheVariants as called
use Rattle.ow_decide.proofs.call_steps.happened.Goals as goal

pub returns-clause-ok : goal.returns-clause-ok
returns-clause-ok c = λ S plan made. record {
  told = ap (λ (hs : List Happening). told.Called (called.Happened hs)) (c.in-Ok.ensures ∙ ap happened_of (c.items.ensures ∙ made.moves));
  changes = refl;
  waits = refl;
  moves = made.moves;
  commit = record { changes = made.changes; stands = made.stands };
  others = refl;
}
