use Rattle.std.proofs.Common.{◌++◌, codes}
use Rattle.std.specs.Fmt.{decimal}
use Rattle.ow_day.proofs.Pushing.{behind_number}
use Rattle.ow_day.proofs.texts.push_no_slot.Goals as goal

pub returns : goal.returns
returns c = record {
  ok = behind_number c.push_with-2.result c.args.answers.now.items c.push_with.new.answers.items c.push_with-2.new.answers.items (codes "refused 28 No slot ") (decimal c.args.slot) (codes " of that generation: ")
      (decimal c.args.kept ++ codes " kept.\n") (rw c.from.ensures at c.in_ok-push_with.ensures.ok) (rw c.from-2.ensures at c.push_with-2.ensures.ok);
}
