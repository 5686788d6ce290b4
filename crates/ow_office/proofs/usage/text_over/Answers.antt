use Rattle.ow_keep.specs.Split.{parts_of}
use Rattle.ow_office.proofs.Countable.{all_countable}
use Rattle.ow_office.proofs.usage.text_over.Goals as goal

pub text_for-requires : goal.text_for-requires
text_for-requires c = all_countable c.args.rows.now (parts_of c.in-Ok.kept) c.moments_are_small.ensures.kept c.in-Ok.ensures.kept
