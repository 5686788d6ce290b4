use Rattle.ow_counts.proofs.Moving.{may_items, noted_items, up_items}
use Rattle.ow_counts.proofs.laws.moves_are_noted.Goals as goal

pub returns-clause-notes : goal.returns-clause-notes
returns-clause-notes c = noted_items

pub returns-clause-may : goal.returns-clause-may
returns-clause-may c = may_items

pub returns-clause-up_to : goal.returns-clause-up_to
returns-clause-up_to c = up_items
