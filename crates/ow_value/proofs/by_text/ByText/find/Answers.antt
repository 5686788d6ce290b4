use Rattle.ow_value.proofs.ByTextLaws.{found_there, found_nowhere}
use Rattle.ow_value.proofs.by_text.ByText.find.Goals as goal

pub returns-in-Ok : goal.returns-in-Ok
returns-in-Ok g c =
    found_there c.args.self.now c.entries-entries.result.now c.args.text.now c.in-Ok.i c.index-entries-i.result c.entries-entries.ensures.value c.entries-entries.ensures.by_text c.in-Ok.ensures.ok

pub returns-in-Err : goal.returns-in-Err
returns-in-Err g c =
    found_nowhere c.args.self.now c.entries-entries.result.now c.args.text.now c.in-Err.field-0 c.entries-entries.ensures.value c.in-Err.ensures.err.1
