use Rattle.std.proofs.Common.{sym}
use Rattle.ow_value.proofs.ByTextLaws.{found_nowhere, stands_there}
use Rattle.ow_value.proofs.by_text.ByText.place.Goals as goal

pub returns-in-Ok : goal.returns-in-Ok
returns-in-Ok g c =
    stands_there c.args.text.now c.args.self.now c.entries-entries.result.now c.in-Ok.i c.entries-entries.ensures.value c.entries-entries.ensures.by_text c.in-Ok.ensures.ok

pub returns-in-Err : goal.returns-in-Err
returns-in-Err g c =
    sym (found_nowhere c.args.self.now c.entries-entries.result.now c.args.text.now c.in-Err.field-0 c.entries-entries.ensures.value c.in-Err.ensures.err.1)
