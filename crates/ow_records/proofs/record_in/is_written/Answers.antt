use Rattle.ow_records.proofs.Confirmed.{told_alike}
use Rattle.ow_records.proofs.record_in.is_written.Goals as goal

pub returns : goal.returns
returns c = told_alike c.args.found.now c.in_ok-written.written c.args.value.now c.same.result c.in_ok-written.ensures c.same.ensures
