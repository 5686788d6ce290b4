use Rattle.std.proofs.Common.{◌≡◌, rules}
use Rattle.ow_floor.specs.Calls.{drain_answer}
use Rattle.ow_floor.proofs.Soundness.{all_recorded}
use Rattle.ow_floor.proofs.floor.Floor.drain.Goals as goal

pub returns-clause-recorded : goal.returns-clause-recorded
returns-clause-recorded c T st =
    let told : c.drain_by.result ≡ drain_answer T = search rules in
    rw told (all_recorded T st.sound)
