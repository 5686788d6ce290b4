use Rattle.std.proofs.Common.{◌≡◌}
use Rattle.ow_tenant.proofs.WindowLaws.{found-window, no-window, stands-at}
use Rattle.ow_tenant.proofs.windows.Windows.concurrent.Goals as goal

pub returns-in-Some-clause-notes : goal.returns-in-Some-clause-notes
returns-in-Some-clause-notes c notes h =
    let n = c.args.namespace.now in
    let key : c.as_bytes.result.now ≡ n = cc in
    let stands = stands-at n _ c.in-Some.window.now notes (found-window n c.as_bytes.result.now c.args.self.now c.self.inside.windows c.in-Some.window.now key c.self.view_is c.in-Some.ensures) h in
    stands.running

pub returns-in-None-clause-notes : goal.returns-in-None-clause-notes
returns-in-None-clause-notes c notes h =
    let n = c.args.namespace.now in
    let key : c.as_bytes.result.now ≡ n = cc in
    let stands = stands-at n _ _ notes (no-window n c.as_bytes.result.now c.args.self.now c.self.inside.windows key c.self.view_is c.in-None.ensures) h in
    stands.running
