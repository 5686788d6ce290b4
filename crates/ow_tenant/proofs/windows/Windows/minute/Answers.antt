use Rattle.std.proofs.Common.{◌≡◌, ◌∙◌}
use Rattle.ow_tenant.proofs.WindowLaws.{found-window, no-window, stands-at}
use Rattle.ow_tenant.proofs.windows.Windows.minute.Goals as goal

pub returns-in-Some : goal.returns-in-Some
returns-in-Some c notes h le =
    let n = c.args.namespace.now in
    let key : c.as_bytes.result.now ≡ n = cc in
    let stands = stands-at n _ c.in-Some.window.now notes (found-window n c.as_bytes.result.now c.args.self.now c.self.inside.windows c.in-Some.window.now key c.self.view_is c.in-Some.ensures) h in
    c.count.ensures stands.invoked_rise ∙ stands.invoked c.args.now le

pub returns-in-None : goal.returns-in-None
returns-in-None c notes h le =
    let n = c.args.namespace.now in
    let key : c.as_bytes.result.now ≡ n = cc in
    let stands = stands-at n _ _ notes (no-window n c.as_bytes.result.now c.args.self.now c.self.inside.windows key c.self.view_is c.in-None.ensures) h in
    stands.invoked c.args.now le
