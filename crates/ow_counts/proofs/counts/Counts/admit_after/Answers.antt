use Rattle.std.proofs.Common.{◌≡◌, ◌+◌, ◌-◌, List, ap, subst, sym}
use Rattle.std.specs.Prelude.{count_by}
use Rattle.ow_floor.specs.Calls.{moved}
use Rattle.ow_floor.specs.declared.moves.Moved.{Moved}
use Rattle.ow_value.specs.ByText.{ByText}
use Rattle.ow_tenant.specs.Windows.{StandsAs}
use Rattle.ow_tenant.specs.declared.window.Window.{Window}
use Rattle.ow_counts.specs.View.{CountsView, comes, comes_at, comes_in, leaves, leaves_in, notes_of}
use Rattle.ow_counts.proofs.Moving.{admitted_after}
use Rattle.ow_counts.proofs.Noting.{latest_noted}
use Rattle.ow_counts.proofs.counts.Counts.admit_after.Goals as goal

pub returns : goal.returns
returns c T items h sound up before is =
    let inside = subst (λ (ws : ByText Window). StandsAs ws (notes_of T)) (sym (ap (λ (v : CountsView). v.windows) c.self.view_is)) h.windows in
    let n = c.args.namespace.now in
    let minutes : c.in_ok-minute.minute ≡ c.minute-noted.result + count_by (comes_at n c.args.now) (moved items) - 0 = subst (λ (ms : List Moved). c.in_ok-minute.minute ≡ c.minute-noted.result + count_by (comes_at n c.args.now) ms - 0) is (rw (← c.comes_at.ensures) c.in_ok-minute.ensures) in
    let running : c.in_ok-running.running ≡ c.concurrent-open.result + count_by (comes_in n) (moved items) - count_by (leaves_in n) (moved items)
    = subst (λ (ms : List Moved). c.in_ok-running.running ≡ c.concurrent-open.result + count_by (comes_in n) ms - count_by (leaves_in n) ms) is (rw (← c.comes_in.ensures, ← c.leaves_in.ensures) c.in_ok-running.ensures) in
    let all : c.in_ok-busy.busy ≡ c.self.inside.busy + count_by comes (moved items) - count_by leaves (moved items)
    = subst (λ (ms : List Moved). c.in_ok-busy.busy ≡ c.self.inside.busy + count_by comes ms - count_by leaves ms) is (rw (← c.comes.ensures, ← c.leaves.ensures) c.in_ok-busy.ensures) in
    admitted_after T items c.args.self.now n c.args.limits.now c.args.now c.minute-noted.result c.concurrent-open.result c.self.inside.busy c.in_ok-minute.minute c.in_ok-running.running c.in_ok-busy.busy c.admitted_by.result
    h sound (c.minute-noted.ensures (notes_of T) inside (latest_noted c.args.now T before)) (c.concurrent-open.ensures.notes (notes_of T) inside) (ap (λ (v : CountsView). v.busy) c.self.view_is)
    minutes running all c.admitted_by.ensures
