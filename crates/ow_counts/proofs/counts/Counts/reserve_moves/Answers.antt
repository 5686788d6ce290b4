use Rattle.std.proofs.Common.{◌≡◌, ℕ, length, ap, arith, subst}
use Rattle.std.specs.List.{AllByRecursion}
use Rattle.ow_floor.proofs.Results.{on_more}
use Rattle.ow_counts.specs.View.{CountsView, IsRoomy}
use Rattle.ow_counts.proofs.counts.Counts.reserve_moves.Goals as goal

pub returns-clause-room : goal.returns-clause-room
returns-clause-room c =
    let same = ap (λ (v : CountsView). v.busy) c.self.view_is in
    let count : c.in-Ok.count ≡ length c.args.moves.now = omega (arith, c.in-Ok.ensures) in
    on_more c.reserve_all.result _ _
    (λ all. record {
      windows = subst (λ (n : ℕ). AllByRecursion (IsRoomy n c.reserve_all.new.counts) c.args.moves.now) count all;
      counter = omega (arith, same, count, c.if-self-from.false, c.reserve_all.ensures.busy);
      within = omega arith;
    }) c.reserve_all.ensures.room
