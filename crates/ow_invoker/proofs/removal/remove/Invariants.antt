use Rattle.std.proofs.Common.{◌≤◌, length, take, vec_capacity, vec_len}
use Rattle.ow_traits.specs.Runner.{Idles}
use Rattle.ow_invoker.proofs.Orders.{Removed}
use Rattle.ow_invoker.proofs.removal.remove.Given as goal

abbrev pub invariant-loop-container : goal.invariant-loop-container
invariant-loop-container g l = record {
  removed : Removed g.P.Keeper.telling l.initial.hall l.at l.hall l.initial.shelf l.shelf (take l.container-index l.container-items) l.steps.items;
  idles : Idles (g.R.Runner.gives l.initial.runner) (g.R.Runner.gives l.runner) (g.R.Runner.tally l.initial.runner) (g.R.Runner.tally l.runner);
  few : vec_len l.steps ≤ l.container-index;
  room : length l.container-items ≤ vec_capacity l.steps;
}
