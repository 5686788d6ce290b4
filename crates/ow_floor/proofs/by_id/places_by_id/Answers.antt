use Rattle.std.proofs.Common.{rules, is_lt}
use Rattle.std.proofs.lemmas.Fn.{always_returns_same}
use Rattle.std.proofs.lemmas.List.Sorted.{ranks_by}
use Rattle.ow_floor.specs.Ends.{place_cmp}
use Rattle.ow_floor.proofs.Sorting.{total}
use Rattle.ow_floor.proofs.by_id.places_by_id.Goals as goal

pub returns : goal.returns
returns c = record {
  same = rw (← c.in_ok-places.ensures) c.sort_by.ensures.permutation;
  sorted = c.in_ok-sort_by.ensures.sorted (λ x y. is_lt (place_cmp x y)) (ranks_by total (λ x. x)) (always_returns_same _ _ _ (λ a r f k. search rules));
}
