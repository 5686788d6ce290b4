use Rattle.std.proofs.Common.{◌≡◌, drop}
use Rattle.std.specs.List.{list_all}
use Rattle.ow_value.specs.View.{pair_views}
use Rattle.ow_web.specs.Shown.{is_scalar}
use Rattle.ow_web.proofs.web_out.are_scalars.Given as goal

abbrev pub invariant-loop-pair : goal.invariant-loop-pair
invariant-loop-pair l =
    list_all (λ p. is_scalar p.1) (pair_views (drop l.pair-index l.members)) ≡ list_all (λ p. is_scalar p.1) (pair_views l.members)
