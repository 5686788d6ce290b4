use Rattle.std.proofs.Common.{arith, ◌∙◌, sym, ap}
use Rattle.ow_value.specs.View.{views, pair_views}
use Rattle.ow_value.proofs.Views.{same_value_at, same_pair_at}
use Rattle.ow_value.proofs.+alike.Goals as goal

pub val::Vals::is_same-returns-then-not-same : goal.val::Vals::is_same-returns-then-not-same
val::Vals::is_same-returns-then-not-same t c = (
  λ h. cc,
  λ e. sym c.if-not-same.true ∙ c.same.ensures.1 (same_value_at _ _ c.loop-i.i _ _ _ _ (omega arith) c.index-xs-i.is c.index-ys-i.is (ap views c.held-xs.ensures ∙ c.self.view_is) (ap views c.held-ys.ensures ∙ c.other.view_is) e),
)

pub val::Params::is_same-returns-then-not-is_same : goal.val::Params::is_same-returns-then-not-is_same
val::Params::is_same-returns-then-not-is_same t c = (
  λ h. cc,
  λ e. sym c.if-not-is_same.true ∙ c.is_same.ensures.1 (same_pair_at _ _ c.loop-i.i _ _ _ _ (omega arith) c.index-xs-i.is c.index-ys-i.is (ap pair_views c.held-xs.ensures ∙ c.self.view_is) (ap pair_views c.held-ys.ensures ∙ c.other.view_is) e),
)
