use Rattle.std.proofs.Common.{subst, ◌≡◌, List, ℕ}
use Rattle.ow_value.specs.ByText.{StandsAt}
use Rattle.ow_tenant.proofs.WindowLaws.{closed-others}
use Rattle.ow_tenant.proofs.windows.Windows.open.Goals as goal

pub returns-clause-place : goal.returns-clause-place
returns-clause-place c =
    let n = c.args.namespace.now in
    let key : c.as_bytes.result.now ≡ n = cc in
    let here = subst (λ (k : List ℕ). StandsAt k c.self.inside.windows c.in-Some.place) key c.in-Some.ensures in
    c.replace-window.ensures.stands n here

pub returns-clause-others : goal.returns-clause-others
returns-clause-others c =
    let n = c.args.namespace.now in
    let key : c.as_bytes.result.now ≡ n = cc in
    let here = subst (λ (k : List ℕ). StandsAt k c.self.inside.windows c.in-Some.place) key c.in-Some.ensures in
    closed-others n c.args.self.now c.self.inside.windows _ _ c.self.view_is (c.replace-window.ensures.new n here)
