use Rattle.std.proofs.Common.{◌++◌, ◌∙◌, ap, ap₂}
use Rattle.std.specs.Option.{option_to_list}
use Rattle.ow_serve.specs.Working.{fresh_outset}
use Rattle.ow_serve.proofs.Begun.{begins_by, started_as, started_as_if}
use Rattle.ow_serve.proofs.beginning.begin_all.Goals as goal

pub returns-in-Some-clause-begins : goal.returns-in-Some-clause-begins
returns-in-Some-clause-begins g c =
    let workers = c.begin_workers.ensures.clock in
    let sweeps = c.begin.ensures.clock in
    let second = ap₂ (λ a o. fresh_outset (g.C.Clock.tells a.value) o) workers.0 workers.1 in
    let third = ap₂ (λ a o. fresh_outset (g.C.Clock.tells a.value) o) (sweeps.0 ∙ workers.0) (sweeps.1 ∙ workers.1) in
    begins_by _ c.begin-in-Some.result c.pop-last.new.self.items c.args.runners.items c.in-Some.runner _ _ _ _
    (c.pop-last.ensures.items ∙ ap (λ o. c.pop-last.new.self.items ++ option_to_list o) c.in-Some.is)
    c.in_ok-begin_workers.ensures.begins (started_as _ _ (λ t w d. (d.0, d.1, d.2 ∙ second)) _ _ _ c.in_ok-begin.ensures.begins)
    (started_as_if _ _ (λ t w d. (d.0, d.1, d.2 ∙ third)) c.begin-in-Some.result _ _ _ c.begin-in-Some.ensures.begins)
