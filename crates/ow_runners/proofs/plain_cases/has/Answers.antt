use Rattle.std.proofs.Common.{ap, ◌∙◌}
use Rattle.ow_value.specs.Find.{find}
use Rattle.ow_value.specs.View.{view}
use Rattle.ow_value.proofs.Equal.{tested}
use Rattle.ow_runners.specs.Equality.{is_value}
use Rattle.ow_runners.proofs.plain_cases.has.Goals as goal

pub returns-in-Some : goal.returns-in-Some
returns-in-Some c =
    tested _ _ _ c.same.ensures
    ∙ ap (λ o. is_value (view c.args.pair.now.value) o) (c.in-Some.ensures.value ∙ ap (λ n. find n c.args.params.now) c.as_str.ensures.value)
