use Rattle.std.proofs.Common.{◌≡◌, ◌++◌, drop, option_map}
use Rattle.ow_value.specs.Value.{items_of}
use Rattle.ow_value.specs.View.{views}
use Rattle.ow_entity.specs.PlainCode.{cases_in}
use Rattle.ow_runners.specs.Plain.{case_views}
use Rattle.ow_runners.proofs.plain_cases.cases_in.Given as goal

-- what was read, and what is left, is the whole
abbrev pub invariant-loop-item : goal.invariant-loop-item
invariant-loop-item l =
    option_map (λ cs. case_views l.cases.items ++ cs) (cases_in (items_of (views (drop l.item-index l.item-items)))) ≡ cases_in (items_of (views l.item-items))
