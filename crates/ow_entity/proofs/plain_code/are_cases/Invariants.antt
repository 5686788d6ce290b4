use Rattle.std.proofs.Common.{◌≡◌, is_some, drop}
use Rattle.ow_value.specs.Value.{items_of}
use Rattle.ow_value.specs.View.{views}
use Rattle.ow_entity.specs.PlainCode.{cases_in}
use Rattle.ow_entity.proofs.plain_code.are_cases.Given as goal

abbrev pub invariant-loop-case : goal.invariant-loop-case
invariant-loop-case l =
    is_some (cases_in (items_of (views (drop l.case-index l.case-items)))) ≡ is_some (cases_in (items_of (views l.case-items)))
