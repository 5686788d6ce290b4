use Rattle.std.proofs.Common.{◌≡◌, ◌++◌, option_map, drop}
use Rattle.ow_value.specs.Value.{items_of}
use Rattle.ow_value.specs.View.{views}
use Rattle.ow_records.specs.FieldsIn.{lines_listed}
use Rattle.ow_records.proofs.fields_in.lines_listed.Given as goal

abbrev pub invariant-loop-item : goal.invariant-loop-item
invariant-loop-item l =
    option_map (λ ss. l.lines.items ++ ss) (lines_listed (items_of (views (drop l.item-index l.item-items))))
    ≡ lines_listed (items_of (views l.item-items))
