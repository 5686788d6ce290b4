use Rattle.std.proofs.Common.{◌∙◌, ap}
use Rattle.ow_traits.specs.Rows.{text_of}
use Rattle.ow_traits.proofs.Keys.{found_there, found_nowhere}
use Rattle.ow_traits.proofs.row_list.Rows.find.Goals as goal

pub returns-in-Ok : goal.returns-in-Ok
returns-in-Ok c =
    found_there c.self.inside.rows.items c.as_slice-rows.result.now c.args.key.now c.in-Ok.i c.index-rows-i.result c.as_slice-rows.ensures.value c.self.invariant c.in-Ok.ensures.ok
    ∙ ap (text_of c.args.key.now) c.self.view_is

pub returns-in-Err : goal.returns-in-Err
returns-in-Err c =
    found_nowhere c.self.inside.rows.items c.as_slice-rows.result.now c.args.key.now c.in-Err.field-0 c.as_slice-rows.ensures.value c.in-Err.ensures.err.1
    ∙ ap (text_of c.args.key.now) c.self.view_is
