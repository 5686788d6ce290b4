use Rattle.std.proofs.Common.{◌∙◌, None, Some, ap, sym}
use Rattle.std.specs.Option.{option_copied}
use Rattle.ow_value.specs.View.{view}
use Rattle.ow_http.specs.Request.{parts_of}
use Rattle.ow_reads.proofs.ReadLaws.{row_shown}
use Rattle.ow_reads.proofs.SeenLaws.{option_shown}
use Rattle.ow_reads.proofs.reads.row_shown.Goals as goal

pub returns-in_ok-shown_row-in-Some-2 : goal.returns-in_ok-shown_row-in-Some-2
returns-in_ok-shown_row-in-Some-2 c = λ ended. row_shown c.args.tables.now.rows ended c.args.holder.now (parts_of c.args.request.now) c.args.call.now c.args.kind c.in-Some.name (Some (view c.in_ok-shown_row-in-Some-2.field-0))
    c.are_ordered.ensures c.requires c.in-Some.is c.in_ok-row.ensures.named
    (ap (option_shown c.args.tables.now.rows) (sym c.in_ok-row.ensures.value ∙ ap option_copied c.in-Some-2.is) ∙ ap Some (sym c.in_ok-shown_row-in-Some-2.ensures))

pub returns-in-None : goal.returns-in-None
returns-in-None c = λ ended. row_shown c.args.tables.now.rows ended c.args.holder.now (parts_of c.args.request.now) c.args.call.now c.args.kind c.in-Some.name None
    c.are_ordered.ensures c.requires c.in-Some.is c.in_ok-row.ensures.named
    (ap (option_shown c.args.tables.now.rows) (sym c.in_ok-row.ensures.value ∙ ap option_copied c.in-None.is))
