use Rattle.std.proofs.Common.{◌≡◌, ◌<◌, false, arith, ap, sym, ◌∙◌}
use Rattle.std.proofs.lemmas.List.{take_rest}
use Rattle.ow_day.specs.Line.{lines_of, read_lines}
use Rattle.ow_day.proofs.Logging.{all_read, cut_is, none_is, one_read}
use Rattle.ow_day.proofs.logs.lines_of.Goals as goal

pub loop-left-preserved : goal.loop-left-preserved
loop-left-preserved c =
    let some : 0 < c.loop-left.left = omega arith in
    let slice = take_rest c.args.bytes.now c.loop-left.from in
    let read = rw slice at c.in-Read.ensures.line in
    let within = rw slice at c.in-Read.ensures.within in
    rw c.in_ok-push_line-in-Read.ensures
    (one_read false c.args.count c.loop-left.left c.loop-left.from c.in-Read.used c.args.bytes.now c.in-Read.text.now c.loop-left.lines.items some (sym read) within.1 c.loop-left.invariant)

pub returns-in-Wrong : goal.returns-in-Wrong
returns-in-Wrong c =
    let some : 0 < c.loop-left.left = omega arith in
    let wrong = rw (take_rest c.args.bytes.now c.loop-left.from) at c.in-Wrong.ensures.line in
    c.new.ensures ∙ sym (ap read_lines (none_is false c.args.count c.loop-left.left c.loop-left.from c.args.bytes.now c.loop-left.lines.items some (sym wrong) c.loop-left.invariant))

pub returns-in-Cut : goal.returns-in-Cut
returns-in-Cut c =
    let some : 0 < c.loop-left.left = omega arith in
    let cut = rw (take_rest c.args.bytes.now c.loop-left.from) at c.in-Cut.ensures.line in
    c.new-in-Cut.ensures ∙ sym (ap read_lines (cut_is false c.args.count c.loop-left.left c.loop-left.from c.args.bytes.now c.loop-left.lines.items some (sym cut) c.loop-left.invariant))

pub returns : goal.returns
returns c =
    let same : lines_of c.args.count c.args.bytes.now ≡ c.loop-left.lines.items =
    ap read_lines (all_read false c.args.count c.loop-left.left c.loop-left.from c.args.bytes.now c.loop-left.lines.items (omega arith) c.loop-left.invariant) in
    rw same c.from_vec.ensures
