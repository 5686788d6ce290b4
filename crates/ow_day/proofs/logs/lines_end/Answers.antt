use Rattle.std.proofs.Common.{◌<◌, ◌++◌, [], ◌∷◌, arith, sym}
use Rattle.std.proofs.lemmas.List.{take_rest}
use Rattle.ow_day.proofs.Logging.{all_read, cut_is, none_is, one_read}
use Rattle.ow_day.proofs.logs.lines_end.Goals as goal

pub loop-left-preserved : goal.loop-left-preserved
loop-left-preserved c =
    let some : 0 < c.loop-left.left = omega arith in
    let slice = take_rest c.args.bytes.now c.loop-left.from in
    let read = rw slice at c.in-Read.ensures.line in
    let within = rw slice at c.in-Read.ensures.within in (
      c.loop-left.invariant.0 ++ c.in-Read.field-0.now ∷ [],
      one_read c.args.more c.args.count c.loop-left.left c.loop-left.from c.in-Read.used c.args.bytes.now c.in-Read.field-0.now c.loop-left.invariant.0 some (sym read) within.1 c.loop-left.invariant.1,
    )

pub returns-in-Wrong : goal.returns-in-Wrong
returns-in-Wrong c =
    let some : 0 < c.loop-left.left = omega arith in
    let wrong = rw (take_rest c.args.bytes.now c.loop-left.from) at c.in-Wrong.ensures.line in
    none_is c.args.more c.args.count c.loop-left.left c.loop-left.from c.args.bytes.now c.loop-left.invariant.0 some (sym wrong) c.loop-left.invariant.1

pub returns-in-Cut : goal.returns-in-Cut
returns-in-Cut c =
    let some : 0 < c.loop-left.left = omega arith in
    let cut = rw (take_rest c.args.bytes.now c.loop-left.from) at c.in-Cut.ensures.line in
    cut_is c.args.more c.args.count c.loop-left.left c.loop-left.from c.args.bytes.now c.loop-left.invariant.0 some (sym cut) c.loop-left.invariant.1

pub returns : goal.returns
returns c = (
  c.loop-left.invariant.0,
  c.loop-left.invariant.1.within,
  all_read c.args.more c.args.count c.loop-left.left c.loop-left.from c.args.bytes.now c.loop-left.invariant.0 (omega arith) c.loop-left.invariant.1,
)
