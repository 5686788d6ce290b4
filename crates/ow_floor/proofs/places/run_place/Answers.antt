use Rattle.std.proofs.Common.{sym, get_or, arith}
use Rattle.std.specs.Prelude.{None}
use Rattle.ow_floor.specs.View.{is_number}
use Rattle.ow_floor.specs.Store.{run_in}
use Rattle.ow_floor.proofs.Finding.{any_default}
use Rattle.ow_floor.proofs.Going.{cell_found, gone_within, none_has, none_there_at}
use Rattle.ow_floor.proofs.places.run_place.Goals as goal

pub loop-i-init : goal.loop-i-init
loop-i-init c = (gone_within _ _ c.requires, none_has run_in (is_number c.args.run) c.args.from c.args.runs.now c.requires)

pub returns-then-is_run : goal.returns-then-is_run
returns-then-is_run c =
    cell_found run_in (is_number c.args.run) c.args.runs.now c.loop-i.i (get_or c.args.runs.now c.loop-i.i None) c.loop-i-test.true
    (λ d. any_default c.args.runs.now c.loop-i.i d None c.loop-i-test.true) (sym c.if-is_run.ensures) c.loop-i.invariant.1

pub returns : goal.returns
returns c = none_there_at run_in (is_number c.args.run) c.args.runs.now (λ d j lt. c.loop-i.invariant.1 d j (omega (arith, lt, c.loop-i-test.false, c.loop-i.auto.i-end)))
