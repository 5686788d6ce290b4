use Rattle.std.proofs.Common.{Err, ap, refl}
use Rattle.ow_office.specs.Drill.{DoesDrill}
use Rattle.ow_office.specs.Sides.{sides, sink, source}
use Rattle.ow_office.proofs.Asking.{drill_ends}
use Rattle.ow_office.proofs.Tables.{read_over, unread_over}
use Rattle.ow_office.proofs.drill.do_drill.Goals as goal

pub returns-in-Ok-clause-told : goal.returns-in-Ok-clause-told
returns-in-Ok-clause-told g c = λ day.
    let store = g.P.Keeper.telling in
    let before = sides (source g.T.Source.left g.T.Source.faults c.args.table.now) day (sink g.O.Sink.taken g.O.Sink.faults c.args.out.now) (store c.args.store) in
    let after = sides (source g.T.Source.left g.T.Source.faults c.read_table.new.table) day (sink g.O.Sink.taken g.O.Sink.faults c.run_drill.new.out) (store c.run_drill.result.1) in
    let ran = c.run_drill.ensures in
    read_over (DoesDrill c.args.numbers.n c.args.numbers.seed) c.args.named before after c.in-Ok.tenants c.run_drill.result.0 c.in-Ok.ensures.told c.in-Ok.ensures.reads c.in-Ok.ensures.most (record {
      ends = ran.ends;
      told = ran.told;
      write = ran.write;
      others = refl;
    })

pub returns-in-Ok-clause-ends : goal.returns-in-Ok-clause-ends
returns-in-Ok-clause-ends g c = (drill_ends c.run_drill.result.0 c.run_drill.ensures.ends).0

pub returns-in-Ok-clause-read : goal.returns-in-Ok-clause-read
returns-in-Ok-clause-read g c = λ bad. absurd ((drill_ends c.run_drill.result.0 c.run_drill.ensures.ends).1 bad)

pub returns-in-Ok-clause-bad_table : goal.returns-in-Ok-clause-bad_table
returns-in-Ok-clause-bad_table g c = λ row bad. absurd ((drill_ends c.run_drill.result.0 c.run_drill.ensures.ends).2 row bad)

pub returns-in-Err-clause-told : goal.returns-in-Err-clause-told
returns-in-Err-clause-told g c = λ day.
    let out = sink g.O.Sink.taken g.O.Sink.faults c.args.out.now in
    let store = g.P.Keeper.telling c.args.store in
    let before = sides (source g.T.Source.left g.T.Source.faults c.args.table.now) day out store in
    let after = sides (source g.T.Source.left g.T.Source.faults c.read_table.new.table) day out store in
    rw c.unread.ensures (unread_over (DoesDrill c.args.numbers.n c.args.numbers.seed) c.args.named before after c.in-Err.refusal c.in-Err.ensures.told c.in-Err.ensures.reads c.in-Err.ensures.most
    (λ e. c.in-Err.ensures.cause (ap Err e)) refl)
