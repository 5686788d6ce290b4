use Rattle.std.proofs.Common.{Err, ap, refl}
use Rattle.ow_office.specs.Day.{DoesDay}
use Rattle.ow_office.specs.Sides.{sides, sink, source}
use Rattle.ow_office.proofs.Tables.{read_over, unread_over}
use Rattle.ow_office.proofs.day.do_day.Goals as goal

pub returns-in-Ok-clause-told : goal.returns-in-Ok-clause-told
returns-in-Ok-clause-told g c =
    let store = g.P.Keeper.telling in
    let before = sides (source g.T.Source.left g.T.Source.faults c.args.table.now) (source g.S.Source.left g.S.Source.faults c.args.day.now) (sink g.O.Sink.taken g.O.Sink.faults c.args.out.now) (store c.args.store) in
    let after = sides (source g.T.Source.left g.T.Source.faults c.read_table.new.table) (source g.S.Source.left g.S.Source.faults c.run_day.new.day) (sink g.O.Sink.taken g.O.Sink.faults c.run_day.new.out) (store c.run_day.result.1) in
    let ran = c.run_day.ensures in
    read_over DoesDay c.args.named before after c.in-Ok.tenants c.run_day.result.0 c.in-Ok.ensures.told c.in-Ok.ensures.reads c.in-Ok.ensures.most (record {
      ends = ran.own;
      told = ran.told;
      reads = ran.reads;
      answered = ran.answered;
      read = ran.read;
      write = ran.write;
    })

pub returns-in-Err-clause-told : goal.returns-in-Err-clause-told
returns-in-Err-clause-told g c =
    let day = source g.S.Source.left g.S.Source.faults c.args.day.now in
    let out = sink g.O.Sink.taken g.O.Sink.faults c.args.out.now in
    let store = g.P.Keeper.telling c.args.store in
    let before = sides (source g.T.Source.left g.T.Source.faults c.args.table.now) day out store in
    let after = sides (source g.T.Source.left g.T.Source.faults c.read_table.new.table) day out store in
    rw c.unread.ensures (unread_over DoesDay c.args.named before after c.in-Err.refusal c.in-Err.ensures.told c.in-Err.ensures.reads c.in-Err.ensures.most (λ e. c.in-Err.ensures.cause (ap Err e)) refl)
