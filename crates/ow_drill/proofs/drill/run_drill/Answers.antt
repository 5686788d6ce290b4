use Rattle.ow_drill.proofs.Telling.{drill_told, no_opening, told_ends, unopened_told}
use Rattle.ow_drill.proofs.drill.run_drill.Goals as goal

pub returns-in-Err-clause-told : goal.returns-in-Err-clause-told
returns-in-Err-clause-told g c =
    rw c.not_opened.ensures (unopened_told g.P.Keeper.telling c.args.tenants c.args.n c.args.seed c.args.store (g.O.Sink.taken c.args.out.now) c.in-Err.unopened c.in-Err.ensures.unopened)

pub returns-in-Err-clause-ends : goal.returns-in-Err-clause-ends
returns-in-Err-clause-ends g c =
    let taken = g.O.Sink.taken c.args.out.now in
    rw c.not_opened.ensures (told_ends c.args.tenants c.args.n c.args.seed (g.P.Keeper.telling c.args.store) (g.P.Keeper.telling c.in-Err.unopened.store) taken taken _
    (unopened_told g.P.Keeper.telling c.args.tenants c.args.n c.args.seed c.args.store taken c.in-Err.unopened c.in-Err.ensures.unopened))

pub returns-clause-told : goal.returns-clause-told
returns-clause-told g c =
    drill_told g.P.Keeper.telling c.args.tenants c.args.n c.args.seed c.args.store c.in-Ok.session c.make-made.new.session c.finish.result c.make-made.result (g.O.Sink.taken c.args.out.now)
    (g.O.Sink.taken c.tell-status.new.out) c.tell-status.result c.finish.ensures.store c.in-Ok.ensures.begins c.finish.ensures.legal c.finish.ensures.kept c.make-made.ensures c.tell-status.ensures.told

pub returns-clause-ends : goal.returns-clause-ends
returns-clause-ends g c =
    let old = g.O.Sink.taken c.args.out.now in
    let new = g.O.Sink.taken c.tell-status.new.out in
    told_ends c.args.tenants c.args.n c.args.seed (g.P.Keeper.telling c.args.store) (g.P.Keeper.telling c.finish.result) old new c.tell-status.result
    (drill_told g.P.Keeper.telling c.args.tenants c.args.n c.args.seed c.args.store c.in-Ok.session c.make-made.new.session c.finish.result c.make-made.result old new c.tell-status.result c.finish.ensures.store
    c.in-Ok.ensures.begins c.finish.ensures.legal c.finish.ensures.kept c.make-made.ensures c.tell-status.ensures.told)

pub returns-clause-unbegun : goal.returns-clause-unbegun
returns-clause-unbegun g c = λ fault.
    absurd (no_opening c.args.tenants c.args.n c.args.seed c.make-made.result (g.O.Sink.taken c.args.out.now) (g.O.Sink.taken c.tell-status.new.out) c.tell-status.result c.tell-status.ensures.told fault)
