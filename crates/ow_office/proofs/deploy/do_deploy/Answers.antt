use Rattle.std.proofs.Common.{Err, ap, inl, refl}
use Rattle.ow_office.specs.Deploy.{DoesDeploy}
use Rattle.ow_office.specs.Sides.{sides, sink, source}
use Rattle.ow_office.proofs.Asking.{no_source}
use Rattle.ow_office.proofs.Deploying.{told_ends, told_read, told_table, told_write}
use Rattle.ow_office.proofs.Tables.{read_over, unread_over}
use Rattle.ow_office.proofs.deploy.do_deploy.Goals as goal

pub returns-in-Ok-clause-told : goal.returns-in-Ok-clause-told
returns-in-Ok-clause-told g c =
    let store = g.P.Keeper.telling in
    let before = sides (source g.T.Source.left g.T.Source.faults c.args.table.now) (source g.S.Source.left g.S.Source.faults c.args.day.now) (sink g.O.Sink.taken g.O.Sink.faults c.args.out.now) (store c.args.store) in
    let after = sides (source g.T.Source.left g.T.Source.faults c.read_table.new.table) (source g.S.Source.left g.S.Source.faults c.deploy_over.new.day) (sink g.O.Sink.taken g.O.Sink.faults c.deploy_over.new.out) (store c.deploy_over.result.1) in
    read_over DoesDeploy c.args.named before after c.in-Ok.tenants c.deploy_over.result.0 c.in-Ok.ensures.told c.in-Ok.ensures.reads c.in-Ok.ensures.most (c.deploy_over.ensures.does _ _)

pub returns-in-Ok-clause-ends : goal.returns-in-Ok-clause-ends
returns-in-Ok-clause-ends g c = let does = c.deploy_over.ensures.does no_source no_source in told_ends c.in-Ok.tenants _ _ c.deploy_over.result.0 does.told

pub returns-in-Ok-clause-read : goal.returns-in-Ok-clause-read
returns-in-Ok-clause-read g c = λ bad. let does = c.deploy_over.ensures.does no_source no_source in inl (told_read c.in-Ok.tenants _ _ c.deploy_over.result.0 does.told bad)

pub returns-in-Ok-clause-write : goal.returns-in-Ok-clause-write
returns-in-Ok-clause-write g c = λ bad. let does = c.deploy_over.ensures.does no_source no_source in told_write c.in-Ok.tenants _ _ c.deploy_over.result.0 does.told bad

pub returns-in-Ok-clause-bad_table : goal.returns-in-Ok-clause-bad_table
returns-in-Ok-clause-bad_table g c = λ row bad. let does = c.deploy_over.ensures.does no_source no_source in absurd (told_table c.in-Ok.tenants _ _ c.deploy_over.result.0 does.told row bad)

pub returns-in-Err-clause-told : goal.returns-in-Err-clause-told
returns-in-Err-clause-told g c =
    let day = source g.S.Source.left g.S.Source.faults c.args.day.now in
    let out = sink g.O.Sink.taken g.O.Sink.faults c.args.out.now in
    let store = g.P.Keeper.telling c.args.store in
    let before = sides (source g.T.Source.left g.T.Source.faults c.args.table.now) day out store in
    let after = sides (source g.T.Source.left g.T.Source.faults c.read_table.new.table) day out store in
    rw c.unread.ensures (unread_over DoesDeploy c.args.named before after c.in-Err.refusal c.in-Err.ensures.told c.in-Err.ensures.reads c.in-Err.ensures.most (λ e. c.in-Err.ensures.cause (ap Err e)) refl)
