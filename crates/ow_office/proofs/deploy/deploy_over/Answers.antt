use Rattle.ow_office.specs.Sides.{sink, source}
use Rattle.ow_tenant.proofs.RowsLaws.{none_up_to}
use Rattle.ow_tenant.specs.Reading.{most_read}
use Rattle.ow_office.proofs.Deploying.{no_opening, opened_told, unopened_told}
use Rattle.ow_office.proofs.deploy.deploy_over.Goals as goal

pub returns-in-Ok-clause-does : goal.returns-in-Ok-clause-does
returns-in-Ok-clause-does g c = λ table left.
    let told = g.P.Keeper.telling in
    record {
      told = rw c.finish-store.ensures.store (opened_told told c.args.tenants c.args.store c.in-Ok.hall c.deploy_in-status.new.hall c.in-Ok.ensures.opens c.finish-store.ensures.legal c.finish-store.ensures.kept table left
          (source g.S.Source.left g.S.Source.faults c.args.day.now) (source g.S.Source.left g.S.Source.faults c.deploy_in-status.new.day)
          (sink g.O.Sink.taken g.O.Sink.faults c.args.out.now) (sink g.O.Sink.taken g.O.Sink.faults c.deploy_in-status.new.out) c.deploy_in-status.result c.deploy_in-status.ensures.deploys);
      reads = c.deploy_in-status.ensures.reads;
    }

pub returns-in-Ok-clause-unbegun : goal.returns-in-Ok-clause-unbegun
returns-in-Ok-clause-unbegun g c = λ fault. absurd (no_opening g.P.Keeper.telling c.in-Ok.hall c.deploy_in-status.new.hall _ _ _ _ c.deploy_in-status.result c.deploy_in-status.ensures.deploys fault)

pub returns-clause-does : goal.returns-clause-does
returns-clause-does g c = λ table left. record {
  told = rw c.not_opened.ensures (unopened_told g.P.Keeper.telling c.args.tenants c.args.store table left (source g.S.Source.left g.S.Source.faults c.args.day.now) (sink g.O.Sink.taken g.O.Sink.faults c.args.out.now)
      c.in-Err.field-0 c.in-Err.ensures.unopened);
  reads = none_up_to most_read (g.S.Source.left c.args.day.now);
}
