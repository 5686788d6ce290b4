use Rattle.std.proofs.Common.{refl, sym, subst}
use Rattle.ow_tenant.specs.Table.{IsPoolSized, Table}
use Rattle.ow_hall.specs.Performing.{outcome_twice}
use Rattle.ow_desk.proofs.Faults.{same_tenants, still_within}
use Rattle.ow_desk.proofs.Received.{nothing_received}
use Rattle.ow_desk.proofs.receipts.Receipts.perform.Goals as goal

pub returns-in_default-clause-received : goal.returns-in_default-clause-received
returns-in_default-clause-received g c = nothing_received g.P.Keeper.telling c.args.desk.now c.args.at c.args.event c.args.self.now.notes c.args.self.now.notes refl

pub returns-in_default-reserve-clause-received : goal.returns-in_default-reserve-clause-received
returns-in_default-reserve-clause-received g c =
    nothing_received g.P.Keeper.telling c.args.desk.now c.args.at c.args.event c.args.self.now.notes c.reserve.new.self.notes c.reserve.ensures.notes

pub invariant_of-desk : goal.invariant_of-desk
invariant_of-desk g c =
    let o = outcome_twice c.perform.result in (
      still_within g.P.Keeper.telling c.desk.inside.hall c.perform.new.self c.args.at c.desk.inside.since c.desk.inside.before c.args.event o
          c.perform.ensures.comes c.desk.invariant.0,
      subst (λ (t : Table). IsPoolSized t.pool)
          (sym (same_tenants g.P.Keeper.telling c.desk.inside.hall c.perform.new.self c.args.at c.args.event o c.perform.ensures.comes)) c.desk.invariant.1,
    )
