use Rattle.std.proofs.Common.{◌≡◌, [], ◌∷◌, subst, sym}
use Rattle.ow_traits.specs.declared.memory_keeper.MemoryKeeper.{MemoryKeeper}
use Rattle.ow_hall.specs.Comes.{HallView}
use Rattle.ow_hall.specs.declared.entry.Entry.{Entry}
use Rattle.ow_audit_tests.proofs.OpenLaws.{one_entry}
use Rattle.ow_audit_tests.proofs.of_days.office.Goals as goal

pub returns-in-Ok : goal.returns-in-Ok
returns-in-Ok c =
    let o = c.in-Ok.ensures.opens in
    subst (λ (h : HallView MemoryKeeper). (x : Entry) × (h.ledger.entries ≡ x ∷ [])) (sym c.of.ensures.hall) (one_entry c.in_ok-tenants.tenants o.loaded 0 c.in-Ok.hall.ledger o.ledger)
