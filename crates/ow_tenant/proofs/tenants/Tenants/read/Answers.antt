use Rattle.std.proofs.Common.{arith, sym, ap, subst, ◌∙◌, Ok, Err, List, ℕ, Result}
use Rattle.ow_tenant.specs.Reading.{Tells, TellsTable}
use Rattle.ow_traits.specs.Prewarms.{AreWantsSized}
use Rattle.ow_tenant.specs.Table.{IsPoolSized, Table, rows_of}
use Rattle.ow_tenant.specs.declared.refusal.TenantRefusal.{TenantRefusal}
use Rattle.ow_tenant.proofs.RowsLaws.{tells-fault, tells-long, tells-made, tells-rows}
use Rattle.ow_tenant.proofs.SizedLaws.{rows_sized}
use Rattle.ow_tenant.proofs.tenants.Tenants.read.Goals as goal

pub returns-in_err-text-clause-told : goal.returns-in_err-text-clause-told
returns-in_err-text-clause-told g c =
    tells-made _ _ c.from_residual.result _ c.from_residual.ensures.1
    (λ e q. subst (λ (x : TenantRefusal). TellsTable (g.S.Source.left c.args.source.now) (g.S.Source.left c.read_bytes.new.source) (Err x)) (sym q) (tells-fault _ _ c.in_err-text.field-0.0 c.in_err-text.ensures.why))

pub returns-then-len-gt-MOST_BYTES-clause-told : goal.returns-then-len-gt-MOST_BYTES-clause-told
returns-then-len-gt-MOST_BYTES-clause-told g c = tells-long _ _ c.in_ok-text.text.items c.in_ok-text.ensures.told (omega arith)

pub returns-in_err-draft-clause-told : goal.returns-in_err-draft-clause-told
returns-in_err-draft-clause-told g c =
    let same = ap (λ (bs : List ℕ). rows_of bs) c.deref.ensures.value in
    tells-made _ _ c.from_residual-in_err-draft.result _ c.from_residual-in_err-draft.ensures.1
    (λ e q. subst (λ (x : TenantRefusal). TellsTable (g.S.Source.left c.args.source.now) (g.S.Source.left c.read_bytes.new.source) (Err x)) (sym q)
    (tells-rows _ _ c.in_ok-text.text.items (Err c.in_err-draft.field-0.0) c.in_ok-text.ensures.told (omega arith) (subst (λ (want : Result Table ℕ). Tells want (Err c.in_err-draft.field-0.0)) same c.in_err-draft.ensures.told) (λ e. c.in_err-draft.ensures.no_fault (cc e))))

pub returns-in_err-from_draft-clause-told : goal.returns-in_err-from_draft-clause-told
returns-in_err-from_draft-clause-told g c =
    tells-made _ _ c.from_residual-in_err-from_draft.result _ c.from_residual-in_err-from_draft.ensures.1 (λ e q. tells-fault _ _ e (λ no. absurd (no q)))

pub returns-clause-told : goal.returns-clause-told
returns-clause-told g c =
    let same = ap (λ (bs : List ℕ). rows_of bs) c.deref.ensures.value in
    tells-rows _ _ c.in_ok-text.text.items (Ok c.in_ok-from_draft.field-0) c.in_ok-text.ensures.told (omega arith) (sym same ∙ (c.in_ok-draft.ensures.told ∙ ap Ok (sym c.in_ok-from_draft.ensures))) (λ e. cc e)

pub returns-clause-sized : goal.returns-clause-sized
returns-clause-sized g c = subst (λ (t : Table). AreWantsSized t.wants) (sym c.in_ok-from_draft.ensures) (rows_sized c.deref.result.now c.in_ok-draft.draft c.in_ok-draft.ensures.told).0

pub returns-clause-pool : goal.returns-clause-pool
returns-clause-pool g c = subst (λ (t : Table). IsPoolSized t.pool) (sym c.in_ok-from_draft.ensures) (rows_sized c.deref.result.now c.in_ok-draft.draft c.in_ok-draft.ensures.told).1
