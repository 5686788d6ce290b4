use Rattle.std.proofs.Common.{◌+◌, ◌∙◌, ℕ, Result, drop, refl, sym, ap, subst, arith}
use Rattle.ow_http.specs.declared.reason.Reason.{Reason}
use Rattle.ow_tables.specs.Refusal.{old_row}
use Rattle.ow_decide.specs.Deploying.{drafted_row, put_drafts}
use Rattle.ow_decide.specs.Deployment.{IsPut}
use Rattle.ow_decide.proofs.GatherLaws.{stays_then}
use Rattle.ow_decide.proofs.PutAllLaws.{put_done, put_ends, put_next}
use Rattle.ow_decide.proofs.deploy_steps.Deployment.put_all.Goals as goal

pub loop-draft-init : goal.loop-draft-init
loop-draft-init c = record { put = refl; commit = λ b rs gathered. gathered }

pub loop-draft-preserved : goal.loop-draft-preserved
loop-draft-preserved c =
    let t = c.args.tenants.now in
    let p = c.loop-draft.self.progress in
    let d = c.draft-item.result in
    let so_far = c.loop-draft.invariant.put ∙ ap (λ (n : ℕ). put_drafts t n (drop c.loop-draft.draft-index c.args.drafts.now) p) (sym c.in_ok-place.ensures) in
    record {
      put = put_next t c.args.drafts.now c.loop-draft.draft-index c.in_ok-place.place d p c.put.new.self.progress _ c.loop-draft-test.true c.draft-item.is
          (subst (λ (r : Result (Unit {0}) Reason). IsPut r (drafted_row t p.rows d) (old_row d p.rows) p c.put.new.self.progress) c.in_default.is c.in_ok-reason.ensures.put) so_far;
      commit = stays_then c.args.self.now c.loop-draft.self c.put.new.self c.loop-draft.invariant.commit c.in_ok-reason.ensures.commit;
    }

pub returns-in-Err-clause-put : goal.returns-in-Err-clause-put
returns-in-Err-clause-put c =
    let t = c.args.tenants.now in
    let p = c.loop-draft.self.progress in
    let d = c.draft-item.result in
    let so_far = c.loop-draft.invariant.put ∙ ap (λ (n : ℕ). put_drafts t n (drop c.loop-draft.draft-index c.args.drafts.now) p) (sym c.in_ok-place.ensures) in
    put_ends t c.args.drafts.now c.loop-draft.draft-index c.in_ok-place.place d p c.in-Err.reason _ c.loop-draft-test.true c.draft-item.is
    (subst (λ (r : Result (Unit {0}) Reason). IsPut r (drafted_row t p.rows d) (old_row d p.rows) p c.put.new.self.progress) c.in-Err.is c.in_ok-reason.ensures.put) so_far

pub returns-in-Err-clause-commit : goal.returns-in-Err-clause-commit
returns-in-Err-clause-commit c = stays_then c.args.self.now c.loop-draft.self c.put.new.self c.loop-draft.invariant.commit c.in_ok-reason.ensures.commit

pub returns-clause-put : goal.returns-clause-put
returns-clause-put c =
    put_done c.args.tenants.now c.args.drafts.now c.loop-draft.draft-index (c.loop-draft.place + 1) c.loop-draft.self.progress _ (omega arith) c.loop-draft.invariant.put

pub returns-clause-commit : goal.returns-clause-commit
returns-clause-commit c = c.loop-draft.invariant.commit
