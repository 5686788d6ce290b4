use Rattle.std.proofs.Common.{[], Err, append-nil, append_assoc, arith, ap, refl, subst, sym, ◌∙◌, ◌++◌}
use Rattle.ow_http.specs.Read.{IsRead}
use Rattle.ow_http.specs.declared.http_refusal.HttpRefusal.TheVariants.{CutShort}
use Rattle.ow_wire.proofs.Came.{ended_by, gives_no_more, gives_nothing, gives_then, is_cut, needs_nothing, needs_piece}
use Rattle.ow_wire.proofs.inbox.Inbox.receive.Goals as goal

pub loop-init : goal.loop-init
loop-init g c = ([], gives_nothing _, sym (append-nil _), needs_nothing _, refl, omega arith)

pub returns-in-End-clause-received : goal.returns-in-End-clause-received
returns-in-End-clause-received g c =
    let before = c.loop.invariant in
    let now = c.in-End.ensures.filled in
    let cut = is_cut _ _ _ c.in-Err-CutShort.ensures c.in-Err-CutShort.field-0-is in (
      before.0,
      gives_no_more _ _ _ before.0 now.0 before.1 now.1 now.2.1,
      ended_by _ _ _ _ c.ended.result (now.2.0 ∙ (c.in-Err-CutShort.ensures.0 ∙ before.2)) (subst (λ b. IsRead b (Err CutShort)) before.2 cut) now.2.2 c.ended.ensures,
      before.3,
    )

pub returns-in-Fault-clause-received : goal.returns-in-Fault-clause-received
returns-in-Fault-clause-received g c =
    let before = c.loop.invariant in
    let now = c.in-Fault.ensures.filled in
    let cut = is_cut _ _ _ c.in-Err-CutShort.ensures c.in-Err-CutShort.field-0-is in (
      before.0,
      gives_no_more _ _ _ before.0 now.0 before.1 now.1 now.2,
      subst (λ b. IsRead b (Err CutShort)) before.2 cut,
      before.3,
    )

pub returns-in-NoMemory-clause-received : goal.returns-in-NoMemory-clause-received
returns-in-NoMemory-clause-received g c =
    let before = c.loop.invariant in
    let now = c.in-NoMemory.ensures.filled in
    let cut = is_cut _ _ _ c.in-Err-CutShort.ensures c.in-Err-CutShort.field-0-is in (
      before.0 ++ now.0,
      gives_then _ _ _ before.0 now.0 before.1 now.1,
      tt,
      needs_piece _ _ before.0 now.0 before.2 cut now.3,
    )

pub loop-preserved : goal.loop-preserved
loop-preserved g c =
    let before = c.loop.invariant in
    let now = c.in-More.ensures.filled in
    let cut = is_cut _ _ _ c.in-Err-CutShort.ensures c.in-Err-CutShort.field-0-is in (
      before.0 ++ now.0,
      gives_then _ _ _ before.0 now.0 before.1 now.1,
      now.2 ∙ ap (λ z. z ++ now.0) (c.in-Err-CutShort.ensures.0 ∙ before.2) ∙ append_assoc c.args.self.now before.0 now.0,
      needs_piece _ _ before.0 now.0 before.2 cut now.3,
      c.in-More.ensures.taken ∙ before.4,
      (let later = c.in-More.ensures.faults_grow in let first = before.5 in omega (arith, later, first)),
    )
