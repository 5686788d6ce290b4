use Rattle.std.proofs.Common.{Err, ◌∙◌, arith, subst, sym}
use Rattle.ow_http.specs.Read.{IsRead}
use Rattle.ow_http.specs.declared.http_refusal.HttpRefusal.TheVariants.{CutShort}
use Rattle.ow_wire.specs.Arrivals.{IsCutBelow}
use Rattle.ow_wire.proofs.CutShort.{cut_read}
use Rattle.ow_wire.proofs.ReadsOn.{within}
use Rattle.ow_wire.proofs.inbox.Inbox.first.Goals as goal

pub take_off-requires : goal.take_off-requires
take_off-requires c =
    let inside = within _ c.in-Ok.field-0.request c.in-Ok.ensures in
    let sized = c.in-Ok.field-0.sized in
    omega (arith, inside, sized)

pub invariant_of-self-in-Err-CutShort : goal.invariant_of-self-in-Err-CutShort
invariant_of-self-in-Err-CutShort c =
    let cut = cut_read _ _ c.in-Err-CutShort.ensures c.in-Err-CutShort.field-0-is in
    let there = subst (λ b. IsRead b (Err CutShort)) (c.deref.ensures.value ∙ sym c.deref-in-Err-CutShort.ensures.value) cut in
    (c.self.invariant.0, subst (λ b. IsCutBelow c.needed-self-inside.result b) c.deref-in-Err-CutShort.ensures.value (c.needed-self-inside.ensures there))
