use Rattle.std.proofs.Common.{◌≡◌, ◌∙◌, Some, arith, subst, sym}
use Rattle.std.specs.Prelude.{find}
use Rattle.ow_http.specs.Headers.{is_length, told_length}
use Rattle.ow_wire.proofs.CutShort.{cut_below}
use Rattle.ow_wire.proofs.needing.needed.Goals as goal

pub returns-in-Some : goal.returns-in-Some
returns-in-Some c = λ cut.
    let e = rw c.in-Ok-Complete.field-0-is at c.in-Ok-Complete.ensures.complete in
    let told = subst (λ fields. told_length (find is_length fields) ≡ Some c.in-Some.size) e.1.fields (sym c.length_in.ensures ∙ c.in-Some.is) in
    cut_below _ e.0 _ c.in-Some.size _ e.1.reads told (omega (arith, e.1.len, c.saturating_add.ensures)) cut
