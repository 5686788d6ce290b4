use Rattle.std.proofs.Common.{◌∙◌, Err, ap, refl, sym, is_some}
use Rattle.ow_office.specs.Serve.{PassesOn}
use Rattle.ow_office.specs.Sides.{sides, source}
use Rattle.ow_office.proofs.Asking.{unread_not_passed}
use Rattle.ow_office.proofs.Tables.{read_over, unread_over}
use Rattle.ow_office.proofs.serve.pass_on.Goals as goal

pub returns-in-Ok-clause-told : goal.returns-in-Ok-clause-told
returns-in-Ok-clause-told g c = λ day out store.
    let before = sides (source g.T.Source.left g.T.Source.faults c.args.table.now) day out store in
    let after = sides (source g.T.Source.left g.T.Source.faults c.read_table.new.table) day out store in
    let told = rw c.is_some.ensures at c.in-Ok.ensures.told in
    read_over (PassesOn c.args.asked) (is_some c.args.asked.table) before after c.in-Ok.tenants _ told (λ named. c.in-Ok.ensures.reads (c.is_some.ensures ∙ named))
    (λ named. c.in-Ok.ensures.most (c.is_some.ensures ∙ named)) (refl, refl, refl)

pub returns-in-Err-clause-told : goal.returns-in-Err-clause-told
returns-in-Err-clause-told g c = λ day out store.
    let before = sides (source g.T.Source.left g.T.Source.faults c.args.table.now) day out store in
    let after = sides (source g.T.Source.left g.T.Source.faults c.read_table.new.table) day out store in
    let told = rw c.is_some.ensures at c.in-Err.ensures.told in
    rw c.unread.ensures (unread_over (PassesOn c.args.asked) (is_some c.args.asked.table) before after c.in-Err.refusal told (λ named. c.in-Err.ensures.reads (c.is_some.ensures ∙ named))
    (λ named. c.in-Err.ensures.most (c.is_some.ensures ∙ named)) (λ e. c.in-Err.ensures.cause (ap Err e)) refl)

pub returns-in-Err-clause-own : goal.returns-in-Err-clause-own
returns-in-Err-clause-own g c = λ served t is. absurd (unread_not_passed c.in-Err.refusal served t (sym c.unread.ensures ∙ is))
