use Rattle.std.proofs.Common.{◌≡◌, ◌++◌, List, Some, sym, ap, ◌∙◌}
use Rattle.ow_floor.specs.declared.answers.Happening.{Happening}
use Rattle.ow_floor.specs.declared.moves.Moved.{Moved}
use Rattle.ow_floor.specs.Calls.{answer_of, answered_by, answered_items, happened, happened_of, moved, reply_recorded}
use Rattle.ow_floor.proofs.Growing.{answer_told}
use Rattle.ow_floor.proofs.floor.Floor.replied.Goals as goal

pub returns-clause-told : goal.returns-clause-told
returns-clause-told c T st =
    let items = answered_items c.args.at c.args.run c.args.reply.now T in
    let recorded : Some c.in-Some.recorded ≡ reply_recorded c.args.run T = sym c.in-Some.is ∙ c.in_ok-recorded.ensures.told T st in
    let told : c.in_ok-happened.happened ≡ happened items =
    c.in_ok-happened.ensures ∙ ap happened_of (c.items.ensures ∙ (c.in_ok-recorded.ensures.moved T st ∙ ap (λ (ms : List Moved). ms ++ moved items) c.new-moves.ensures)) in
    ap Some c.answered_by.ensures
    ∙ (ap (λ (hs : List Happening). Some (answered_by c.args.run c.in-Some.recorded hs)) told
    ∙ (ap (λ r. answer_of c.args.run r (happened items)) recorded ∙ answer_told c.args.at c.args.run c.args.reply.now T))
