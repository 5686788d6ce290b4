use Rattle.std.proofs.Common.{◌≡◌, ap, subst, sym, ◌∙◌}
use Rattle.ow_floor.specs.declared.moves.Moved.{Moved}
use Rattle.ow_floor.specs.declared.moves.Moved.TheVariants as moves
use Rattle.ow_tenant.specs.Notes.{Notes}
use Rattle.ow_counts.specs.View.{CountsView, IsRoomy, MayMove, StandsFor, noted_moved}
use Rattle.ow_counts.proofs.Moving.{one_less}
use Rattle.ow_counts.proofs.moves.note.Goals as goal

-- what is known of the counts before and after the note of a move
abbrev Notes-it : CountsView → CountsView → Moved → Type 0
Notes-it old new m = (ns : Notes) → MayMove m ns → StandsFor old ns → StandsFor new (noted_moved m ns)

pub note_acceptance-requires : goal.note_acceptance-requires
note_acceptance-requires c =
    let is : c.args.moved.now ≡ moves.Accepted c.get.result.now = c.in-Accepted.is ∙ ap moves.Accepted (sym c.get.ensures) in
    record { room = subst (λ (m : Moved). IsRoomy 1 c.args.counts.now m) is c.requires.room; counter = c.requires.counter }

pub note_fire-requires : goal.note_fire-requires
note_fire-requires c =
    let is : c.args.moved.now ≡ moves.Fired c.get-in-Fired.result.now = c.in-Fired.is ∙ ap moves.Fired (sym c.get-in-Fired.ensures) in
    record { room = subst (λ (m : Moved). IsRoomy 1 c.args.counts.now m) is c.requires.room }

pub returns-in-Accepted-clause-notes : goal.returns-in-Accepted-clause-notes
returns-in-Accepted-clause-notes c =
    let is : c.args.moved.now ≡ moves.Accepted c.get.result.now = c.in-Accepted.is ∙ ap moves.Accepted (sym c.get.ensures) in
    subst (λ (m : Moved). Notes-it c.args.counts.now c.note_acceptance.new.counts m) (sym is) c.note_acceptance.ensures.notes

pub returns-in-Ended-clause-notes : goal.returns-in-Ended-clause-notes
returns-in-Ended-clause-notes c =
    let is : c.args.moved.now ≡ moves.Ended c.get-in-Ended.result.now = c.in-Ended.is ∙ ap moves.Ended (sym c.get-in-Ended.ensures) in
    subst (λ (m : Moved). Notes-it c.args.counts.now c.note_end.new.counts m) (sym is) c.note_end.ensures.notes

pub returns-in-Fired-clause-notes : goal.returns-in-Fired-clause-notes
returns-in-Fired-clause-notes c =
    let is : c.args.moved.now ≡ moves.Fired c.get-in-Fired.result.now = c.in-Fired.is ∙ ap moves.Fired (sym c.get-in-Fired.ensures) in
    subst (λ (m : Moved). Notes-it c.args.counts.now c.note_fire.new.counts m) (sym is) c.note_fire.ensures.notes

pub returns-in-Drawn-clause-notes : goal.returns-in-Drawn-clause-notes
returns-in-Drawn-clause-notes c = subst (λ (m : Moved). Notes-it c.args.counts.now c.args.counts.now m) (sym c.in-Drawn.is) (λ ns may h. h)

pub returns-in-Drawn-clause-room : goal.returns-in-Drawn-clause-room
returns-in-Drawn-clause-room c name n h = one_less name n c.args.counts.now h
