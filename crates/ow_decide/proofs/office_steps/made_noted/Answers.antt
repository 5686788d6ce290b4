use Rattle.std.proofs.Common.{◌≡◌, ◌∙◌, ◌++◌, ℕ, List, Some, sym, ap, subst}
use Rattle.ow_commits.specs.Noting.{note_of}
use Rattle.ow_floor.specs.declared.moves.Moved.{Moved}
use Rattle.ow_row_text.specs.declared.item.Note.{Note}
use Rattle.ow_decide.specs.OfficeFiring.{IsNoted}
use Rattle.ow_decide.specs.declared.step.OthersStep.TheVariants as others_steps
use Rattle.ow_decide.proofs.OwnLaws.{kept_by, noted_new, noted_same, other_by}
use Rattle.ow_decide.proofs.SweepLaws.{ok_of}
use Rattle.ow_decide.proofs.office_steps.made_noted.Goals as goal

pub returns-then-eq : goal.returns-then-eq
returns-then-eq c = λ S items made are.
    let found : c.find_note-old.result ≡ note_of c.args.note.now.key c.args.notes.now = c.find_note-old.ensures ∙ ap (λ (k : List ℕ). note_of k c.args.notes.now) c.as_str.ensures.value in
    noted_same c.args.made c.args.notes.now c.args.note.now S items (sym found ∙ kept_by c.find_note-old.result c.args.note.now.value (sym c.eq.ensures ∙ c.if-eq.true)) made are

pub returns : goal.returns
returns c = λ S items made are.
    let n = c.args.note.now in
    let found : c.find_note-old.result ≡ note_of n.key c.args.notes.now = c.find_note-old.ensures ∙ ap (λ (k : List ℕ). note_of k c.args.notes.now) c.as_str.ensures.value in
    let both = c.in_ok-moves.ensures in
    let kept = ok_of _ c.noting-committed.result _ both.1 c.noting-committed.ensures.note in
    let changes = ok_of _ c.noting-committed.result _ both.1 c.noting-committed.ensures.changes in
    let bytes = ok_of _ c.noting-committed.result _ both.1 c.noting-committed.ensures.bytes in
    let stands = ok_of _ c.noting-committed.result _ both.1 c.noting-committed.ensures.stands in
    let new = noted_new c.args.made c.args.notes.now n c.in_ok-moves.commit S items (λ same. other_by c.find_note-old.result n.value (sym c.eq.ensures ∙ c.if-eq.false) (found ∙ same)) changes
    (λ o rest is same. bytes o rest is (found ∙ same)) (stands S.others S.rows (items ++ S.trace) made.stands (found ∙ ap (note_of n.key) (sym are))) made are in
    subst (λ (k : Note). IsNoted (record { moves = c.in_ok-moves.moves; commit = c.in_ok-moves.commit; others = Some (others_steps.KeepsNote k) }) items n S) (sym kept)
    (subst (λ (ms : List Moved). IsNoted (record { moves = ms; commit = c.in_ok-moves.commit; others = Some (others_steps.KeepsNote n) }) items n S) (sym both.0) new)
