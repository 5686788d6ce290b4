-- What a step archives is what was decided: on the floor, in what was archived so far, and in what is owed.
use Rattle.std.proofs.Common.{◌≡◌, ◌∙◌, ◌++◌, ℕ, false, Option, Some, None, refl, sym, ap, subst}
use Rattle.ow_row_text.specs.declared.item.Archive.{Archive}
use Rattle.ow_floor.specs.Calls.{archive_items}
use Rattle.ow_floor.specs.Laws.{Stands}
use Rattle.ow_floor.specs.Owed.{owed}
use Rattle.ow_floor.specs.Trace.{Trace}
use Rattle.ow_floor.specs.View.{Shown, archived_on}
use Rattle.ow_floor.proofs.Coming.{calls_keep_sound}
use Rattle.ow_commits.specs.Keeping.{FollowingView}
use Rattle.ow_decide.specs.declared.events.Event.{Event}
use Rattle.ow_decide.specs.declared.step.OthersStep.{OthersStep}
use Rattle.ow_decide.specs.declared.step.OthersStep.TheVariants as others_steps
use Rattle.ow_decide.specs.Decision.{Archives, Decision, KeepsNote, OtherChange, Same, TakesOver, held, held_by, others_after}
use Rattle.ow_decide.specs.Decisions.{decide, is_opening}
use Rattle.ow_decide.specs.Making.{IsOthersStep}
use Rattle.ow_decide.specs.Sight.{Sight}
use Rattle.ow_decide.proofs.ArchiveLaws.{IsArchivedWell, decided_archives}
use Rattle.ow_hall.specs.State.{floor_kept, others_kept}

-- the floor once the records that are due are archived
archive_stands : (until : ℕ) (v : Shown) (T : Trace) → Stands v T → Stands (archived_on until v) (archive_items until T ++ T)
archive_stands until v T stands = record { is = ap (archived_on until) stands.is; sound = calls_keep_sound.archive until T stands.sound }

pub archived_stands : (others : Option OthersStep) (commit : Option FollowingView) (d : Decision) (S : Sight) (mid : Shown) → IsOthersStep commit others d S → IsArchivedWell d.others d S
    → Stands mid (held d ++ S.trace) → Stands (floor_kept others mid) (d.items ++ S.trace)
archived_stands None commit d S mid is form stands = subst (λ (o : OtherChange). Stands mid (held_by o d.items ++ S.trace)) is stands
archived_stands (Some o) None d S mid is form stands = absurd is
archived_stands (Some (others_steps.Archives until archive)) (Some c) d S mid is form stands =
    let so = subst (λ (o : OtherChange). IsArchivedWell o d S) is.1 form in
    subst (λ (items : Trace). Stands (archived_on until mid) (items ++ S.trace)) (sym so.items) (archive_stands until mid (held d ++ S.trace) stands)
archived_stands (Some (others_steps.KeepsNote note)) (Some c) d S mid is form stands = subst (λ (o : OtherChange). Stands mid (held_by o d.items ++ S.trace)) is stands

-- what was archived so far, and the notes
pub archived_others : (others : Option OthersStep) (commit : Option FollowingView) (d : Decision) (S : Sight) → IsOthersStep commit others d S
    → others_kept others S.others ≡ others_after d.others S.others
archived_others None commit d S is = sym (ap (λ (o : OtherChange). others_after o S.others) is)
archived_others (Some o) None d S is = absurd is
archived_others (Some (others_steps.Archives until archive)) (Some c) d S is =
    ap (λ (x : Archive). record S.others { archive = x }) is.2 ∙ sym (ap (λ (o : OtherChange). others_after o S.others) is.1)
archived_others (Some (others_steps.KeepsNote note)) (Some c) d S is = sym (ap (λ (o : OtherChange). others_after o S.others) is)

-- an archive owes nothing, nor does a note
owed_by : (S : Sight) (d : Decision) (o : OtherChange) → d.others ≡ o → IsArchivedWell o d S → owed (held d ++ S.trace) ≡ owed (d.items ++ S.trace)
owed_by S d Same is form = ap (λ (items : Trace). owed (items ++ S.trace)) form
owed_by S d (Archives until before due) is form = sym (ap (λ (items : Trace). owed (items ++ S.trace)) form.items)
owed_by S d (KeepsNote note) is form = ap (λ (items : Trace). owed (items ++ S.trace)) form
owed_by S d (TakesOver taken) is form = absurd form

pub archived_owed : (S : Sight) (event : Event) → is_opening event ≡ false → owed (held (decide S event) ++ S.trace) ≡ owed ((decide S event).items ++ S.trace)
archived_owed S event later = owed_by S (decide S event) (decide S event).others refl (decided_archives S event later)
