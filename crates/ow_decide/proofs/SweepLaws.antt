-- A sweep, with the archive after it, is what is decided.
use Rattle.std.proofs.Common.{arith, ◌≡◌, ◌++◌, ◌∙◌, ℕ, Bool, true, false, if◌then◌else◌, List, [], ◌∷◌, length, Option, None, Some, SomeIff, Result, Ok, IfOk, append-nil, le-leb, refl, sym, ap, subst}
use Rattle.std.specs.Prelude.{◌≢◌, ◌==◌, ◌≤◌, ◌-◌, ◌*◌, nat_le}
use Rattle.std.proofs.lemmas.Bool.{lt-leb}
use Rattle.std.proofs.lemmas.Bool.Decides.{nat_tests}
use Rattle.std.specs.List.{flat_map}
use Rattle.ow_entity.specs.declared.rows.Row.{Row}
use Rattle.ow_records.specs.declared.record.Record.{Record}
use Rattle.ow_floor.specs.Calls.{archive_items, due_in, happened, happened_of, moved}
use Rattle.ow_floor.specs.Growth.{AreRight}
use Rattle.ow_floor.specs.Laws.{Grows, IsSound, Stands}
use Rattle.ow_floor.specs.Trace.{Trace, shown}
use Rattle.ow_floor.specs.View.{Shown}
use Rattle.ow_floor.specs.declared.moves.Moved.{Moved}
use Rattle.ow_floor.proofs.Soundness.{sound_items}
use Rattle.ow_row_text.specs.declared.item.Archive.{Archive}
use Rattle.ow_traits.specs.declared.change_list.Change.{Change as StoreChange}
use Rattle.ow_commits.specs.Archiving.{archive_changes, archive_with, others_with}
use Rattle.ow_commits.specs.Commits.{changes_of}
use Rattle.ow_commits.specs.Keeping.{AreOwn, FollowingView, KeepingView, StandsFollowing, StandsForKept}
use Rattle.ow_commits.specs.Kept.{OthersView}
use Rattle.ow_counts.specs.View.{CountsView}
use Rattle.ow_tables.specs.Rows.{standing}
use Rattle.ow_tenant.specs.Table.{Table}
use Rattle.ow_trees.specs.Steps.{late_in, sweep_items}
use Rattle.ow_decide.specs.Decision.{adds, held, items_changes}
use Rattle.ow_decide.specs.Decisions.{archived_until, sweep_by, sweep_decision, sweep_with, swept_all, swept_told}
use Rattle.ow_decide.specs.Making.{Carries, IsFollowingOf, IsSeen, IsTold, changes_of as rows_of}
use Rattle.ow_decide.specs.Sight.{Sight}
use Rattle.ow_decide.specs.declared.events.Told.{Told}
use Rattle.ow_decide.specs.declared.events.Told.TheVariants as told
use Rattle.ow_decide.specs.declared.step.Now.{Now}
use Rattle.ow_decide.specs.declared.step.RowChange.{RowChange}
use Rattle.ow_decide.specs.declared.step.Step.{Step}
use Rattle.ow_decide.specs.declared.waits.Waits.TheVariants.{Keep}
use Rattle.ow_decide.proofs.FloorLaws.{told_carried}
use Rattle.ow_decide.proofs.MadeLaws.{changes_of_moves as items_moved, swept_own, swept_right}
use Rattle.ow_decide.proofs.PlanLaws.{as_seen}
use Rattle.ow_decide.specs.declared.step.OthersStep.TheVariants as others_steps

-- ---- the archive

-- where nothing moved nothing is committed
pub quiet_follows : (c : FollowingView) (S : Sight) (items : Trace) → c.changes ≡ [] → moved items ≡ [] → StandsFollowing c S.others S.rows (items ++ S.trace)
    → IsFollowingOf c (items_changes items) S.others S.rows (items ++ S.trace)
quiet_follows c S items none quiet stands = record { changes = none ∙ (ap (flat_map changes_of) (sym quiet) ∙ sym (items_moved items)); stands = stands }

-- an archive follows what is committed of items
pub archive_follows : (c d : FollowingView) (archive : Archive) (due : List Record) → d.changes ≡ c.changes ++ archive_changes archive due
    → ((o : OthersView) (rs : List Row) (T : Trace) (until : ℕ) → StandsFollowing c o rs T → IsSound T → o.archive ≡ archive → due ≡ due_in until T → StandsFollowing d (others_with o due) rs (archive_items until T ++ T))
    → (S : Sight) (items : Trace) (until : ℕ) → IsFollowingOf c (items_changes items) S.others S.rows (items ++ S.trace) → IsSound S.trace → AreRight items (shown S.trace) → due ≡ due_in until (items ++ S.trace)
    → S.others.archive ≡ archive
    → IsFollowingOf d (items_changes items ++ archive_changes archive due) (others_with S.others due) S.rows (archive_items until (items ++ S.trace) ++ (items ++ S.trace))
archive_follows c d archive due changes stands S items until follows sound right is same = record {
  changes = changes ∙ ap (λ (cs : List StoreChange). cs ++ archive_changes archive due) follows.changes;
  stands = stands S.others S.rows (items ++ S.trace) until follows.stands (sound_items items S.trace right sound).0 same is;
}

-- a step with that commit carries the sweep
pub archive_carried : (step : Step) (t : Told) (change : RowChange) (moves : List Moved) (c : FollowingView) (archive after : Archive) (due : List Record) (until : ℕ) (S : Sight) (u : Told) (items : Trace)
    → Carries step (adds u items) S → due ≢ [] → S.others.archive ≡ archive → t ≡ step.told → change ≡ step.change → moves ≡ step.moves → after ≡ archive_with archive due
    → IsFollowingOf c (items_changes items ++ archive_changes archive due) (others_with S.others due) S.rows (archive_items until (items ++ S.trace) ++ (items ++ S.trace))
    → Carries (record { told = t; change = change; waits = step.waits; moves = moves; commit = Some c; others = Some (others_steps.Archives until after) }) (sweep_with S u items until due) S
archive_carried step t change moves c archive after [] until S u items carries some same tells changes moved_so is follows = absurd (some refl)
archive_carried step t change moves c archive after (r ∷ rs) until S u items carries some same tells changes moved_so is follows = record {
  told = tells ∙ carries.told;
  changes = ap rows_of changes ∙ carries.changes;
  waits = carries.waits;
  moves = moved_so ∙ (carries.moves ∙ sym (append-nil (moved items)));
  commit = record {
    changes = follows.changes
        ∙ (ap (λ (a : Archive). items_changes items ++ archive_changes a (r ∷ rs)) (sym same)
        ∙ ap (λ (cs : List StoreChange). cs ++ archive_changes S.others.archive (r ∷ rs)) (sym (append-nil (items_changes items))));
    stands = follows.stands;
  };
  others = (r ∷ rs, refl, is ∙ ap (λ (a : Archive). archive_with a (r ∷ rs)) (sym same));
}

-- a list of no length has nothing in it
no_length : (n : ℕ) → true ≡ (n == 0) → n ≡ 0
no_length n none = grind (arith, nat_tests)

pub none_there : (rs : List Record) → true ≡ (length rs == 0) → rs ≡ []
none_there [] none = refl
none_there (r ∷ rs) none = let e : length (r ∷ rs) ≡ 0 = no_length (length (r ∷ rs)) none in cc

pub some_there : (rs : List Record) → false ≡ (length rs == 0) → rs ≢ []
some_there [] some = λ is. cc
some_there (r ∷ rs) some = λ is. cc

-- what is true of a result where it is there
pub ok_of : {A F : Type 0} (P : A → Type 0) (r : Result A F) (x : A) → r ≡ Ok x → IfOk r P → P x
ok_of P r x is h = subst (λ q. IfOk q P) is h

-- where nothing is due nothing is archived
pub nothing_due : (s : Step) (due : List Record) (until : ℕ) (S : Sight) (t : Told) (items : Trace) → due ≡ [] → due ≡ due_in until (items ++ S.trace) → Carries s (adds t items) S
    → Carries s (sweep_with S t items until (due_in until (items ++ S.trace))) S
nothing_due s due until S t items none is carries = subst (λ (rs : List Record). Carries s (sweep_with S t items until rs) S) (sym none ∙ is) carries

-- ---- the sweep

-- records are retained for that long, if there was that much time
pub from_checked : (r : Option ℕ) (n at : ℕ) → SomeIff r (n ≤ at) (at - n) → r ≡ (if nat_le n at then Some (at - n) else None)
from_checked (Some m) n at h = ap Some h.1 ∙ ap (λ (b : Bool). if b then Some (at - n) else None) (sym (le-leb n at h.0))
from_checked None n at h = ap (λ (b : Bool). if b then Some (at - n) else None) (sym (lt-leb n at (omega (arith, h))))

held_swept : (S : Sight) (t : Told) (items : Trace) (until : ℕ) (due : List Record) → held (sweep_with S t items until due) ≡ items
held_swept S t items until [] = refl
held_swept S t items until (r ∷ rs) = refl

-- the moment up to which records are archived is that of what is seen
until_seen : (S : Sight) (t : Table) (at : ℕ) → S.tenants ≡ t → S.moment ≡ at → archived_until t.retain at ≡ archived_until S.tenants.retain S.moment
until_seen S t at tenants now = ap (archived_until t.retain) (sym now) ∙ ap (λ (x : Table). archived_until x.retain S.moment) (sym tenants)

pub until_none : (at : ℕ) → None ≡ archived_until None at
unfolding archived_until
until_none at = refl

pub until_some : (days at : ℕ) (r : Option ℕ) → SomeIff r (days * 86400000 ≤ at) (at - days * 86400000) → r ≡ archived_until (Some days) at
unfolding archived_until
until_some days at r is = from_checked r (days * 86400000) at is

-- late runs end before the archive
abbrev IsSwept : Table → List Row → KeepingView → Now → Shown → Shown → Step → Type 0
IsSwept t rs b now old new s = (S : Sight) (k : CountsView) → IsSeen S t rs k b old now
    → Carries s (adds (told.Swept (swept_told (swept_all S))) (swept_all S)) S × Stands new (swept_all S ++ S.trace)

pub swept_first : (t : Table) (rs : List Row) (b : KeepingView) (now : Now) (old new : Shown) (late : ℕ) (ms ns : List Moved) (s : Step)
    → IsTold s (told.Swept (record { happened = happened_of ns; late = late })) Keep ns b → ((T : Trace) → Stands old T → late ≡ late_in (sweep_items (standing rs) now.at T)) → ms ≡ []
    → ((T : Trace) → Stands old T → ns ≡ ms ++ moved (sweep_items (standing rs) now.at T)) → Grows old new (λ T. sweep_items (standing rs) now.at T) → IsSwept t rs b now old new s
swept_first t rs b now old new late ms ns s step is none noted grows = λ S k seen.
    let moves : ns ≡ moved (swept_all S) =
    as_seen (λ (xs : List Row) (m : ℕ). ns ≡ moved (sweep_items (standing xs) m S.trace)) S rs now.at seen.rows seen.moment
    (noted S.trace seen.stands ∙ ap (λ (os : List Moved). os ++ moved (sweep_items (standing rs) now.at S.trace)) none) in
    let count : late ≡ late_in (swept_all S) =
    as_seen (λ (xs : List Row) (m : ℕ). late ≡ late_in (sweep_items (standing xs) m S.trace)) S rs now.at seen.rows seen.moment (is S.trace seen.stands) in
    let tells : told.Swept (record { happened = happened_of ns; late = late }) ≡ told.Swept (swept_told (swept_all S)) =
    ap (λ (xs : List Moved). told.Swept (record { happened = happened_of xs; late = late })) moves
    ∙ ap (λ (n : ℕ). told.Swept (record { happened = happened (swept_all S); late = n })) count in (
      told_carried s _ (told.Swept (swept_told (swept_all S))) ns b S (swept_all S) step tells seen.keeping seen.stands.sound (swept_right S seen.stands.sound) (swept_own S) moves,
      as_seen (λ (xs : List Row) (m : ℕ). Stands new (sweep_items (standing xs) m S.trace ++ S.trace)) S rs now.at seen.rows seen.moment (grows S.trace seen.stands),
    )

-- the office table retains records for ever, or for longer than there was time
pub sweep_alone : (t : Table) (rs : List Row) (b : KeepingView) (now : Now) (old new : Shown) (s : Step) → IsSwept t rs b now old new s → None ≡ archived_until t.retain now.at
    → (S : Sight) (k : CountsView) → IsSeen S t rs k b old now → Carries s (sweep_decision S) S × Stands new (held (sweep_decision S) ++ S.trace)
sweep_alone t rs b now old new s swept none S k seen =
    subst (λ (o : Option ℕ). Carries s (sweep_by S (told.Swept (swept_told (swept_all S))) (swept_all S) o) S
    × Stands new (held (sweep_by S (told.Swept (swept_told (swept_all S))) (swept_all S) o) ++ S.trace)) (none ∙ until_seen S t now.at seen.tenants seen.moment) (swept S k seen)

-- the records that are due are archived
pub sweep_archives : (t : Table) (rs : List Row) (b : KeepingView) (now : Now) (old new : Shown) (s : Step) (archive : Archive) (until : ℕ) (r : Step) → IsSwept t rs b now old new s
    → Some until ≡ archived_until t.retain now.at
    → ((S : Sight) (u : Told) (items : Trace) → Carries s (adds u items) S → StandsForKept b S.others S.rows S.trace → IsSound S.trace → AreRight items (shown S.trace) → AreOwn items
    → Stands new (items ++ S.trace) → S.others.archive ≡ archive → Carries r (sweep_with S u items until (due_in until (items ++ S.trace))) S)
    → (S : Sight) (k : CountsView) → IsSeen S t rs k b old now → S.others.archive ≡ archive → Carries r (sweep_decision S) S × Stands new (held (sweep_decision S) ++ S.trace)
sweep_archives t rs b now old new s archive until r swept some carries S k seen same =
    let u : Told = told.Swept (swept_told (swept_all S)) in
    let items : Trace = swept_all S in
    let before = swept S k seen in
    subst (λ (o : Option ℕ). Carries r (sweep_by S u items o) S × Stands new (held (sweep_by S u items o) ++ S.trace)) (some ∙ until_seen S t now.at seen.tenants seen.moment)
    ((
      carries S u items before.0 seen.keeping seen.stands.sound (swept_right S seen.stands.sound) (swept_own S) before.1 same,
      subst (λ (xs : Trace). Stands new (xs ++ S.trace)) (sym (held_swept S u items until (due_in until (items ++ S.trace)))) before.1,
    ))
