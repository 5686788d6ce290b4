-- After what is decided, the archive and the notes are still such as may be kept.
use Rattle.std.proofs.Common.{◌≡◌, ◌≤◌, ◌+◌, ◌++◌, ◌==◌, ◌&&◌, ◌||◌, ℕ, Bool, true, false, List, [], ◌∷◌, filter, fold, if◌then◌else◌, length, max, nat_le, IfSome, Option, Some, None, Result, Ok, Err, refl, sym, subst, arith}
use Rattle.std.specs.List.{AllByRecursion}
use Rattle.std.specs.Prelude.{unwrap_or}
use Rattle.std.specs.Ordering.{is_lt}
use Rattle.std.specs.Str.{bytes_eq}
use Rattle.std.proofs.Math.Nat.{max-le}
use Rattle.std.proofs.lemmas.Bool.{and_from, and_parts, le-leb, leb-true}
use Rattle.ow_value.specs.Value.{text_cmp}
use Rattle.ow_records.specs.Records.{id_key, is_due, put_by, sorted_by}
use Rattle.ow_records.specs.declared.record.Record.{Record}
use Rattle.ow_floor.specs.Calls.{due_in}
use Rattle.ow_floor.specs.Laws.{IsSound}
use Rattle.ow_floor.specs.Growth.{AreRight}
use Rattle.ow_floor.specs.Trace.{Archived, Trace, latest, shown, shown_records}
use Rattle.ow_floor.proofs.Firsts.{all_more}
use Rattle.ow_floor.proofs.Soundness.{sound_items}
use Rattle.ow_row_text.specs.Sorted.{Entries}
use Rattle.ow_row_text.specs.declared.item.Archive.{Archive}
use Rattle.ow_row_text.specs.declared.item.Item.{Item as KeptItem}
use Rattle.ow_row_text.specs.declared.item.Item.TheVariants as items
use Rattle.ow_row_text.specs.declared.item.Note.{Note}
use Rattle.ow_keep.specs.Allowed.{are_durations, is_archive, is_called, is_fit_record, is_moment, is_note}
use Rattle.ow_keep.specs.Judged.{judged}
use Rattle.ow_keep.specs.Kept.{MayStand}
use Rattle.ow_keep.specs.Split.{Parts as KeptParts, split}
use Rattle.ow_keep.specs.declared.allowed.TheConstants.{GREATEST_COUNT, GREATEST_MOMENT}
use Rattle.ow_keep.proofs.Whole.{judged-sound}
use Rattle.ow_commits.specs.Archiving.{archive_with, last_end}
use Rattle.ow_commits.specs.Kept.{OthersView, no_archive, no_others}
use Rattle.ow_commits.specs.Noting.{note_of, with_note}
use Rattle.ow_commits.specs.Opening.{others_of, resumed_records}
use Rattle.ow_commits.proofs.Knowing.{picked}
use Rattle.ow_decide.specs.Decision.{Archives, Decision, KeepsNote, OtherChange, Same, TakesOver, held, others_after}
use Rattle.ow_decide.specs.Asking.{ask_decision, request_done}
use Rattle.ow_decide.specs.Calling.{admitted_plan, call_plan, called_decision}
use Rattle.ow_decide.specs.Decisions.{archived_until, decide, is_opening, sweep_by, sweep_with, swept_all, swept_told}
use Rattle.ow_decide.specs.Deploying.{deploy_decision, deployed}
use Rattle.ow_decide.specs.Given.{IsGivenEvent}
use Rattle.ow_decide.specs.OfficeFiring.{Shot, note_change_by, office_decision, office_shot}
use Rattle.ow_decide.specs.Opening.{are_resumable, is_fresh, opened_decision, parts_taken, taken_if}
use Rattle.ow_decide.specs.Sight.{Sight}
use Rattle.ow_decide.specs.declared.events.Event.{Event}
use Rattle.ow_decide.specs.declared.events.Event.TheVariants as events
use Rattle.ow_decide.specs.declared.events.Told.{Told}
use Rattle.ow_decide.specs.declared.events.Told.TheVariants as told
use Rattle.ow_http.specs.Request.{parts_of}
use Rattle.ow_http.specs.Steps.{◌>>=◌}
use Rattle.ow_http.specs.declared.reason.Reason.{Reason}
use Rattle.ow_decide.proofs.ArchiveLaws.{IsArchivedWell, asked_same, called_same, decided_archives, deployed_same}
use Rattle.ow_decide.proofs.SoundLaws.{decided_right}
use Rattle.ow_restart_laws.specs.Lasting.{AreEarly, AreLastingOthers, IsLasting, IsLastingArchive}
use Rattle.ow_restart_laws.specs.Laws.{OthersLast}
use Rattle.ow_restart_laws.proofs.KeptLaws.{shown_last}
use Rattle.ow_restart_laws.proofs.TraceLaws.{traces_last}

or_left : (a b : Bool) → a ≡ true → (a || b) ≡ true
or_left true b e = refl
or_left false b e = cc

-- an archive that lasts fits, where no more was archived than a count may tell
pub archive_fits : (a : Archive) → a.number ≤ GREATEST_COUNT → IsLastingArchive a → is_archive a ≡ true
archive_fits a few last =
    let some = nat_le 1 a.number || a.last == 0 in
    and_from (is_moment a.last) (nat_le a.number GREATEST_COUNT && some) (le-leb a.last GREATEST_MOMENT last.early)
    (and_from (nat_le a.number GREATEST_COUNT) some (le-leb a.number GREATEST_COUNT few) last.some)

-- nothing was archived at first
pub none_last : AreLastingOthers no_others
none_last = record { archived = record { early = omega arith; some = refl }; notes = tt }

-- ---- records in the order of their ids

module _ (key : Record → List ℕ) (P : Record → Type 0) where
  put_by_test : (r x : Record) (xs : List Record) (b : Bool) → P r → P x → AllByRecursion P xs → AllByRecursion P (put_by key r xs) → AllByRecursion P (if b then r ∷ x ∷ xs else x ∷ put_by key r xs)
  put_by_test r x xs true h k all rest = (h, (k, all))
  put_by_test r x xs false h k all rest = (k, rest)

  put_all : (r : Record) (xs : List Record) → P r → AllByRecursion P xs → AllByRecursion P (put_by key r xs)
  put_all r [] h all = (h, tt)
  put_all r (x ∷ xs) h all = put_by_test r x xs (is_lt (text_cmp (key r) (key x))) h all.0 all.1 (put_all r xs h all.1)

  folded_all : (rs xs : List Record) → AllByRecursion P rs → AllByRecursion P xs → AllByRecursion P (fold (λ ys r. put_by key r ys) xs rs)
  folded_all [] xs all before = before
  folded_all (r ∷ rs) xs all before = folded_all rs (put_by key r xs) all.1 (put_all r xs all.0 before)

  all_sorted : (rs : List Record) → AllByRecursion P rs → AllByRecursion P (sorted_by key rs)
  all_sorted rs all = folded_all rs [] all tt

-- ---- an archive

abbrev EndsEarly : Record → Type 0
EndsEarly r = r.span.end ≤ GREATEST_MOMENT

-- a record that may be kept ended no later than the greatest moment
ends_early : (r : Record) → IsLasting (items.Done r) → EndsEarly r
ends_early r h =
    let fit = (and_parts (nat_le 1 r.id.count) (is_fit_record r) h.fit).1 in
    leb-true r.span.end GREATEST_MOMENT (and_parts (is_moment r.span.end) (is_called r.cause r.version r.notes.binding && are_durations r.notes) fit).0

last_early : (last : ℕ) (rs : List Record) → last ≤ GREATEST_MOMENT → AllByRecursion EndsEarly rs → last_end last rs ≤ GREATEST_MOMENT
last_early last [] early ends = early
last_early last (r ∷ rs) early ends = last_early (max last r.span.end) rs (max-le early ends.0) ends.1

or_more : (a : Archive) (last n : ℕ) → 1 ≤ n → (nat_le 1 (a.number + n) || last == 0) ≡ true
or_more a last n some = or_left (nat_le 1 (a.number + n)) (last == 0) (le-leb 1 (a.number + n) (omega (arith, some)))

archived_last : (a : Archive) (due : List Record) → AllByRecursion EndsEarly due → IsLastingArchive a → IsLastingArchive (archive_with a due)
archived_last a [] ends last =
    let same : a.number ≡ a.number + 0 = omega arith in
    record { early = last.early; some = subst (λ (n : ℕ). (nat_le 1 n || a.last == 0) ≡ true) same last.some }
archived_last a (r ∷ rs) ends last = record { early = last_early a.last (r ∷ rs) last.early ends; some = or_more a (last_end a.last (r ∷ rs)) (length (r ∷ rs)) (omega arith) }

-- what is archived of a sound trace that lasts ended no later than the greatest moment
due_early : (until : ℕ) (T : Trace) → IsSound T → AreEarly T → AllByRecursion EndsEarly (due_in until T)
due_early until T sound early =
    all_sorted id_key EndsEarly (filter (is_due until) (shown_records T))
    (picked EndsEarly (is_due until) (shown_records T) (all_more (λ r. IsLasting (items.Done r)) EndsEarly (shown_records T) ends_early (shown_last T sound early)))

-- ---- a note

abbrev LastNotes : List Note → Type 0
LastNotes ns = AllByRecursion (λ n. IsLasting (items.Note n)) ns

note_lasts : (n : Note) → is_note n ≡ true → IsLasting (items.Note n)
note_lasts n is = record { shallow = refl; fit = is }

put_test : (n m : Note) (ms : List Note) (b : Bool) → IsLasting (items.Note n) → IsLasting (items.Note m) → LastNotes ms → LastNotes (with_note n ms) → LastNotes (if b then n ∷ ms else m ∷ with_note n ms)
put_test n m ms true lasts first all put = (lasts, all)
put_test n m ms false lasts first all put = (first, put)

noted_last : (n : Note) (ms : List Note) → IsLasting (items.Note n) → LastNotes ms → LastNotes (with_note n ms)
noted_last n [] lasts all = (lasts, tt)
noted_last n (m ∷ ms) lasts all = put_test n m ms (bytes_eq n.key m.key) lasts all.0 all.1 (noted_last n ms lasts all.1)

-- a note that is kept at an event is one that may be
abbrev IsGoodChange : OtherChange → Type 0
IsGoodChange (KeepsNote n) = is_note n ≡ true
IsGoodChange change = Unit {0}

same_good : (change : OtherChange) → change ≡ Same → IsGoodChange change
same_good change same = subst IsGoodChange (sym same) tt

kept_test : (n : Note) (b : Bool) → is_note n ≡ true → IsGoodChange (if b then Same else KeepsNote n)
kept_test n true is = tt
kept_test n false is = is

kept_good : (n : Note) (old : Option ℕ) → is_note n ≡ true → IsGoodChange (note_change_by n old)
kept_good n None is = is
kept_good n (Some value) is = kept_test n (value == n.value) is

fired_good : (o : OthersView) (n : Note) (shot : Result Shot Reason) → is_note n ≡ true → IsGoodChange (office_decision o n shot).others
fired_good o n (Ok shot) is = kept_good n (note_of n.key o.notes) is
fired_good o n (Err reason) is = tt

due_good : (S : Sight) (t : Told) (swept : Trace) (until : ℕ) (due : List Record) → IsGoodChange (sweep_with S t swept until due).others
due_good S t swept until [] = tt
due_good S t swept until (r ∷ rs) = tt

swept_good : (S : Sight) (t : Told) (swept : Trace) (until : Option ℕ) → IsGoodChange (sweep_by S t swept until).others
swept_good S t swept None = tt
swept_good S t swept (Some until) = due_good S t swept until (due_in until (swept ++ S.trace))

decided_good : (S : Sight) (event : Event) → is_opening event ≡ false → IsGivenEvent event → IsGoodChange (decide S event).others
decided_good S (events.Opened rows) other given = cc
decided_good S (events.Asked r) other given =
    let done = request_done S (parts_of r) in
    same_good (ask_decision done).others (asked_same done)
decided_good S (events.Called name params) other given =
    let planned = call_plan S name params >>= admitted_plan S in
    same_good (called_decision S planned).others (called_same S planned)
decided_good S (events.Fired trigger params note) other given = fired_good S.others note (office_shot S trigger params note) given
decided_good S (events.Deployed drafts) other given = same_good (deploy_decision (deployed S drafts)).others (deployed_same (deployed S drafts))
decided_good S events.Sweep other given = swept_good S (told.Swept (swept_told (swept_all S))) (swept_all S) (archived_until S.tenants.retain S.moment)
decided_good S event other given = tt

-- ---- what is decided

decided_last : (S : Sight) (d : Decision) → IsSound S.trace → AreRight d.items (shown S.trace) → AreEarly (d.items ++ S.trace) → AreLastingOthers S.others
    → (change : OtherChange) → IsArchivedWell change d S → IsGoodChange change → AreLastingOthers (others_after change S.others)
decided_last S d sound right early last Same well good = last
decided_last S d sound right early last (Archives until before due) well good =
    let all_right : AreRight (Archived until (latest (held d ++ S.trace)) ∷ held d) (shown S.trace) = subst (λ (xs : Trace). AreRight xs (shown S.trace)) well.items right in
    let all_early : AreEarly (Archived until (latest (held d ++ S.trace)) ∷ (held d ++ S.trace)) = subst (λ (xs : Trace). AreEarly (xs ++ S.trace)) well.items early in
    record {
      archived = archived_last S.others.archive due
          (subst (λ (rs : List Record). AllByRecursion EndsEarly rs) (sym well.of_due) (due_early until (held d ++ S.trace) (sound_items (held d) S.trace all_right.1 sound).0 all_early.1)) last.archived;
      notes = last.notes;
    }
decided_last S d sound right early last (KeepsNote note) well good = record { archived = last.archived; notes = noted_last note S.others.notes (note_lasts note good) last.notes }
decided_last S d sound right early last (TakesOver taken) well good = absurd well

-- ---- an opening

archive_good : (all : Entries) (a : Archive) → MayStand all (items.Archive a) → IsLastingArchive a
archive_good all a h =
    let some = nat_le 1 a.number || a.last == 0 in
    let both = and_parts (is_moment a.last) (nat_le a.number GREATEST_COUNT && some) h.allowed in
    record { early = leb-true a.last GREATEST_MOMENT both.0; some = (and_parts (nat_le a.number GREATEST_COUNT) some both.1).1 }

archive_so : (all : Entries) (is : List KeptItem) → AllByRecursion (MayStand all) is → IfSome (split is).archive IsLastingArchive
archive_so all [] h = tt
archive_so all (items.Archive a ∷ is) h = archive_good all a h.0
archive_so all (items.Version v ∷ is) h = archive_so all is h.1
archive_so all (items.Count namespace count ∷ is) h = archive_so all is h.1
archive_so all (items.Note n ∷ is) h = archive_so all is h.1
archive_so all (items.Row r ∷ is) h = archive_so all is h.1
archive_so all (items.Open u ∷ is) h = archive_so all is h.1
archive_so all (items.Done r ∷ is) h = archive_so all is h.1

notes_so : (all : Entries) (is : List KeptItem) → AllByRecursion (MayStand all) is → AllByRecursion (λ n. IsLasting (items.Note n)) (split is).notes
notes_so all [] h = tt
notes_so all (items.Note n ∷ is) h = (record { shallow = refl; fit = h.0.allowed }, notes_so all is h.1)
notes_so all (items.Version v ∷ is) h = notes_so all is h.1
notes_so all (items.Archive a ∷ is) h = notes_so all is h.1
notes_so all (items.Count namespace count ∷ is) h = notes_so all is h.1
notes_so all (items.Row r ∷ is) h = notes_so all is h.1
notes_so all (items.Open u ∷ is) h = notes_so all is h.1
notes_so all (items.Done r ∷ is) h = notes_so all is h.1

or_none : (o : Option Archive) → IfSome o IsLastingArchive → IsLastingArchive (unwrap_or o no_archive)
or_none None h = none_last.archived
or_none (Some a) h = h

module _ (S : Sight) (last : AreLastingOthers S.others) where
  taken_last : (b : Bool) (parts : KeptParts) → AreLastingOthers (others_of parts) → AreLastingOthers (others_after (opened_decision S.moment (taken_if b parts)).others S.others)
  taken_last true parts h = h
  taken_last false parts h = last

  opened_last : (rows : Entries) (r : Result (List KeptItem) (List ℕ)) → judged rows ≡ r → AreLastingOthers (others_after (opened_decision S.moment (parts_taken S.moment S.trace r)).others S.others)
  opened_last rows (Ok is) e =
      let each = (judged-sound rows is e).each in
      taken_last (is_fresh S.trace && are_resumable (split is).counts (resumed_records S.moment (split is).unrecorded (split is).records)) (split is)
      (record { archived = or_none (split is).archive (archive_so rows is each); notes = notes_so rows is each })
  opened_last rows (Err key) e = last

-- ---- each decision

pub others_last : OthersLast
others_last S (events.Opened rows) given small sound all early last = opened_last S last rows (judged rows) refl
others_last S event given small sound all early last =
    decided_last S (decide S event) sound (decided_right S event sound) (traces_last S event small all early) last (decide S event).others (decided_archives S event refl)
    (decided_good S event refl given)
