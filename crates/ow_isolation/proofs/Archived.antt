-- What is shown after a decision, which may archive records; and no archived record is in a view.
use Rattle.std.proofs.Common.{◌≡◌, ◌++◌, ◌∙◌, ℕ, Bool, true, false, List, [], ◌∷◌, filter, fold, not, if◌then◌else◌, append_assoc, refl, sym, ap, subst}
use Rattle.std.proofs.lemmas.List.{append-nil}
use Rattle.std.specs.List.{AllByRecursion}
use Rattle.std.specs.Ordering.{is_lt}
use Rattle.ow_value.specs.Value.{text_cmp}
use Rattle.ow_records.specs.Records.{id_key, is_due, is_retained, put_by, sorted_by}
use Rattle.ow_records.specs.declared.record.Record.{Record}
use Rattle.ow_floor.specs.Calls.{due_by}
use Rattle.ow_floor.specs.Laws.{IsSound, was_archived}
use Rattle.ow_floor.specs.Trace.{Archived, Ended, Fired, Item, Resumed, Trace, all_records, record_of, records, records_after, shown_after, shown_records}
use Rattle.ow_floor.proofs.Archives.{shown_or_archived}
use Rattle.ow_commits.specs.Keeping.{AreOwn, IsOwn}
use Rattle.ow_tenant.specs.Table.{Table}
use Rattle.ow_tenant.specs.Tenants.{holder_of}
use Rattle.ow_reads.specs.View.{View, is_visible_record, view_over}
use Rattle.ow_decide.specs.Decision.{Archives, Decision, KeepsNote, OtherChange, Same, TakesOver, held}
use Rattle.ow_decide.specs.Decisions.{decide, is_opening}
use Rattle.ow_decide.specs.Sight.{Sight}
use Rattle.ow_decide.specs.declared.events.Event.{Event}
use Rattle.ow_decide.proofs.ArchiveLaws.{IsArchivedWell, decided_archives}
use Rattle.ow_decide.proofs.NotedLaws.{decided_own}
use Rattle.ow_hall.specs.History.{History, seen}
use Rattle.ow_hall.proofs.Beginnings.{seen_sound}
use Rattle.ow_isolation.specs.Archived.{ArchivedAreUnseen}
use Rattle.ow_isolation.specs.Unseen.{archived_by}
use Rattle.ow_isolation.proofs.ReadLaws.{held_by}

-- ---- records in the order of their ids

module _ (key : Record → List ℕ) (P : Record → Type 0) where
  put_by_test : (r x : Record) (xs : List Record) (b : Bool) → P r → P x → AllByRecursion P xs → AllByRecursion P (put_by key r xs) → AllByRecursion P (if b then r ∷ x ∷ xs else x ∷ put_by key r xs)
  put_by_test r x xs true h k all rest = (h, (k, all))
  put_by_test r x xs false h k all rest = (k, rest)

  put_all : (r : Record) (xs : List Record) → P r → AllByRecursion P xs → AllByRecursion P (put_by key r xs)
  put_all r [] h all = (h, tt)
  put_all r (x ∷ xs) h all = put_by_test r x xs (is_lt (text_cmp (key r) (key x))) h all.0 all.1 (put_all r xs h all.1)

  folded_all : (rs xs : List Record) → AllByRecursion P rs → AllByRecursion P xs → AllByRecursion P (fold (λ ys r. put_by key r ys) xs rs)
  folded_all [] xs all before = before
  folded_all (r ∷ rs) xs all before = folded_all rs (put_by key r xs) all.1 (put_all r xs all.0 before)

  -- what holds of each record holds of each of them in order
  all_sorted : (rs : List Record) → AllByRecursion P rs → AllByRecursion P (sorted_by key rs)
  all_sorted rs all = folded_all rs [] all tt

  taken_by_test : (r x : Record) (xs : List Record) (b : Bool) → (AllByRecursion P (put_by key r xs) → P r × AllByRecursion P xs) → AllByRecursion P (if b then r ∷ x ∷ xs else x ∷ put_by key r xs)
      → P r × AllByRecursion P (x ∷ xs)
  taken_by_test r x xs true rest all = all
  taken_by_test r x xs false rest all = let both = rest all.1 in (both.0, (all.0, both.1))

  taken_all : (r : Record) (xs : List Record) → AllByRecursion P (put_by key r xs) → P r × AllByRecursion P xs
  taken_all r [] all = all
  taken_all r (x ∷ xs) all = taken_by_test r x xs (is_lt (text_cmp (key r) (key x))) (taken_all r xs) all

  unfolded_all : (rs xs : List Record) → AllByRecursion P (fold (λ ys r. put_by key r ys) xs rs) → AllByRecursion P rs × AllByRecursion P xs
  unfolded_all [] xs all = (tt, all)
  unfolded_all (r ∷ rs) xs all =
      let rest = unfolded_all rs (put_by key r xs) all in
      let both = taken_all r xs rest.1 in
      ((both.0, rest.0), both.1)

  -- and the other way round
  all_unsorted : (rs : List Record) → AllByRecursion P (sorted_by key rs) → AllByRecursion P rs
  all_unsorted rs all = (unfolded_all rs [] all).0

all_picked : (P : Record → Type 0) (p : Record → Bool) (rs : List Record) → AllByRecursion P rs → AllByRecursion P (filter p rs)
all_picked P p [] all = tt
all_picked P p (r ∷ rs) all = by_test (p r) refl (all_picked P p rs all.1)
  where
    by_test : (b : Bool) → p r ≡ b → AllByRecursion P (filter p rs) → AllByRecursion P (filter p (r ∷ rs))
    by_test true e rest = rw e (all.0, rest)
    by_test false e rest = rw e rest

-- ---- what is shown after a decision

shown_at : (item : Item) (since old new : List Record) → IsOwn item → shown_after item since (old ++ new) ≡ old ++ records_after item new
shown_at (Ended e) since old new own = append_assoc old new (record_of e ∷ [])
shown_at (Fired r) since old new own = append_assoc old new (r ∷ [])
shown_at (Resumed counts rs) since old new own = absurd own
shown_at (Archived until at) since old new own = absurd own
shown_at item since old new own = refl

-- where nothing is taken over or archived, the new records come after those that were shown
shown_more : (items T : Trace) → AreOwn items → shown_records (items ++ T) ≡ shown_records T ++ records items
shown_more [] T own = sym (append-nil (shown_records T))
shown_more (item ∷ items) T own =
    ap (shown_after item (records (items ++ T))) (shown_more items T own.1) ∙ shown_at item (records (items ++ T)) (shown_records T) (records items) own.0

-- what is left of records once some are archived
abbrev pub left_by : OtherChange → List Record → List Record
left_by (Archives until before due) rs = filter (is_retained until) rs
left_by change rs = rs

-- all records that are due are archived
abbrev pub AreDue : OtherChange → List Record → Type 0
AreDue (Archives until before due) rs = due ≡ due_by until rs
AreDue change rs = Unit {0}

-- the new records come after those that were shown, and then those that are due are archived
pub record Grows (S : Sight) (d : Decision) : Type 0 where
  pub shown : shown_records (d.items ++ S.trace) ≡ left_by d.others (shown_records S.trace ++ records d.items)
  pub due : AreDue d.others (shown_records S.trace ++ records d.items)

grows_by : (S : Sight) (d : Decision) (change : OtherChange) → d.others ≡ change → IsArchivedWell change d S → AreOwn (held d) → Grows S d
grows_by S d Same is well own =
    let all = shown_records S.trace ++ records d.items in
    record {
      shown = shown_more d.items S.trace (subst AreOwn well own) ∙ ap (λ (change : OtherChange). left_by change all) (sym is);
      due = subst (λ (change : OtherChange). AreDue change all) (sym is) tt;
    }
grows_by S d (Archives until before due) is well own =
    let all = shown_records S.trace ++ records d.items in
    let same : records d.items ≡ records (held d) = ap records well.items in
    let more : shown_records (held d ++ S.trace) ≡ all = shown_more (held d) S.trace own ∙ ap (λ (rs : List Record). shown_records S.trace ++ rs) (sym same) in
    record {
      shown = ap (λ (items : Trace). shown_records (items ++ S.trace)) well.items ∙ (ap (λ (rs : List Record). filter (is_retained until) rs) more ∙ ap (λ (change : OtherChange). left_by change all) (sym is));
      due = subst (λ (change : OtherChange). AreDue change all) (sym is) (well.of_due ∙ ap (due_by until) more);
    }
grows_by S d (KeepsNote note) is well own =
    let all = shown_records S.trace ++ records d.items in
    record {
      shown = shown_more d.items S.trace (subst AreOwn well own) ∙ ap (λ (change : OtherChange). left_by change all) (sym is);
      due = subst (λ (change : OtherChange). AreDue change all) (sym is) tt;
    }
grows_by S d (TakesOver taken) is well own = absurd well

pub decided_grows : (S : Sight) (event : Event) → is_opening event ≡ false → Grows S (decide S event)
decided_grows S event other = grows_by S (decide S event) (decide S event).others refl (decided_archives S event other) (decided_own S event other)

-- ---- what is seen of it

due_first : (until : ℕ) (r : Record) (rs : List Record) → is_due until r ≡ true → filter (is_due until) (r ∷ rs) ≡ r ∷ filter (is_due until) rs
due_first until r rs e = rw e refl

not_due_first : (until : ℕ) (r : Record) (rs : List Record) → is_due until r ≡ false → filter (is_due until) (r ∷ rs) ≡ filter (is_due until) rs
not_due_first until r rs e = rw e refl

-- of the records that are left, those are seen that were, where none that is due was seen
retained_seen : (p : Record → Bool) (until : ℕ) (rs : List Record) → AllByRecursion (λ r. p r ≡ false) (filter (is_due until) rs) → filter p (filter (is_retained until) rs) ≡ filter p rs
retained_seen p until [] hidden = refl
retained_seen p until (r ∷ rs) hidden = by_due (is_due until r) refl (retained_seen p until rs)
  where
    by_seen : (b : Bool) → p r ≡ b → is_due until r ≡ false → filter p (filter (is_retained until) rs) ≡ filter p rs → filter p (filter (is_retained until) (r ∷ rs)) ≡ filter p (r ∷ rs)
    by_seen true e f again = rw (f, e) (ap (λ xs. r ∷ xs) again)
    by_seen false e f again = rw (f, e) again

    by_due : (b : Bool) → is_due until r ≡ b → (AllByRecursion (λ x. p x ≡ false) (filter (is_due until) rs) → filter p (filter (is_retained until) rs) ≡ filter p rs)
        → filter p (filter (is_retained until) (r ∷ rs)) ≡ filter p (r ∷ rs)
    by_due true e again =
        let both : (p r ≡ false) × AllByRecursion (λ x. p x ≡ false) (filter (is_due until) rs) =
        subst (λ (xs : List Record). AllByRecursion (λ x. p x ≡ false) xs) (due_first until r rs e) hidden in
        rw (e, both.0) (again both.1)
    by_due false e again = by_seen (p r) refl e (again (subst (λ (xs : List Record). AllByRecursion (λ x. p x ≡ false) xs) (not_due_first until r rs e) hidden))

pub left_seen : (p : Record → Bool) (rs : List Record) (change : OtherChange) → AreDue change rs → AllByRecursion (λ r. p r ≡ false) (archived_by change) → filter p (left_by change rs) ≡ filter p rs
left_seen p rs (Archives until before due) is hidden =
    retained_seen p until rs (all_unsorted id_key (λ r. p r ≡ false) (filter (is_due until) rs) (subst (λ (xs : List Record). AllByRecursion (λ r. p r ≡ false) xs) is hidden))
left_seen p rs Same is hidden = refl
left_seen p rs (KeepsNote note) is hidden = refl
left_seen p rs (TakesOver taken) is hidden = refl

-- ---- archived records

passing : (p : Record → Bool) (rs : List Record) → AllByRecursion (λ r. p r ≡ false) (filter (λ r. not (p r)) rs)
passing p [] = tt
passing p (r ∷ rs) = by_test (p r) refl (passing p rs)
  where
    by_test : (b : Bool) → p r ≡ b → AllByRecursion (λ x. p x ≡ false) (filter (λ x. not (p x)) rs) → AllByRecursion (λ x. p x ≡ false) (filter (λ x. not (p x)) (r ∷ rs))
    by_test true e rest = rw e rest
    by_test false e rest = rw e (e, rest)

-- no record that is shown was archived
shown_left : (T : Trace) → IsSound T → AllByRecursion (λ r. was_archived T r ≡ false) (shown_records T)
shown_left T sound = subst (λ (rs : List Record). AllByRecursion (λ r. was_archived T r ≡ false) rs) (sym (shown_or_archived T sound).shown) (passing (was_archived T) (all_records T))

pub archived_unseen : (t : Table) (B : History) → ArchivedAreUnseen t B
archived_unseen t B key W is =
    let T = (seen t B).trace in
    let of_holder = held_by (view_over (seen t B).rows (shown_records T)) (holder_of key t) W is in
    subst (λ (V : View). AllByRecursion (λ r. was_archived T r ≡ false) V.records) of_holder.2
    (all_sorted id_key (λ r. was_archived T r ≡ false) (filter (is_visible_record of_holder.0.rights) (shown_records T))
    (all_picked (λ r. was_archived T r ≡ false) (is_visible_record of_holder.0.rights) (shown_records T) (shown_left T (seen_sound t B))))
