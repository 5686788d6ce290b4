-- What is committed of what is decided makes what is kept then.
use Rattle.std.proofs.Common.{◌≡◌, ◌==◌, ◌+◌, ◌++◌, ◌^◌, ◌≤◌, ◌<◌, ◌∙◌, ℕ, Bool, true, false, cond, List, [], ◌∷◌, Option, Some, map, refl, sym, ap, arith, subst}
use Rattle.std.specs.List.{find, flat_map, AllByRecursion}
use Rattle.std.proofs.lemmas.Bool.Decides.{nat_tests}
use Rattle.std.proofs.lemmas.List.{append-nil}
use Rattle.ow_entity.specs.declared.rows.Row.{Row}
use Rattle.ow_records.specs.declared.activations.Activation.{Activation}
use Rattle.ow_records.specs.declared.ids.Id.{Id}
use Rattle.ow_records.specs.declared.record.Record.{Record}
use Rattle.ow_records.specs.Known.{IsId}
use Rattle.ow_records.specs.Unrecorded.{unrecorded_of}
use Rattle.ow_floor.specs.declared.activations.Open.{Open}
use Rattle.ow_floor.specs.declared.activations.State.TheVariants.{Waiting}
use Rattle.ow_floor.specs.Calls.{IsNext, archive_items, moved, moved_by}
use Rattle.ow_floor.specs.Growth.{AreRight, IsRight, grow, grown}
use Rattle.ow_floor.specs.View.{Shown, count_or_zero, is_in, is_of, last_of, remove_first}
use Rattle.ow_floor.specs.Trace.{Accepted, Archived, Drawn, Ended, Fired, Item, Resumed, Swept, Trace, drawn, last, latest, open_items, record_of, shown, shown_records}
use Rattle.ow_floor.specs.Laws.{IsSound}
use Rattle.ow_floor.proofs.Drawn.{drawn_last}
use Rattle.ow_floor.proofs.Soundness.{sound_items}
use Rattle.ow_row_text.specs.Sorted.{Entries}
use Rattle.ow_row_text.specs.declared.item.Archive.{Archive}
use Rattle.ow_commits.specs.Archiving.{archive_changes, others_with}
use Rattle.ow_commits.specs.Commits.{changes_of, row_changes, put_of}
use Rattle.ow_commits.specs.Keeping.{AreIds, AreOwn, IsDrawn, IsKnownMove, IsOwn}
use Rattle.ow_commits.specs.Kept.{OthersView, kept, kept_whole}
use Rattle.ow_commits.proofs.Ids.{all_both}
use Rattle.ow_commits.proofs.Moving.{moves_kept}
use Rattle.ow_commits.proofs.RowLaws.{rows_kept}
use Rattle.ow_commits.proofs.Retiring.{archives_kept}
use Rattle.ow_commits.proofs.Untouched.{others_untouched}
use Rattle.ow_tables.specs.Contents.{Change}
use Rattle.ow_tables.specs.Rows.{changed as rows_changed}
use Rattle.ow_traits.specs.Changes.{after_change, changed}
use Rattle.ow_traits.specs.declared.change_list.Change.{Change as StoreChange}
use Rattle.ow_decide.specs.declared.events.Event.{Event}
use Rattle.ow_decide.specs.Sight.{Sight}
use Rattle.ow_decide.specs.Decision.{Archives, Decision, KeepsNote, OtherChange, Same, TakesOver, all_changed, commits, held, items_changes, others_after, with_others}
use Rattle.ow_decide.specs.Decisions.{decide, is_opening}
use Rattle.ow_decide.proofs.ArchiveLaws.{IsArchivedWell, decided_archives}
use Rattle.ow_decide.proofs.MadeLaws.{AreOfSweep, IsOfSweep, changes_of_moves}
use Rattle.ow_decide.proofs.NotedLaws.{decided_own}
use Rattle.ow_decide.proofs.SoundLaws.{decided_right}
use Rattle.ow_commits.proofs.Noted.{notes_kept}
use Rattle.ow_row_text.specs.declared.item.Item.TheVariants as rows_items

-- ---- changes one after another

changed_then : (xs ys : List StoreChange) (rows : Entries) → changed (xs ++ ys) rows ≡ changed ys (changed xs rows)
changed_then [] ys rows = refl
changed_then (x ∷ xs) ys rows = changed_then xs ys (after_change x rows)

-- of one change of the rows nothing else is committed
pub one_change : (c : Change) → flat_map row_changes (c ∷ []) ++ [] ≡ row_changes c
one_change c = append-nil (flat_map row_changes (c ∷ [])) ∙ append-nil (row_changes c)

pub all_rows_kept : (cs : List Change) (rs : List Row) (T : Trace) → changed (flat_map row_changes cs) (kept rs T) ≡ kept (all_changed cs rs) T
all_rows_kept [] rs T = refl
all_rows_kept (c ∷ cs) rs T =
    changed_then (row_changes c) (flat_map row_changes cs) (kept rs T)
    ∙ (ap (changed (flat_map row_changes cs)) (rows_kept c rs T) ∙ all_rows_kept cs (rows_changed c rs) T)

-- ---- ids of what moves

-- both numbers have 64 bits
abbrev AreSmall : ℕ → ℕ → Type 0
AreSmall namespace count = (namespace < 2 ^ 64) × (count < 2 ^ 64)

same_number : (m n : ℕ) → (m == n) ≡ true → m ≡ n
same_number m n e = grind (arith, nat_tests)

small_by : (x : Id) (rest : Option Id) (n : ℕ) (b : Bool) → is_in n x ≡ b → IsDrawn x → (1 ≤ count_or_zero rest → AreSmall n (count_or_zero rest)) → 1 ≤ count_or_zero (cond b (Some x) rest)
    → AreSmall n (count_or_zero (cond b (Some x) rest))
small_by x rest n true e known other some = (subst (λ (m : ℕ). m < 2 ^ 64) (same_number x.namespace n e) known.is.namespace, known.is.count)
small_by x rest n false e known other some = other some

drawn_small : (ids : List Id) (n : ℕ) → AllByRecursion IsDrawn ids → 1 ≤ last_of ids n → AreSmall n (last_of ids n)
drawn_small [] n all some = absurd (omega (arith, some))
drawn_small (x ∷ xs) n all some = small_by x (find (is_in n) xs) n (is_in n x) refl all.0 (drawn_small xs n all.1) some

-- the last counts that were drawn
abbrev AreLastsSmall : Trace → Type 0
AreLastsSmall T = (n : ℕ) → 1 ≤ last T n → AreSmall n (last T n)

lasts_small : (T : Trace) → AllByRecursion IsDrawn (drawn T) → AreLastsSmall T
lasts_small T all n = subst (λ (m : ℕ). 1 ≤ m → AreSmall n m) (drawn_last T n) (drawn_small (drawn T) n all)

same_le : (n : ℕ) → n ≤ n
same_le n = omega arith

next_more : (id : Id) (T : Trace) (n : ℕ) (b : Bool) → (id.namespace == n) ≡ b → IsNext id T → last T n ≤ cond b id.count (last T n)
next_more id T n true e next = let same = ap (last T) (same_number id.namespace n e) in omega (arith, same, next)
next_more id T n false e next = same_le (last T n)

-- the id of what may come is the next of its namespace
is_next : (id : Id) (T : Trace) → id.count ≡ last_of (drawn T) id.namespace + 1 → IsNext id T
is_next id T right = right ∙ ap (λ (n : ℕ). n + 1) (drawn_last T id.namespace)

-- no last count falls
last_more : (item : Item) (T : Trace) (n : ℕ) → IsRight item (shown T) → IsOwn item → last T n ≤ last (item ∷ T) n
last_more (Accepted a) T n right own = next_more a.id T n (a.id.namespace == n) refl (is_next a.id T right.0)
last_more (Drawn id at) T n right own = next_more id T n (id.namespace == n) refl (is_next id T right.0)
last_more (Resumed counts rs) T n right own = absurd own
last_more item T n right own = same_le (last T n)

self_number : (n : ℕ) → (n == n) ≡ true
self_number n = grind (arith, nat_tests)

here_small : (id : Id) (T : Trace) (b : Bool) → (id.namespace == id.namespace) ≡ b → IsNext id T → (1 ≤ cond b id.count (last T id.namespace) → AreSmall id.namespace (cond b id.count (last T id.namespace))) → IsId id
here_small id T true e next small = let both = small (omega (arith, next)) in record { namespace = both.0; count = both.1 }
here_small id T false e next small = let h = self_number id.namespace in cc

less_small : (m k n : ℕ) → m ≤ k → (1 ≤ k → AreSmall n k) → 1 ≤ m → AreSmall n m
less_small m k n le small some = let both = small (omega (arith, le, some)) in (both.0, omega (arith, le, both.1))

record_before : (r : Record) (xs : List Record) → AllByRecursion (λ x. IsId x.id) (xs ++ r ∷ []) → AllByRecursion (λ x. IsId x.id) xs × IsId r.id
record_before r [] all = (tt, all.0)
record_before r (x ∷ xs) all = let rest = record_before r xs all.1 in ((all.0, rest.0), rest.1)

-- of the newest item
item_known : (item : Item) (T : Trace) → IsOwn item → IsRight item (shown T) → AreLastsSmall (item ∷ T) → AllByRecursion (λ r. IsId r.id) (shown_records (item ∷ T))
    → AllByRecursion IsKnownMove (moved_by item) × AllByRecursion (λ r. IsId r.id) (shown_records T)
item_known (Accepted a) T own right small ended = ((here_small a.id T (a.id.namespace == a.id.namespace) refl (is_next a.id T right.0) (small a.id.namespace), tt), ended)
item_known (Drawn id at) T own right small ended = ((here_small id T (id.namespace == id.namespace) refl (is_next id T right.0) (small id.namespace), tt), ended)
item_known (Ended e) T own right small ended = let both = record_before (record_of e) (shown_records T) ended in ((both.1, tt), both.0)
item_known (Fired r) T own right small ended = let both = record_before r (shown_records T) ended in ((both.1, tt), both.0)
item_known (Resumed counts rs) T own right small ended = absurd own
item_known (Archived until at) T own right small ended = absurd own
item_known item T own right small ended = (tt, ended)

-- the ids of what moved are known by what is known then
moves_known : (items T : Trace) → IsSound T → AreRight items (shown T) → AreOwn items → AreLastsSmall (items ++ T) → AllByRecursion (λ r. IsId r.id) (shown_records (items ++ T)) → AllByRecursion IsKnownMove (moved items)
moves_known [] T sound right own small ended = tt
moves_known (item ∷ items) T sound right own small ended =
    let U : Trace = items ++ T in
    let here : IsRight item (shown U) = subst (λ (v : Shown). IsRight item v) (sym (sound_items items T right.1 sound).1) right.0 in
    let known = item_known item U own.0 here small ended in
    all_both IsKnownMove (moved items) (moved_by item)
    (moves_known items T sound right.1 own.1 (λ n. less_small (last U n) (last (item ∷ U) n) n (last_more item U n here own.0) (small n)) known.1) known.0

-- ---- ids of what a sweep holds

-- the ids of what is open, and of the records
abbrev AreKnown : Shown → Type 0
AreKnown v = AllByRecursion (λ (o : Open). IsId o.task.id) v.open_items × AllByRecursion (λ (r : Record). IsId r.id) v.records

all_found : {X : Type 0} (P : X → Type 0) (p : X → Bool) (xs : List X) (x : X) → AllByRecursion P xs → find p xs ≡ Some x → P x
all_found P p [] x all found = cc
all_found P p (y ∷ ys) x all found = by_test (p y) refl found (λ h. all_found P p ys x all.1 h)
  where
    by_test : (b : Bool) → p y ≡ b → find p (y ∷ ys) ≡ Some x → (find p ys ≡ Some x → P x) → P x
    by_test true e found rest =
        let here : Some y ≡ Some x = rw e at found in
        let same : y ≡ x = cc in
        subst P same all.0
    by_test false e found rest = rest (rw e at found)

all_left : {X : Type 0} (P : X → Type 0) (p : X → Bool) (xs : List X) → AllByRecursion P xs → AllByRecursion P (remove_first p xs)
unfolding remove_first
all_left P p [] all = tt
all_left P p (x ∷ xs) all = by_test (p x) refl (all_left P p xs all.1)
  where
    by_test : (b : Bool) → p x ≡ b → AllByRecursion P (remove_first p xs) → AllByRecursion P (remove_first p (x ∷ xs))
    by_test true e rest = rw e all.1
    by_test false e rest = rw e (all.0, rest)

of_opens : (os : List Open) → AllByRecursion (λ u. IsId u.id) (map (λ (o : Open). unrecorded_of o.task) os) → AllByRecursion (λ (o : Open). IsId o.task.id) os
of_opens [] all = tt
of_opens (o ∷ os) all = (all.0, of_opens os all.1)

own_of_sweep : (item : Item) → IsOfSweep item → IsOwn item
own_of_sweep (Accepted a) of = tt
own_of_sweep (Ended e) of = tt
own_of_sweep (Swept at) of = tt
own_of_sweep item of = absurd of

swept_one : (item : Item) (T : Trace) (v : Shown) → IsOfSweep item → IsRight item v → IsRight item (shown T) → AreLastsSmall (item ∷ T) → AreKnown v → AreKnown (grow item v)
swept_one (Accepted a) T v of right here small known = (
  all_both (λ (o : Open). IsId o.task.id) v.open_items (record { task = a; state = Waiting } ∷ []) known.0 (here_small a.id T (a.id.namespace == a.id.namespace) refl (is_next a.id T here.0) (small a.id.namespace), tt),
  known.1,
)
swept_one (Ended e) T v of ((o, found, same, runs), event) here small known = (
  all_left (λ (o : Open). IsId o.task.id) (is_of e.task.id) v.open_items known.0,
  all_both (λ (r : Record). IsId r.id) v.records (record_of e ∷ []) known.1
      (subst (λ (a : Activation). IsId a.id) (sym same) (all_found (λ (o : Open). IsId o.task.id) (is_of e.task.id) v.open_items o known.0 found), tt),
)
swept_one (Swept at) T v of right here small known = known
swept_one item T v of right here small known = absurd of

-- what is open, and what has ended, is known after these items where the last counts are small then
swept_known : (items T : Trace) → AreOfSweep items → IsSound T → AreRight items (shown T) → AreLastsSmall (items ++ T) → AreKnown (shown T) → AreKnown (grown items (shown T))
swept_known [] T of sound right small known = known
swept_known (item ∷ items) T of sound right small known =
    let U : Trace = items ++ T in
    let here : IsRight item (shown U) = subst (λ (v : Shown). IsRight item v) (sym (sound_items items T right.1 sound).1) right.0 in
    swept_one item U (grown items (shown T)) of.0 right.0 here small
    (swept_known items T of.1 sound right.1 (λ n. less_small (last U n) (last (item ∷ U) n) n (last_more item U n here (own_of_sweep item of.0)) (small n)) known)

-- so the ids before an archive are known by those after it
before_archive : (items T : Trace) (until at : ℕ) → AreOfSweep items → IsSound T → AreRight items (shown T) → AreIds T → AreIds (Archived until at ∷ (items ++ T)) → AreIds (items ++ T)
before_archive items T until at of sound right ids after =
    let known = swept_known items T of sound right (lasts_small (items ++ T) after.drawn) (of_opens (open_items T) ids.opened, ids.ended) in
    record { drawn = after.drawn; opened = after.opened; ended = (subst AreKnown (sym (sound_items items T right sound).1) known).1 }

-- ---- a decision

-- what is committed of changes of the rows and of items turns what was kept into what is kept after them
rows_and_items : (rs : List Row) (T : Trace) (cs : List Change) (items : Trace) → IsSound T → AreIds T → AreRight items (shown T) → AreOwn items → AreIds (items ++ T)
    → changed (flat_map row_changes cs ++ flat_map changes_of (moved items)) (kept rs T) ≡ kept (all_changed cs rs) (items ++ T)
rows_and_items rs T cs items sound ids right own after =
    changed_then (flat_map row_changes cs) (flat_map changes_of (moved items)) (kept rs T)
    ∙ (ap (changed (flat_map changes_of (moved items))) (all_rows_kept cs rs T)
    ∙ moves_kept (all_changed cs rs) T items sound ids right own (moves_known items T sound right own (lasts_small (items ++ T) after.drawn) after.ended))

-- and does so beside the archive and the notes
beside_others : (o : OthersView) (rs : List Row) (T : Trace) (cs : List Change) (items : Trace) → IsSound T → AreIds T → AreRight items (shown T) → AreOwn items → AreIds (items ++ T)
    → changed (flat_map row_changes cs ++ items_changes items) (kept_whole o rs T) ≡ kept_whole o (all_changed cs rs) (items ++ T)
beside_others o rs T cs items sound ids right own after =
    ap (λ (xs : List StoreChange). changed (flat_map row_changes cs ++ xs) (kept_whole o rs T)) (changes_of_moves items)
    ∙ others_untouched o cs (moved items) rs (all_changed cs rs) T (items ++ T) (rows_and_items rs T cs items sound ids right own after)

-- items of which only the last moves nothing are committed as the others are
same_changes : (xs ys : Trace) → moved xs ≡ moved ys → items_changes xs ≡ items_changes ys
same_changes xs ys same = changes_of_moves xs ∙ (ap (flat_map changes_of) same ∙ sym (changes_of_moves ys))

kept_by : (S : Sight) (d : Decision) (o : OtherChange) → IsArchivedWell o d S → IsSound S.trace → AreIds S.trace → AreRight d.items (shown S.trace) → AreOwn (held d) → AreIds (d.items ++ S.trace)
    → changed (with_others o (flat_map row_changes d.changes ++ items_changes d.items)) (kept_whole S.others S.rows S.trace) ≡ kept_whole (others_after o S.others) (all_changed d.changes S.rows) (d.items ++ S.trace)
kept_by S d Same well sound ids right own after = beside_others S.others S.rows S.trace d.changes d.items sound ids right (subst AreOwn well own) after
kept_by S d (KeepsNote note) well sound ids right own after =
    let cs : List StoreChange = flat_map row_changes d.changes ++ items_changes d.items in
    changed_then cs (put_of (rows_items.Note note) ∷ []) (kept_whole S.others S.rows S.trace)
    ∙ (ap (changed (put_of (rows_items.Note note) ∷ [])) (beside_others S.others S.rows S.trace d.changes d.items sound ids right (subst AreOwn well own) after)
    ∙ notes_kept S.others note (all_changed d.changes S.rows) (d.items ++ S.trace))
kept_by S d (TakesOver others) well sound ids right own after = absurd well
kept_by S d (Archives until before due) well sound ids right own after =
    let h : Trace = held d in
    let U : Trace = h ++ S.trace in
    let rs : List Row = all_changed d.changes S.rows in
    let cs : List StoreChange = flat_map row_changes d.changes ++ items_changes h in
    let comes = (subst (λ (xs : Trace). AreRight xs (shown S.trace)) well.items right).1 in
    let ids_then : AreIds U = before_archive h S.trace until (latest U) well.sweeps sound comes ids (subst (λ (xs : Trace). AreIds (xs ++ S.trace)) well.items after) in
    ap (λ (xs : List StoreChange). changed ((flat_map row_changes d.changes ++ xs) ++ archive_changes before due) (kept_whole S.others S.rows S.trace)) (same_changes d.items h well.moves)
    ∙ (changed_then cs (archive_changes before due) (kept_whole S.others S.rows S.trace)
    ∙ (ap (changed (archive_changes before due)) (beside_others S.others S.rows S.trace d.changes h sound ids comes own ids_then)
    ∙ (ap (λ (a : Archive). changed (archive_changes a due) (kept_whole S.others rs U)) well.over
    ∙ (ap (λ (xs : List Record). changed (archive_changes S.others.archive xs) (kept_whole S.others rs U)) well.of_due
    ∙ (archives_kept S.others until rs U (sound_items h S.trace comes sound).0 ids_then
    ∙ (ap (λ (xs : List Record). kept_whole (others_with S.others xs) rs (archive_items until U ++ U)) (sym well.of_due)
    ∙ ap (λ (xs : Trace). kept_whole (others_with S.others due) rs (xs ++ S.trace)) (sym well.items)))))))

-- what is committed of a decision, except that of an opening, turns all that was kept into what is kept after it
pub decided_kept : (S : Sight) (event : Event) → is_opening event ≡ false → IsSound S.trace → AreIds S.trace → AreIds ((decide S event).items ++ S.trace)
    → changed (commits (decide S event)) (kept_whole S.others S.rows S.trace)
    ≡ kept_whole (others_after (decide S event).others S.others) (all_changed (decide S event).changes S.rows) ((decide S event).items ++ S.trace)
decided_kept S event other sound ids after =
    kept_by S (decide S event) (decide S event).others (decided_archives S event other) sound ids (decided_right S event sound) (decided_own S event other) after
