-- Each record is shown or archived, once.
use Rattle.std.proofs.Common.{◌≡◌, ◌+◌, ◌≤◌, ◌++◌, ◌&&◌, ◌||◌, ℕ, Bool, true, false, not, List, [], ◌∷◌, refl, sym, ap, ◌∙◌, arith, append_assoc, subst}
use Rattle.std.specs.List.{AllByRecursion, IsDistinct, filter, list_any}
use Rattle.std.proofs.lemmas.List.{map-append}
use Rattle.std.proofs.lemmas.List.Elements.{filter-append}
use Rattle.std.proofs.lemmas.List.Folds.{list_any-append}
use Rattle.ow_records.specs.declared.ids.Id.{Id}
use Rattle.ow_records.specs.declared.record.Record.{Record}
use Rattle.ow_records.specs.Id.{same_id}
use Rattle.ow_records.specs.Records.{is_due, is_retained}
use Rattle.ow_floor.specs.View.{same_record}
use Rattle.ow_floor.specs.Trace.{Trace, Item, Archived, Ended, Fired, Resumed, all_records, archived, archived_records, record_of, records, resumed, shown_records}
use Rattle.ow_floor.specs.Laws.{AreShownOrArchived, IsSound, record_ids, times, was_archived}
use Rattle.ow_floor.proofs.Alters.{same_id_refl}
use Rattle.ow_floor.proofs.Apart.{all_both, turned}
use Rattle.ow_floor.proofs.Firsts.{all_more}
use Rattle.ow_floor.proofs.Fires.{known_once, times-append}
use Rattle.ow_floor.proofs.Tallies.{one_if, times-push}

times_records : (id : Id) (xs ys : List Record) → times id (record_ids (xs ++ ys)) ≡ times id (record_ids xs) + times id (record_ids ys)
times_records id xs ys = ap (times id) (map-append (λ r. r.id) xs ys) ∙ times-append id (record_ids xs) (record_ids ys)

-- ---- an archive parts the records

times_parted : (id : Id) (until : ℕ) (rs : List Record) → times id (record_ids (filter (is_retained until) rs)) + times id (record_ids (filter (is_due until) rs)) ≡ times id (record_ids rs)
times_parted id until [] = refl
times_parted id until (r ∷ rs) = by_test (is_due until r) refl (times_parted id until rs)
  where
    by_test : (b : Bool) → is_due until r ≡ b → times id (record_ids (filter (is_retained until) rs)) + times id (record_ids (filter (is_due until) rs)) ≡ times id (record_ids rs)
        → times id (record_ids (filter (is_retained until) (r ∷ rs))) + times id (record_ids (filter (is_due until) (r ∷ rs))) ≡ times id (record_ids (r ∷ rs))
    by_test true e rest = rw e (omega (arith, rest))
    by_test false e rest = rw e (omega (arith, rest))

-- one more record
times_more : (id : Id) (r : Record) (T : Trace) → times id (record_ids (resumed T ++ (records T ++ r ∷ []))) ≡ times id (record_ids (all_records T)) + one_if (same_id id r.id)
times_more id r T = ap (λ rs. times id (record_ids rs)) (sym (append_assoc (resumed T) (records T) (r ∷ []))) ∙ times-push (λ x. x.id) id (all_records T) r

shown_more : (id : Id) (r : Record) (T : Trace) → times id (record_ids (shown_records T)) + times id (archived T) ≡ times id (record_ids (all_records T))
    → times id (record_ids (shown_records T ++ r ∷ [])) + times id (archived T) ≡ times id (record_ids (resumed T ++ (records T ++ r ∷ [])))
shown_more id r T e =
    let a = times-push (λ (x : Record). x.id) id (shown_records T) r in
    let b = times_more id r T in
    omega (arith, a, b, e)

times_archived : (T : Trace) (id : Id) → times id (record_ids (shown_records T)) + times id (archived T) ≡ times id (record_ids (all_records T))
times_archived [] id = refl
times_archived (item ∷ T) id = of_item item (times_archived T id)
  where
    of_item : (item : Item) → times id (record_ids (shown_records T)) + times id (archived T) ≡ times id (record_ids (all_records T))
        → times id (record_ids (shown_records (item ∷ T))) + times id (archived (item ∷ T)) ≡ times id (record_ids (all_records (item ∷ T)))
    of_item (Resumed counts rs) e = omega arith
    of_item (Ended end) e = shown_more id (record_of end) T e
    of_item (Fired r) e = shown_more id r T e
    of_item (Archived until at) e =
        let both = times_parted id until (shown_records T) in
        let more = times_records id (archived_records T) (filter (is_due until) (shown_records T)) in
        omega (arith, both, more, e)
    of_item item e = e

-- ---- no record twice

records_once : (T : Trace) (id : Id) → IsSound T → times id (record_ids (all_records T)) ≤ 1
records_once T id sound =
    let all = times_records id (resumed T) (records T) in
    let known = known_once T id sound in
    let once = sound.once id in
    omega (arith, all, known, once)

none_there : (id : Id) (rs : List Record) → times id (record_ids rs) ≡ 0 → AllByRecursion (λ r. same_id id r.id ≡ false) rs
none_there id [] none = tt
none_there id (r ∷ rs) none = by_test (same_id id r.id) refl none (none_there id rs)
  where
    by_test : (b : Bool) → same_id id r.id ≡ b → one_if (same_id id r.id) + times id (record_ids rs) ≡ 0
        → (times id (record_ids rs) ≡ 0 → AllByRecursion (λ x. same_id id x.id ≡ false) rs) → AllByRecursion (λ x. same_id id x.id ≡ false) (r ∷ rs)
    by_test true e h rest = absurd (let h' : 1 + times id (record_ids rs) ≡ 0 = rw e at h in omega (arith, h'))
    by_test false e h rest = (e, rest (omega (arith, h)))

apart_records : (rs : List Record) → ((id : Id) → times id (record_ids rs) ≤ 1) → IsDistinct same_record rs
unfolding IsDistinct
apart_records [] once = tt
apart_records (r ∷ rs) once = (
  none_there r.id rs
      (let h : one_if (same_id r.id r.id) + times r.id (record_ids rs) ≤ 1 = once r.id in
      let h' : 1 + times r.id (record_ids rs) ≤ 1 = rw (same_id_refl r.id) at h in
      omega (arith, h')),
  apart_records rs (λ id. let h : one_if (same_id id r.id) + times id (record_ids rs) ≤ 1 = once id in omega (arith, h)),
)

-- ---- what is listed

abbrev is_listed : List Id → Record → Bool
is_listed ids r = list_any (same_id r.id) ids

unlisted : (id : Id) (p : Record → Bool) (rs : List Record) → AllByRecursion (λ r. same_id id r.id ≡ false) rs → list_any (same_id id) (record_ids (filter p rs)) ≡ false
unlisted id p [] apart = refl
unlisted id p (r ∷ rs) apart = by_test (p r) refl (unlisted id p rs apart.1)
  where
    by_test : (b : Bool) → p r ≡ b → list_any (same_id id) (record_ids (filter p rs)) ≡ false → list_any (same_id id) (record_ids (filter p (r ∷ rs))) ≡ false
    by_test true e rest = rw (e, apart.0) rest
    by_test false e rest = rw e rest

-- of different records those are listed that pass
listed_passing : (p : Record → Bool) (rs : List Record) → IsDistinct same_record rs → AllByRecursion (λ r. is_listed (record_ids (filter p rs)) r ≡ p r) rs
unfolding IsDistinct
listed_passing p [] apart = tt
listed_passing p (x ∷ rs) apart = (
  first (p x) refl,
  all_more _ _ rs (λ r both. later r (p x) refl both.0 both.1) (all_both (λ r. same_record x r ≡ false) (λ r. is_listed (record_ids (filter p rs)) r ≡ p r) rs apart.0 (listed_passing p rs apart.1)),
)
  where
    first : (b : Bool) → p x ≡ b → is_listed (record_ids (filter p (x ∷ rs))) x ≡ p x
    first true e = rw (e, same_id_refl x.id) refl
    first false e = rw e (unlisted x.id p rs apart.0)

    later : (r : Record) (b : Bool) → p x ≡ b → same_id x.id r.id ≡ false → is_listed (record_ids (filter p rs)) r ≡ p r → is_listed (record_ids (filter p (x ∷ rs))) r ≡ p r
    later r true e differ h = rw (e, turned x.id r.id differ) h
    later r false e differ h = rw e h

-- ---- filters

filter_alike : (p q : Record → Bool) (rs : List Record) → AllByRecursion (λ r. p r ≡ q r) rs → filter p rs ≡ filter q rs
filter_alike p q [] alike = refl
filter_alike p q (r ∷ rs) alike = by_test (q r) refl (filter_alike p q rs alike.1)
  where
    by_test : (b : Bool) → q r ≡ b → filter p rs ≡ filter q rs → filter p (r ∷ rs) ≡ filter q (r ∷ rs)
    by_test true e rest = rw (alike.0, e) (ap (λ xs. r ∷ xs) rest)
    by_test false e rest = rw (alike.0, e) rest

filter_twice : (p q : Record → Bool) (rs : List Record) → filter p (filter q rs) ≡ filter (λ r. q r && p r) rs
filter_twice p q [] = refl
filter_twice p q (r ∷ rs) = by_test (q r) refl (filter_twice p q rs)
  where
    by_other : (b : Bool) → q r ≡ true → p r ≡ b → filter p (filter q rs) ≡ filter (λ x. q x && p x) rs → filter p (filter q (r ∷ rs)) ≡ filter (λ x. q x && p x) (r ∷ rs)
    by_other true e f rest = rw (e, f) (ap (λ xs. r ∷ xs) rest)
    by_other false e f rest = rw (e, f) rest

    by_test : (b : Bool) → q r ≡ b → filter p (filter q rs) ≡ filter (λ x. q x && p x) rs → filter p (filter q (r ∷ rs)) ≡ filter (λ x. q x && p x) (r ∷ rs)
    by_test true e rest = by_other (p r) e refl rest
    by_test false e rest = rw e rest

filter_all : (p : Record → Bool) (rs : List Record) → ((r : Record) → p r ≡ true) → filter p rs ≡ rs
filter_all p [] all = refl
filter_all p (r ∷ rs) all = rw (all r) (ap (λ xs. r ∷ xs) (filter_all p rs all))

-- ---- what is shown

abbrev is_left : List Id → Record → Bool
is_left ids r = not (is_listed ids r)

-- it is left, and due
abbrev is_passing : List Id → ℕ → Record → Bool
is_passing ids until r = is_left ids r && is_due until r

left_after : (a d : Bool) → (not a && not d) ≡ not (a || (not a && d))
left_after true d = refl
left_after false d = refl

-- an archive of what is left
archive_left : (until : ℕ) (ids : List Id) (shown all : List Record) → IsDistinct same_record all → shown ≡ filter (is_left ids) all
    → filter (is_retained until) shown ≡ filter (is_left (ids ++ record_ids (filter (is_due until) shown))) all
archive_left until ids shown all apart is =
    ap (filter (is_retained until)) is
    ∙ (filter_twice (is_retained until) (is_left ids) all ∙ filter_alike _ (is_left (ids ++ record_ids (filter (is_due until) shown))) all (all_more _ _ all each (listed_passing (is_passing ids until) all apart)))
  where
    due : filter (is_due until) shown ≡ filter (is_passing ids until) all
    due = ap (filter (is_due until)) is ∙ filter_twice (is_due until) (is_left ids) all

    each : (r : Record) → is_listed (record_ids (filter (is_passing ids until) all)) r ≡ is_passing ids until r
        → (is_left ids r && is_retained until r) ≡ is_left (ids ++ record_ids (filter (is_due until) shown)) r
    each r h =
        left_after (is_listed ids r) (is_due until r)
        ∙ (ap (λ b. not (is_listed ids r || b)) (sym h)
        ∙ (ap (λ (xs : List Record). not (is_listed ids r || is_listed (record_ids xs) r)) (sym due)
        ∙ ap not (sym (list_any-append (same_id r.id) ids (record_ids (filter (is_due until) shown))))))

-- a new record wasn't archived
none_listed : (id : Id) (ids : List Id) → times id ids ≡ 0 → list_any (same_id id) ids ≡ false
none_listed id [] none = refl
none_listed id (x ∷ ids) none = by_test (same_id id x) refl none (none_listed id ids)
  where
    by_test : (b : Bool) → same_id id x ≡ b → one_if (same_id id x) + times id ids ≡ 0 → (times id ids ≡ 0 → list_any (same_id id) ids ≡ false) → list_any (same_id id) (x ∷ ids) ≡ false
    by_test true e h rest = absurd (let h' : 1 + times id ids ≡ 0 = rw e at h in omega (arith, h'))
    by_test false e h rest = rw e (rest (omega (arith, h)))

new_left : (r : Record) (T : Trace) → times r.id (record_ids (resumed T ++ (records T ++ r ∷ []))) ≤ 1 → shown_records T ≡ filter (is_left (archived T)) (all_records T)
    → shown_records T ++ r ∷ [] ≡ filter (is_left (archived T)) (resumed T ++ (records T ++ r ∷ []))
new_left r T once is =
    rw (sym (append_assoc (resumed T) (records T) (r ∷ [])))
    (ap (λ xs. xs ++ r ∷ []) is ∙ (ap (λ xs. filter (is_left (archived T)) (all_records T) ++ xs) here ∙ sym (filter-append (is_left (archived T)) (all_records T) (r ∷ []))))
  where
    here : r ∷ [] ≡ filter (is_left (archived T)) (r ∷ [])
    here =
        let own = same_id_refl r.id in
        let more = times_more r.id r T in
        let more' : times r.id (record_ids (resumed T ++ (records T ++ r ∷ []))) ≡ times r.id (record_ids (all_records T)) + 1 = rw own at more in
        let both = times_archived T r.id in
        let none : list_any (same_id r.id) (archived T) ≡ false = none_listed r.id (archived T) (omega (arith, more', both, once)) in
        rw none refl

shown_left : (T : Trace) → ((id : Id) → times id (record_ids (all_records T)) ≤ 1) → shown_records T ≡ filter (is_left (archived T)) (all_records T)
shown_left [] once = refl
shown_left (item ∷ T) once = of_item item once (shown_left T)
  where
    of_item : (item : Item) → ((id : Id) → times id (record_ids (all_records (item ∷ T))) ≤ 1)
        → (((id : Id) → times id (record_ids (all_records T)) ≤ 1) → shown_records T ≡ filter (is_left (archived T)) (all_records T))
        → shown_records (item ∷ T) ≡ filter (is_left (archived (item ∷ T))) (all_records (item ∷ T))
    of_item (Resumed counts rs) once rest = sym (filter_all (is_left []) (rs ++ records T) (λ r. refl))
    of_item (Ended end) once rest = new_left (record_of end) T (once (record_of end).id) (rest (λ id. let h = once id in let more = times_more id (record_of end) T in omega (arith, h, more)))
    of_item (Fired r) once rest = new_left r T (once r.id) (rest (λ id. let h = once id in let more = times_more id r T in omega (arith, h, more)))
    of_item (Archived until at) once rest =
        archive_left until (archived T) (shown_records T) (all_records T) (apart_records (all_records T) once) (rest once)
        ∙ ap (λ ids. filter (is_left ids) (all_records T)) (sym (map-append (λ r. r.id) (archived_records T) (filter (is_due until) (shown_records T))))
    of_item item once rest = rest once

pub shown_or_archived : (T : Trace) → IsSound T → AreShownOrArchived T
shown_or_archived T sound = record {
  once = λ id. records_once T id sound;
  parts = λ id. times_archived T id;
  shown = shown_left T (λ id. records_once T id sound);
}

all_left : (P : Record → Type 0) (p : Record → Bool) (rs : List Record) → AllByRecursion P rs → AllByRecursion P (filter p rs)
all_left P p [] all = tt
all_left P p (r ∷ rs) all = by_test (p r) refl (all_left P p rs all.1)
  where
    by_test : (b : Bool) → p r ≡ b → AllByRecursion P (filter p rs) → AllByRecursion P (filter p (r ∷ rs))
    by_test true e rest = rw e (all.0, rest)
    by_test false e rest = rw e rest

-- what is true of all records is true of those that are shown
pub all_shown : (P : Record → Type 0) (T : Trace) → IsSound T → AllByRecursion P (all_records T) → AllByRecursion P (shown_records T)
all_shown P T sound all = subst (λ (rs : List Record). AllByRecursion P rs) (sym (shown_or_archived T sound).shown) (all_left P (λ r. not (was_archived T r)) (all_records T) all)
