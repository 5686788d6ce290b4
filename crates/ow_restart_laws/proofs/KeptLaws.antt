-- What is kept of rows and a trace that last, lasts.
use Rattle.std.proofs.Common.{◌≡◌, ◌≤◌, ◌-◌, ◌&&◌, ℕ, true, List, [], ◌∷◌, filter, map, max, nat_le, Option, Some, None, IfSome, refl, arith}
use Rattle.std.specs.List.{AllByRecursion, cons_option, filter_map}
use Rattle.std.proofs.lemmas.Bool.{and_from, le-leb}
use Rattle.ow_floor.specs.declared.activations.Open.{Open}
use Rattle.ow_floor.specs.declared.activations.State.{State}
use Rattle.ow_floor.specs.declared.runs.Run.{Run}
use Rattle.ow_floor.specs.Laws.{IsAmong, IsSound}
use Rattle.ow_floor.specs.Trace.{End, Item, Trace, Resumed, Accepted, Drawn, Ended, Fired, accepted, accepted_after, shown_records, began, drawn, drawn_after, ends, ends_after, fired, fired_after, open_of as opened, record_of, records, records_after, resumed, resumed_after, standing, started}
use Rattle.ow_floor.proofs.Among.{all_among}
use Rattle.ow_floor.proofs.Archives.{all_shown}
use Rattle.ow_floor.proofs.Apart.{all_both as paired}
use Rattle.ow_floor.proofs.Firsts.{all_more}
use Rattle.ow_row_text.specs.declared.item.Item.TheVariants as items
use Rattle.ow_keep.specs.Allowed.{are_durations, is_called, is_duration, is_formed, is_moment}
use Rattle.ow_records.specs.Notes.{kind_of}
use Rattle.ow_keep.specs.declared.allowed.TheConstants.{GREATEST_MOMENT}
use Rattle.ow_keep.proofs.Opens.{opens_shallow}
use Rattle.ow_commits.specs.Kept.{count_item, is_kept, unrecorded}
use Rattle.ow_commits.specs.Shallow.{IsShallowEnding}
use Rattle.ow_commits.proofs.Allowing.{first_of, rest_of, to_mapped}
use Rattle.ow_commits.proofs.Ids.{all_both, all_put}
use Rattle.ow_commits.proofs.Knowing.{picked}
use Rattle.ow_commits.proofs.Shallow.{ends_shallow}
use Rattle.ow_records.specs.declared.activations.Activation.{Activation}
use Rattle.ow_records.specs.declared.ids.Id.{Id}
use Rattle.ow_records.specs.declared.outcomes.Ending.{Ending}
use Rattle.ow_records.specs.declared.outcomes.Ending.TheVariants.{Abandoned, Composed, Overran, Replied}
use Rattle.ow_records.specs.declared.record.Record.{Record}
use Rattle.ow_records.specs.declared.unrecorded.Unrecorded.{Unrecorded}
use Rattle.ow_records.specs.Record.{init_of, start_of, wait_of}
use Rattle.ow_records.specs.Unrecorded.{unrecorded_of}
use Rattle.ow_restart_laws.specs.Lasting.{AreEarly, IsDue, IsEarly, IsLasting, IsLastingRow, IsTimely}
use Rattle.ow_restart_laws.specs.Laws.{KeptLasts}

-- ---- counts

abbrev AreCounted : List Id → Type 0
AreCounted ids = AllByRecursion (λ (id : Id). 1 ≤ id.count) ids

counted : (item : Item) (ids : List Id) → IsEarly item → AreCounted ids → AreCounted (drawn_after item ids)
counted (Resumed counts rs) ids h all = h.0
counted (Accepted a) ids h all = all_put (λ (id : Id). 1 ≤ id.count) a.id ids h.counted all
counted (Drawn id at) ids h all = all_put (λ (id : Id). 1 ≤ id.count) id ids h all
counted item ids h all = all

all_counted : (T : Trace) → AreEarly T → AreCounted (drawn T)
all_counted [] early = tt
all_counted (item ∷ T) early = counted item (drawn T) early.0 (all_counted T early.1)

count_lasts : (id : Id) → 1 ≤ id.count → IsLasting (count_item id)
count_lasts id h = record { shallow = refl; fit = le-leb 1 id.count h }

-- ---- what was accepted

timely : (item : Item) (xs : List Activation) → IsEarly item → AllByRecursion IsTimely xs → AllByRecursion IsTimely (accepted_after item xs)
timely (Accepted a) xs h all = all_both IsTimely xs (a ∷ []) all (h, tt)
timely item xs h all = all

pub all_timely : (T : Trace) → AreEarly T → AllByRecursion IsTimely (accepted T)
all_timely [] early = tt
all_timely (item ∷ T) early = timely item (accepted T) early.0 (all_timely T early.1)

open_lasts : (a : Activation) → IsTimely a → IsLasting (items.Open (unrecorded_of a))
open_lasts a h = record {
  shallow = opens_shallow (unrecorded_of a);
  fit =
      let called = is_called a.cause a.action.version a.binding in
      let formed = is_formed a.form (kind_of a.action.exec) in
      and_from (nat_le 1 a.id.count) (is_moment a.at && (called && formed)) (le-leb 1 a.id.count h.counted)
      (and_from (is_moment a.at) (called && formed) (le-leb a.at GREATEST_MOMENT h.early) (and_from called formed h.called h.formed));
}

open_one : (P : Unrecorded → Type 0) (a : Activation) (s : Option State) (rest : List Open) → P (unrecorded_of a) → AllByRecursion P (map (λ (o : Open). unrecorded_of o.task) rest)
    → AllByRecursion P (map (λ (o : Open). unrecorded_of o.task) (cons_option (opened a s) rest))
open_one P a None rest h all = all
open_one P a (Some s) rest h all = (h, all)

-- what holds of all accepted activations holds of the ones that have not ended
open_all : (P : Unrecorded → Type 0) (T : Trace) (xs : List Activation) → AllByRecursion (λ a. P (unrecorded_of a)) xs
    → AllByRecursion P (map (λ (o : Open). unrecorded_of o.task) (filter_map (λ a. opened a (standing T a.id)) xs))
open_all P T [] all = tt
open_all P T (a ∷ xs) all = open_one P a (standing T a.id) (filter_map (λ x. opened x (standing T x.id)) xs) all.0 (open_all P T xs all.1)

opens_last : (T : Trace) → AreEarly T → AllByRecursion (λ u. IsLasting (items.Open u)) (unrecorded T)
opens_last T early = open_all (λ u. IsLasting (items.Open u)) T (accepted T) (all_more IsTimely (λ a. IsLasting (items.Open (unrecorded_of a))) (accepted T) open_lasts (all_timely T early))

-- ---- what was taken over

abbrev pub AreLasting : List Record → Type 0
AreLasting rs = AllByRecursion (λ r. IsLasting (items.Done r)) rs

taken : (item : Item) (rs : List Record) → IsEarly item → AreLasting rs → AreLasting (resumed_after item rs)
taken (Resumed counts rs) xs h all = h.1
taken item xs h all = all

all_taken : (T : Trace) → AreEarly T → AreLasting (resumed T)
all_taken [] early = tt
all_taken (item ∷ T) early = taken item (resumed T) early.0 (all_taken T early.1)

-- ---- what has ended

abbrev IsEarlyEnd : End → Type 0
IsEarlyEnd e = (e.at ≤ GREATEST_MOMENT) × IfSome e.run IsDue × IsShallowEnding e.ending

ended : (item : Item) (es : List End) → IsEarly item → AllByRecursion IsEarlyEnd es → AllByRecursion IsEarlyEnd (ends_after item es)
ended (Ended e) es h all = all_both IsEarlyEnd es (e ∷ []) all (h, tt)
ended item es h all = all

all_ended : (T : Trace) → AreEarly T → AllByRecursion IsEarlyEnd (ends T)
all_ended [] early = tt
all_ended (item ∷ T) early = ended item (ends T) early.0 (all_ended T early.1)

shot : (item : Item) (rs : List Record) → IsEarly item → AreLasting rs → AreLasting (fired_after item rs)
shot (Fired r) rs h all = all_both (λ r. IsLasting (items.Done r)) rs (r ∷ []) all (h, tt)
shot item rs h all = all

all_fired : (T : Trace) → AreEarly T → AreLasting (fired T)
all_fired [] early = tt
all_fired (item ∷ T) early = shot item (fired T) early.0 (all_fired T early.1)

-- what holds of the record of each end, and of each fire, holds of the records
module _ (P : Record → Type 0) where
  abbrev OfEnds : List End → Type 0
  OfEnds es = AllByRecursion (λ e. P (record_of e)) es

  recorded : (item : Item) (es : List End) (fs rs : List Record) → OfEnds (ends_after item es) → AllByRecursion P (fired_after item fs) → (OfEnds es → AllByRecursion P fs → AllByRecursion P rs) → AllByRecursion P (records_after item rs)
  recorded (Ended e) es fs rs all fires rest =
      all_both P rs (record_of e ∷ []) (rest (first_of (λ e. P (record_of e)) es (e ∷ []) all) fires) ((rest_of (λ e. P (record_of e)) es (e ∷ []) all).0, tt)
  recorded (Fired r) es fs rs all fires rest = all_both P rs (r ∷ []) (rest all (first_of P fs (r ∷ []) fires)) ((rest_of P fs (r ∷ []) fires).0, tt)
  recorded item es fs rs all fires rest = rest all fires

  all_recorded : (T : Trace) → OfEnds (ends T) → AllByRecursion P (fired T) → AllByRecursion P (records T)
  all_recorded [] all fires = tt
  all_recorded (item ∷ T) all fires = recorded item (ends T) (fired T) (records T) all fires (λ h k. all_recorded T h k)

start_early : (accepted : ℕ) (ending : Ending) (run : Option Run) → accepted ≤ GREATEST_MOMENT → IfSome run IsDue → start_of accepted ending (started run) ≤ GREATEST_MOMENT
start_early accepted (Replied reply) None h k = h
start_early accepted (Replied reply) (Some r) h k = k.ordered
start_early accepted Overran None h k = h
start_early accepted Overran (Some r) h k = k.ordered
start_early accepted Abandoned run h k = h
start_early accepted (Composed response children) run h k = h

less : (m n most : ℕ) → m ≤ most → nat_le (m - n) most ≡ true
less m n most h = le-leb (m - n) most (omega (arith, h))

wait_short : (accepted : ℕ) (ending : Ending) (start : ℕ) → start ≤ GREATEST_MOMENT → is_duration (wait_of accepted ending start) ≡ true
wait_short accepted (Replied reply) start h = less start accepted GREATEST_MOMENT h
wait_short accepted Overran start h = less start accepted GREATEST_MOMENT h
wait_short accepted Abandoned start h = refl
wait_short accepted (Composed response children) start h = refl

init_by : (ending : Ending) (start : ℕ) (begun : Option ℕ) → IfSome begun (λ at. at ≤ GREATEST_MOMENT) → is_duration (init_of ending start begun) ≡ true
init_by (Replied reply) start None h = refl
init_by (Replied reply) start (Some at) h = less at start GREATEST_MOMENT h
init_by Overran start None h = refl
init_by Overran start (Some at) h = less at start GREATEST_MOMENT h
init_by Abandoned start begun h = refl
init_by (Composed response children) start begun h = refl

began_early : (run : Option Run) → IfSome run IsDue → IfSome (began run) (λ at. at ≤ GREATEST_MOMENT)
began_early None h = tt
began_early (Some r) h = h.began

end_lasts : (e : End) → IsTimely e.task → IsEarlyEnd e → IsLasting (items.Done (record_of e))
end_lasts e h early =
    let start = start_early e.task.at e.ending e.run h.early early.1 in
    let last_moment : ℕ = max (start_of e.task.at e.ending (started e.run)) e.at in
    let last : last_moment ≤ GREATEST_MOMENT = omega (arith, start, early.0) in
    record {
      shallow = ends_shallow e early.2;
      fit = and_from (nat_le 1 e.task.id.count) (is_moment last_moment && (is_called e.task.cause e.task.action.version e.task.binding && are_durations (record_of e).notes)) (le-leb 1 e.task.id.count h.counted)
          (and_from (is_moment last_moment) (is_called e.task.cause e.task.action.version e.task.binding && are_durations (record_of e).notes) (le-leb last_moment GREATEST_MOMENT last)
          (and_from (is_called e.task.cause e.task.action.version e.task.binding) (are_durations (record_of e).notes) h.called
          (and_from (is_duration (record_of e).notes.init_time) (is_duration (record_of e).notes.wait_time)
          (init_by e.ending (start_of e.task.at e.ending (started e.run)) (began e.run) (began_early e.run early.1))
          (wait_short e.task.at e.ending (start_of e.task.at e.ending (started e.run)) start))));
    }

records_last : (T : Trace) → IsSound T → AreEarly T → AreLasting (records T)
records_last T sound early =
    all_recorded (λ r. IsLasting (items.Done r)) T
    (all_more (λ e. IsAmong e.task (accepted T) × IsEarlyEnd e) (λ e. IsLasting (items.Done (record_of e))) (ends T)
    (λ e h. end_lasts e (all_among IsTimely e.task (accepted T) h.0 (all_timely T early)) h.1)
    (paired (λ e. IsAmong e.task (accepted T)) IsEarlyEnd (ends T) sound.known (all_ended T early))) (all_fired T early)

-- so are the records that are shown
pub shown_last : (T : Trace) → IsSound T → AreEarly T → AreLasting (shown_records T)
shown_last T sound early = all_shown (λ r. IsLasting (items.Done r)) T sound (all_both (λ r. IsLasting (items.Done r)) (resumed T) (records T) (all_taken T early) (records_last T sound early))

-- ---- all of it

pub kept_lasts : KeptLasts
kept_lasts rs T sound writable early = (
  record { shallow = refl; fit = refl },
  all_both IsLasting (map count_item (drawn T)) _ (to_mapped IsLasting count_item (drawn T) (all_more (λ (id : Id). 1 ≤ id.count) (λ id. IsLasting (count_item id)) (drawn T) count_lasts (all_counted T early)))
      (all_both IsLasting (map items.Row (filter is_kept rs)) _ (to_mapped IsLasting items.Row (filter is_kept rs) (picked (λ r. IsLasting (items.Row r)) is_kept rs (all_more IsLastingRow (λ r. IsLasting (items.Row r)) rs (λ r h. h.lasts) writable)))
      (all_both IsLasting (map items.Open (unrecorded T)) (map items.Done (shown_records T)) (to_mapped IsLasting items.Open (unrecorded T) (opens_last T early))
      (to_mapped IsLasting items.Done (shown_records T) (shown_last T sound early)))),
)
