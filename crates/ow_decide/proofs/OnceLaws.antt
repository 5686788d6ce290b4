-- In a sound trace no two records have one id, those of an earlier run among them: so reads are answered of its records.
use Rattle.std.proofs.Common.{◌≡◌, ◌∙◌, ◌++◌, ◌+◌, ◌≤◌, Bool, true, false, List, [], ◌∷◌, Result, length, map, refl, sym, ap, arith, subst}
use Rattle.std.specs.List.{filter}
use Rattle.ow_value.specs.declared.val.Val.{Val}
use Rattle.ow_entity.specs.declared.rows.Row.{Row}
use Rattle.ow_http.specs.Parts.{Parts}
use Rattle.ow_http.specs.declared.reason.Reason.{Reason}
use Rattle.ow_records.specs.Id.{same_id}
use Rattle.ow_records.specs.Records.{is_of_id}
use Rattle.ow_records.specs.declared.ids.Id.{Id}
use Rattle.ow_records.specs.declared.record.Record.{Record}
use Rattle.ow_floor.specs.Laws.{IsSound, Stands, times}
use Rattle.ow_floor.specs.Trace.{Trace, shown_records, records, resumed}
use Rattle.ow_floor.specs.View.{Shown}
use Rattle.ow_floor.proofs.Archives.{shown_or_archived}
use Rattle.ow_commits.proofs.Ending.{alike}
use Rattle.ow_reads.specs.Reading.{read_done, shown_of}
use Rattle.ow_reads.specs.View.{AreOnce, view_over}
use Rattle.ow_reads.specs.declared.acts.Reading.{Reading}
use Rattle.ow_tenant.specs.declared.entries.Holder.{Holder}
use Rattle.ow_decide.specs.Sight.{Sight, view_of}

times_append : (id : Id) (xs ys : List Record) → times id (map (λ r. r.id) (xs ++ ys)) ≡ times id (map (λ r. r.id) xs) + times id (map (λ r. r.id) ys)
times_append id [] ys = omega arith
times_append id (x ∷ xs) ys = let h = times_append id xs ys in omega (arith, h)

-- an id appears at most once among the records
recorded_once : (T : Trace) (id : Id) → IsSound T → times id (map (λ r. r.id) (shown_records T)) ≤ 1
recorded_once T id sound =
    let both = shown_or_archived T sound in
    let parts = both.parts id in
    let once = both.once id in
    omega (arith, parts, once)

-- ---- how many records have the id

turned : (x y : Id) → same_id x y ≡ same_id y x
turned x y = by_test (same_id x y) refl
  where
    by_test : (b : Bool) → same_id x y ≡ b → same_id x y ≡ same_id y x
    by_test true e = e ∙ sym (alike x y e)
    by_test false e = by_other (same_id y x) refl
      where
        by_other : (c : Bool) → same_id y x ≡ c → same_id x y ≡ same_id y x
        by_other true f = let h = alike y x f in cc
        by_other false f = e ∙ sym f

counted : (id : Id) (rs : List Record) → length (filter (is_of_id id) rs) ≡ times id (map (λ r. r.id) rs)
counted id [] = refl
counted id (r ∷ rs) = by_test (same_id id r.id) refl (counted id rs)
  where
    by_test : (b : Bool) → same_id id r.id ≡ b → length (filter (is_of_id id) rs) ≡ times id (map (λ x. x.id) rs) → length (filter (is_of_id id) (r ∷ rs)) ≡ times id (map (λ x. x.id) (r ∷ rs))
    by_test true e rest = rw (turned r.id id ∙ e, e) (omega (arith, rest))
    by_test false e rest = rw (turned r.id id ∙ e, e) (omega (arith, rest))

-- no two records of a sound trace have one id
pub all_once : (T : Trace) → IsSound T → AreOnce (shown_records T)
all_once T sound id = subst (λ n. n ≤ 1) (sym (counted id (shown_records T))) (recorded_once T id sound)

-- ---- what a read over a floor shows

pub read_of : (S : Sight) (h : Holder) (rs : List Row) (ended : List Record) (v : Shown) (reading : Reading) (p : Parts) (r s : Result Val Reason) → S.rows ≡ rs → ended ≡ v.records → Stands v S.trace → r ≡ s
    → (AreOnce ended → shown_of r ≡ read_done (view_over rs ended h) reading p) → shown_of s ≡ read_done (view_of S h) reading p
read_of S h rs ended v reading p r s rows_are records_are stands same shows =
    let is : ended ≡ shown_records S.trace = records_are ∙ ap (λ (w : Shown). w.records) stands.is in
    let once : AreOnce ended = subst (λ (xs : List Record). AreOnce xs) (sym is) (all_once S.trace stands.sound) in
    ap shown_of (sym same) ∙ (shows once ∙ (ap (λ (xs : List Row). read_done (view_over xs ended h) reading p) (sym rows_are) ∙ ap (λ (xs : List Record). read_done (view_over S.rows xs h) reading p) is))
