-- What records count for, by the day on which they start and the namespace that is charged.
use Rattle.std.specs.Prelude.{◌≡◌, ◌+◌, ◌-◌, ◌*◌, ◌/◌, ◌≤◌, ◌&&◌, ◌^◌, ◌<◌, cond, ℕ, Bool, nat_le, nat_lt, List, [], ◌∷◌, length, Option, Some, None}
use Rattle.std.specs.BTreeMap.{is_at}
use Rattle.std.specs.List.{AllByRecursion, filter, sum_by, count_by}
use Rattle.std.specs.List.Sorted.{IsStrictlySortedBy}
use Rattle.std.specs.Map.{keys_of, lookup, values_of}
use Rattle.std.specs.Ordering.{nat_cmp, ordering_then}
use Rattle.std.specs.declared.cmp.Ordering.{Ordering}
use Rattle.ow_value.specs.Value.{text_cmp}
use Rattle.ow_entity.specs.declared.bounds.Limits.{Limits}
use Rattle.ow_records.specs.declared.record.Record.{Record}
use Rattle.ow_usage.specs.declared.totals.Totals.{Totals}

-- ---- one record

-- the day of a moment in milliseconds, counted from 1970-01-01
abbrev pub day_of : ℕ → ℕ
day_of moment = moment / 86400000

-- a day and a namespace
abbrev pub Place : Type 0
Place = ℕ × List ℕ

-- the day on which an activation started, and the namespace that is charged for it
abbrev pub place_of : Record → Place
place_of r = (day_of r.span.start, r.namespace)

-- by the day, then by the bytes of the namespace
abbrev pub place_cmp : Place → Place → Ordering
place_cmp p q = ordering_then (nat_cmp p.0 q.0) (text_cmp p.1 q.1)

-- the record belongs to this place
abbrev pub is_of : Place → Record → Bool
is_of place r = is_at (place_cmp (place_of r)) place

-- it started on one of these days
abbrev pub is_within : ℕ → ℕ → Record → Bool
is_within from to r = nat_le from (day_of r.span.start) && nat_le (day_of r.span.start) to

-- its code is no success
abbrev pub has_failed : Record → Bool
has_failed r = nat_lt 0 r.response.code

-- how long it took, in milliseconds
abbrev pub duration : Record → ℕ
duration r = r.span.end - r.span.start

-- the memory that its action may take, in MB
abbrev pub memory_in : Option Limits → ℕ
memory_in None = 0
memory_in (Some limits) = limits.memory

-- how long it held how much memory, where it was run, in MB times milliseconds
abbrev pub held_for : Option ℕ → Record → ℕ
held_for None r = 0
held_for (Some waited) r = duration r * memory_in r.notes.limits

abbrev pub memory_time : Record → ℕ
memory_time r = held_for r.notes.wait_time r

-- ---- several records

-- how many there are, how many of them failed, how long they took in all, and the memory that they held over time
abbrev pub totals_of : List Record → Totals
totals_of rs = record {
  activations = length rs;
  failed = count_by has_failed rs;
  ms = sum_by duration rs;
  mbms = sum_by memory_time rs;
}

abbrev pub totals_if : List Record → Option Totals
totals_if [] = None
totals_if (r ∷ rs) = Some (totals_of (r ∷ rs))

-- the records that started on one of these days
abbrev pub counted : ℕ → ℕ → List Record → List Record
counted from to rs = filter (is_within from to) rs

-- those of them that belong to this place
abbrev pub counted_at : ℕ → ℕ → Place → List Record → List Record
counted_at from to place rs = filter (is_of place) (counted from to rs)

-- the totals of two
abbrev pub plus : Totals → Totals → Totals
plus a b = record { activations = a.activations + b.activations; failed = a.failed + b.failed; ms = a.ms + b.ms; mbms = a.mbms + b.mbms }

abbrev pub nothing : Totals
nothing = record { activations = 0; failed = 0; ms = 0; mbms = 0 }

abbrev pub or_nothing : Option Totals → Totals
or_nothing None = nothing
or_nothing (Some totals) = totals

-- ---- cells

-- totals by day and namespace
abbrev pub Cells : Type 0
Cells = List (Place × Totals)

-- by day, then by namespace, and none twice
abbrev pub AreInOrder : Cells → Type 0
AreInOrder cells = IsStrictlySortedBy place_cmp (keys_of cells)

-- days of the calendar, in order, for private clauses
abbrev pub AreFit : Cells → Type 0
AreFit cells = AreInOrder cells × AllByRecursion (λ p. p.0 ≤ 2932896) (keys_of cells)

-- at a place
abbrev pub cell_at : Place → Cells → Option Totals
cell_at place cells = lookup (is_at (place_cmp place)) cells

-- the cells of these records, from one day to another: a place has a cell where a record belongs to it, with the totals of all that do
pub record AreCells (rs : List Record) (from to : ℕ) (cells : Cells) : Type 0 where
  pub order : AreInOrder cells
  pub each : (place : Place) → cell_at place cells ≡ totals_if (counted_at from to place rs)

-- the totals over all cells
abbrev pub total : Cells → Totals
total cells = record {
  activations = sum_by (λ t. t.activations) (values_of cells);
  failed = sum_by (λ t. t.failed) (values_of cells);
  ms = sum_by (λ t. t.ms) (values_of cells);
  mbms = sum_by (λ t. t.mbms) (values_of cells);
}

-- a record that a service may keep: its moments are at most the greatest, and its memory at most 512 MB
pub record IsCountable (r : Record) : Type 0 where
  pub start : r.span.start ≤ 253402300799999
  pub end : r.span.end ≤ 253402300799999
  pub memory : memory_in r.notes.limits ≤ 512

-- none of these is more than that of the others, for private clauses
pub record IsPart (a b : Totals) : Type 0 where
  pub activations : a.activations ≤ b.activations
  pub failed : a.failed ≤ b.failed
  pub ms : a.ms ≤ b.ms
  pub mbms : a.mbms ≤ b.mbms

-- there is room for one record more in numbers of 64 and 128 bits, for private clauses
pub record HaveRoom (t : Totals) : Type 0 where
  pub activations : t.activations + 1 < 2 ^ 64
  pub failed : t.failed + 1 < 2 ^ 64
  pub ms : t.ms < 2 ^ 112
  pub mbms : t.mbms < 2 ^ 121

-- the cells have one record more, at its place, for private clauses
pub record HasOneMore (old : Cells) (r : Record) (new : Cells) : Type 0 where
  pub order : AreInOrder new
  pub each : (place : Place) → cell_at place new ≡ cond (is_of place r) (Some (plus (or_nothing (cell_at (place_of r) old)) (totals_of (r ∷ [])))) (cell_at place old)
  pub total : total new ≡ plus (total old) (totals_of (r ∷ []))
