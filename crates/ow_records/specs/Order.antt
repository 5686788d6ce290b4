-- For private clauses: the records by their ids, and by their namespaces and then their ids.
use Rattle.std.specs.Prelude.{◌≡◌, ◌≢◌, ◌≤◌, ℕ, Bool, true, false, List, [], ◌∷◌, ◌++◌, length, if◌then◌else◌, Option, Some, None}
use Rattle.std.specs.List.{AllByRecursion}
use Rattle.std.specs.List.Sorted.{IsPartitionPoint}
use Rattle.std.specs.Ordering.{is_le}
use Rattle.std.specs.declared.cmp.Ordering.TheVariants.{Greater}
use Rattle.ow_value.specs.Value.{text_cmp}
use Rattle.ow_records.specs.declared.record.Record.{Record}
use Rattle.ow_records.specs.Records.{id_key, sorted_by}

-- names of one length are adjacent
abbrev pub region : List ℕ → List ℕ
region namespace = length namespace ∷ namespace

abbrev pub region_of : Record → List ℕ
region_of r = region r.namespace

abbrev pub namespace_key : Record → List ℕ
namespace_key r = region_of r ++ id_key r

-- no key is greater than a later one
unfoldable pub Rises : (Record → List ℕ) → List Record → Type 0
Rises key [] = Unit {0}
Rises key (x ∷ xs) = AllByRecursion (λ y. text_cmp (key x) (key y) ≢ Greater) xs × Rises key xs

-- the place after all records whose keys aren't greater
abbrev pub IsBehind : (Record → List ℕ) → List ℕ → List Record → ℕ → Type 0
IsBehind key k xs i = IsPartitionPoint (λ y. is_le (text_cmp (key y) k) ≡ true) (λ y. is_le (text_cmp (key y) k) ≡ false) xs i

-- the first, if it passes
abbrev pub first_if : (Record → Bool) → List Record → Option Record
first_if p [] = None
first_if p (x ∷ xs) = if p x then Some x else None

-- no end is before this moment
abbrev pub AreFrom : ℕ → List Record → Type 0
AreFrom least rs = AllByRecursion (λ r. least ≤ r.span.end) rs

pub record AreKept (by_end by_id by_namespace : List Record) (least : ℕ) : Type 0 where
  pub ids : by_id ≡ sorted_by id_key by_end
  pub namespaces : by_namespace ≡ sorted_by namespace_key by_end
  pub ends : AreFrom least by_end
