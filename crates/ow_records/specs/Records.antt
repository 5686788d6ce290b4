-- The records of the activations that have ended: what is found among them, and what a list shows.
use Rattle.std.specs.Prelude.{ℕ, Bool, List, [], ◌∷◌, fold, filter, map, take, drop, reverse, nat_le, not, if◌then◌else◌}
use Rattle.std.specs.Ordering.{is_lt}
use Rattle.std.specs.Str.{bytes_eq}
use Rattle.ow_value.specs.Value.{V, text_cmp}
use Rattle.ow_records.specs.declared.ids.Id.{Id}
use Rattle.ow_records.specs.declared.record.Record.{Record}
use Rattle.ow_records.specs.Id.{same_id}
use Rattle.ow_records.specs.Written.{summary_value}

-- what records are seen as
pub record RecordsView : Type 0 where
  -- in the order in which their activations ended
  pub items : List Record
  -- the number of further records that there is memory for
  pub room : ℕ

-- whether the record is that of the activation
abbrev pub is_of_id : Id → Record → Bool
is_of_id id r = same_id r.id id

-- whether the activation was charged to the namespace
abbrev pub is_in : List ℕ → Record → Bool
is_in namespace r = bytes_eq namespace r.namespace

-- whether the activation ended at this moment or before it
abbrev pub is_due : ℕ → Record → Bool
is_due until r = nat_le r.span.end until

-- whether it ended after this moment
abbrev pub is_retained : ℕ → Record → Bool
is_retained until r = not (is_due until r)

-- ---- order

-- the record before the first whose key is greater
abbrev pub put_by : (Record → List ℕ) → Record → List Record → List Record
put_by key r [] = r ∷ []
put_by key r (x ∷ xs) = if is_lt (text_cmp (key r) (key x)) then r ∷ x ∷ xs else x ∷ put_by key r xs

-- the records in the order of their keys; those of one key stay in their order
abbrev pub sorted_by : (Record → List ℕ) → List Record → List Record
sorted_by key rs = fold (λ xs r. put_by key r xs) [] rs

-- ids are ordered by the numbers of their namespaces, and then by their counts
abbrev pub id_numbers : Id → List ℕ
id_numbers id = id.namespace ∷ id.count ∷ []

abbrev pub id_key : Record → List ℕ
id_key r = id_numbers r.id

-- ---- lists

-- the summaries of the records of the namespace, the greatest id first, without the first `skip`, and at most `limit`
abbrev pub listing : List ℕ → ℕ → ℕ → List Record → List V
listing namespace skip limit rs = map summary_value (take limit (drop skip (reverse (sorted_by id_key (filter (is_in namespace) rs)))))
