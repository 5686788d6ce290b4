-- What is seen when an event comes, and the tests that events of several kinds share. Each test takes what is seen.
use Rattle.std.specs.Prelude.{◌+◌, ℕ, Bool, nat_lt, List, Result, Ok, Err}
use Rattle.ow_entity.specs.declared.rows.Row.{Row}
use Rattle.ow_traits.specs.Changes.{changed}
use Rattle.ow_traits.specs.declared.change_list.Change.{Change}
use Rattle.ow_floor.specs.Trace.{Trace, shown_records, is_draining}
use Rattle.ow_row_text.specs.Bytes.{bytes_of}
use Rattle.ow_commits.specs.Kept.{OthersView, kept, others_bytes}
use Rattle.ow_http.specs.declared.reason.Reason.{Reason}
use Rattle.ow_reads.specs.View.{View, view_over}
use Rattle.ow_tenant.specs.Table.{Table}
use Rattle.ow_tenant.specs.Tenants.{limits_of}
use Rattle.ow_tenant.specs.declared.entries.Holder.{Holder}
use Rattle.ow_counts.specs.Counts.{admitted}
use Rattle.ow_counts.specs.declared.refusal.LimitRefusal.{LimitRefusal}
use Rattle.ow_decide.specs.declared.waits.Wait.{Wait}
use Rattle.ow_decide.specs.Reasons.{book_full, draining, limit_reason, store_full}
use Rattle.ow_reads.specs.Steps.{unless}

-- the office table, the rows, what happened on the floor, who waits for an end, the archive and the notes, how many bytes the book counts,
-- and the moment
pub record Sight : Type 0 where
  pub tenants : Table
  pub rows : List Row
  pub trace : Trace
  pub waits : List Wait
  pub others : OthersView
  pub counted : ℕ
  pub moment : ℕ

-- a book that counts `counted` bytes has no room for an entry of `size` bytes beside its 64: it counts 1,073,741,824 at most
unfoldable pub is_full : ℕ → ℕ → Bool
is_full counted size = nat_lt 1073741824 (counted + 64 + size)

-- the book has room for it
abbrev pub room_for : Sight → ℕ → Result (Unit {0}) Reason
room_for S size = unless (is_full S.counted size) book_full

-- the floor takes calls
abbrev pub takes_calls : Sight → Result (Unit {0}) Reason
takes_calls S = unless (is_draining S.trace) draining

-- this many bytes of keys and texts exceed what the store holds: it holds 1,073,741,824 at most
unfoldable pub is_store_full : ℕ → Bool
is_store_full bytes = nat_lt 1073741824 bytes

-- the store has room for what is kept after these changes, with the archive and the notes
abbrev pub store_room : Sight → List Change → Result (Unit {0}) Reason
store_room S changes = unless (is_store_full (others_bytes S.others + bytes_of (changed changes (kept S.rows S.trace)))) store_full

abbrev pub or_limit : Result (Unit {0}) LimitRefusal → Result (Unit {0}) Reason
or_limit (Ok u) = Ok u
or_limit (Err e) = Err (limit_reason e)

-- the limits allow one more invocation that is charged to a namespace
abbrev pub within_limits : Sight → List ℕ → Result (Unit {0}) Reason
within_limits S namespace = or_limit (admitted S.trace namespace (limits_of namespace S.tenants) S.moment)

-- what the holder of a key sees of the rows, and of the records of what happened
abbrev pub view_of : Sight → Holder → View
view_of S h = view_over S.rows (shown_records S.trace) h
