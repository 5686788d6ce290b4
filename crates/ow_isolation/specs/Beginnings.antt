-- What the reads of a legal book are answered, and what they leave, by the book and each of its beginnings.
use Rattle.std.specs.Prelude.{◌≡◌, ℕ, List, [], ◌∷◌, Option, Some}
use Rattle.ow_http.specs.declared.request.Request.{Request}
use Rattle.ow_reads.specs.View.{View}
use Rattle.ow_reads.specs.declared.acts.Reading.{Reading}
use Rattle.ow_hall.specs.History.{History}
use Rattle.ow_hall.specs.declared.entry.Entry.{Entry}
use Rattle.ow_tenant.specs.Table.{Table}
use Rattle.ow_isolation.specs.Reads.{IsEntryOfRead, finds_full, read_told}
use Rattle.ow_isolation.specs.Views.{view_after}

-- where the entry is of a read with a known key, its answer is what the key's view shows after the entries before it, or that the log is
-- full. Where it is of a read, it leaves the view of each key
pub record IsIsolated (t : Table) (e : Entry) (B : History) : Type 0 where
  pub answered : (r : Request) (reading : Reading) (W : View) → IsEntryOfRead e r reading → view_after t B r.key ≡ Some W → e.answer ≡ read_told (finds_full B r) W reading r
  pub left : (r : Request) (reading : Reading) (key : Option (List ℕ)) → IsEntryOfRead e r reading → view_after t (e ∷ B) key ≡ view_after t B key

-- so is each entry of a book
abbrev pub ReadsAreIsolated : Table → History → Type 0
ReadsAreIsolated t [] = Unit {0}
ReadsAreIsolated t (e ∷ B) = IsIsolated t e B × ReadsAreIsolated t B
