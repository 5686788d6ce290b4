-- Laws of what lasts.
use Rattle.std.specs.Prelude.{◌≡◌, ◌≤◌, ◌++◌, ℕ, List, Ok}
use Rattle.std.specs.List.{AllByRecursion}
use Rattle.ow_entity.specs.declared.rows.Row.{Row}
use Rattle.ow_decide.specs.declared.events.Event.{Event}
use Rattle.ow_decide.specs.Decision.{all_changed, others_after}
use Rattle.ow_decide.specs.Decisions.{decide}
use Rattle.ow_decide.specs.Sight.{Sight}
use Rattle.ow_floor.specs.Laws.{IsSound}
use Rattle.ow_floor.specs.Trace.{Trace}
use Rattle.ow_hall.specs.Comes.{kept_of}
use Rattle.ow_hall.specs.History.{History, IsLegal, seen}
use Rattle.ow_decide.specs.Given.{IsGivenEvent}
use Rattle.ow_keep.specs.Judged.{judged}
use Rattle.ow_keep.specs.Known.{IsItem}
use Rattle.ow_keep.specs.declared.allowed.TheConstants.{GREATEST_COUNT, GREATEST_MOMENT}
use Rattle.ow_commits.specs.Fit.{AreCountsSmall, by_key, whole_items}
use Rattle.ow_commits.specs.Kept.{kept_items}
use Rattle.ow_restart_laws.specs.Lasting.{AreEarly, AreLastingOthers, AreWritable, IsLasting}
use Rattle.ow_tenant.specs.Table.{Table, table_of, AreHomes}

-- ---- from event to event

-- rows that last still do after what is decided, where each key's own namespace is a name
abbrev pub RowsLast : Type 0
RowsLast = (S : Sight) (event : Event) → IsGivenEvent event → AreHomes S.tenants → AreWritable S.rows → AreWritable (all_changed (decide S event).changes S.rows)

-- so does what happened, where the moment is within the greatest, and the rows last
abbrev pub TracesLast : Type 0
TracesLast = (S : Sight) (event : Event) → S.moment ≤ GREATEST_MOMENT → AreWritable S.rows → AreEarly S.trace → AreEarly ((decide S event).items ++ S.trace)

-- and so do the archive and the notes, over a sound trace
abbrev pub OthersLast : Type 0
OthersLast = (S : Sight) (event : Event) → IsGivenEvent event → S.moment ≤ GREATEST_MOMENT → IsSound S.trace → AreWritable S.rows → AreEarly S.trace → AreLastingOthers S.others
    → AreLastingOthers (others_after (decide S event).others S.others)

-- each key's own namespace is one in each table that a text makes
abbrev pub TablesHaveHomes : Type 0
TablesHaveHomes = (text : List ℕ) (t : Table) → table_of text ≡ Ok t → AreHomes t

-- ---- of a book

-- what is kept of rows and a sound trace that last, lasts
abbrev pub KeptLasts : Type 0
KeptLasts = (rs : List Row) (T : Trace) → IsSound T → AreWritable rs → AreEarly T → AllByRecursion IsLasting (kept_items rs T)

-- all that is kept of a legal book lasts
abbrev pub BooksLast : Type 0
BooksLast = (t : Table) (B : History) → AreHomes t → IsLegal t B → AllByRecursion IsLasting (kept_items (seen t B).rows (seen t B).trace)

-- so do the archive and the notes
abbrev pub OthersOfBooksLast : Type 0
OthersOfBooksLast = (t : Table) (B : History) → AreHomes t → IsLegal t B → AreLastingOthers (seen t B).others

-- where no count passes the greatest, nor the number of archived records, what is kept of a book is allowed at the next opening. It is read
-- as just what is kept of the book, in the order of the keys
abbrev pub IsAllowedNext : Table → History → Type 0
IsAllowedNext t B = AreCountsSmall (seen t B).trace → (seen t B).others.archive.number ≤ GREATEST_COUNT
    → judged (kept_of (seen t B)) ≡ Ok (by_key (whole_items (seen t B).others (seen t B).rows (seen t B).trace))

-- this holds of each legal book, where each part is as its type guarantees
abbrev pub BooksAreAllowed : Type 0
BooksAreAllowed = (t : Table) (B : History) → AreHomes t → IsLegal t B → AllByRecursion IsItem (whole_items (seen t B).others (seen t B).rows (seen t B).trace) → IsAllowedNext t B
