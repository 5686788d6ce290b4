-- A book with its tallies of what isn't booked.
use Rattle.std.specs.Prelude.{◌≡◌, ◌+◌, ◌-◌, ◌*◌, ◌^◌, ◌<◌, ◌≤◌, ◌==◌, ℕ, List, [], ◌∷◌, max, if◌then◌else◌}
use Rattle.ow_floor.specs.Trace.{Trace}
use Rattle.ow_floor.specs.Owed.{owed}
use Rattle.ow_hall.specs.declared.entry.Entry.{Entry}
use Rattle.ow_decide.specs.declared.events.Event.{Event}
use Rattle.ow_decide.specs.declared.events.Event.TheVariants as events
use Rattle.ow_decide.specs.declared.events.Told.{Told}
use Rattle.ow_hall.specs.declared.posting.Posting.{Posting}
use Rattle.ow_hall.specs.declared.posting.Posting.TheVariants.{Booked, Quiet, Denied, Unbooked}
use Rattle.ow_tenant.specs.Table.{Table}
use Rattle.ow_hall.specs.History.{History, answer, counted, event_bytes, least_moment, moment, posting, told_bytes}

-- the entries, the newest first; how many calls met a fault of the store; how many calls of `next` and how many events of
-- runners weren't booked
pub record Ledger : Type 0 where
  pub entries : History
  pub stored : ℕ
  pub quiet : ℕ
  pub denied : ℕ

-- nothing is booked or tallied
abbrev pub no_entries : Ledger
no_entries = record { entries = []; stored = 0; quiet = 0; denied = 0 }

-- a tally stays at the greatest u64 once it is there
unfoldable pub one_more : ℕ → ℕ
one_more n = if n == 2 ^ 64 - 1 then n else n + 1

-- an entry is booked, tallied, or neither
abbrev pub posted_as : Posting → Entry → Ledger → Ledger
posted_as Booked e L = record L { entries = e ∷ L.entries }
posted_as Quiet e L = record L { quiet = one_more L.quiet }
posted_as Denied e L = record L { denied = one_more L.denied }
posted_as Unbooked e L = L

-- how many entries it takes, for private clauses
abbrev pub cost : Posting → ℕ
cost Booked = 1
cost other = 0

-- the ledger after an answer
abbrev pub posted : Ledger → ℕ → Event → Told → Ledger
posted L at event t = posted_as (posting L.entries t) (record { at = at; event = event; answer = t }) L

-- the moment of an opening over kept rows: none of theirs is later
abbrev pub opening_moment : List (List ℕ × List ℕ) → ℕ → ℕ
opening_moment rows at = max (least_moment (events.Opened rows)) (moment [] at)

-- the ledger of a service that was just opened over kept rows
abbrev pub opened : Table → List (List ℕ × List ℕ) → ℕ → Ledger
opened t rows at = posted no_entries (opening_moment rows at) (events.Opened rows) (answer t [] (opening_moment rows at) (events.Opened rows))

-- a call met a fault of the store
abbrev pub faulted : Ledger → Ledger
faulted L = record L { stored = one_more L.stored }

-- an entry has its bytes, room, and a count, with `owed` more entries after it that count 64 each, for private clauses
pub record IsReady (B : History) (room owed : ℕ) (event : Event) (t : Told) (bytes : ℕ) : Type 0 where
  pub bytes_are : bytes ≡ event_bytes event + told_bytes t
  pub within : owed + 1 ≤ room
  pub fits : (counted B + (64 + bytes)) + 64 * owed < 2 ^ 64

-- there is room for each entry that a later beginning, reply or loss of a run, or going of a container, may need, and a count
pub record HasRoom (T : Trace) (L : Ledger) (room : ℕ) : Type 0 where
  pub within : owed T ≤ room
  pub fits : counted L.entries + 64 * owed T < 2 ^ 64

-- a book of the code: its ledger, and for how many more entries there is room
pub record BookView : Type 0 where
  pub ledger : Ledger
  pub room : ℕ
