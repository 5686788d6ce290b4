-- How a service ends, and what it leaves.
use Rattle.std.specs.Prelude.{◌≡◌, ◌≤◌, ◌⊎◌, ◌++◌, ℕ, Bool, List, [], ◌∷◌, Option, Some, None, IfSome, IsOk, length, map}
use Rattle.ow_traits.specs.Telling.{Telling}
use Rattle.ow_tenant.specs.Table.{Table}
use Rattle.ow_threads.specs.Tasks.{AllEnd, joined, pending}
use Rattle.ow_floor.specs.declared.answers.Drain.{Drain}
use Rattle.ow_floor.specs.declared.answers.Drain.TheVariants as drains
use Rattle.ow_decide.specs.declared.events.Event.TheVariants as events
use Rattle.ow_decide.specs.declared.events.Told.TheVariants as told
use Rattle.ow_hall.specs.Comes.{Answers, HoldsBook, KeptRows}
use Rattle.ow_hall.specs.Openings.{HasStartCause}
use Rattle.ow_hall.specs.declared.entry.Entry.{Entry}
use Rattle.ow_hall.specs.declared.refusals.StartFault.{StartFault}
use Rattle.ow_hall.specs.declared.refusals.StartFault.TheVariants as starts
use Rattle.ow_hall.specs.History.{IsLegal}
use Rattle.ow_hall.specs.Ledger.{BookView, Ledger, opened}
use Rattle.ow_keep.specs.Judged.{judged}
use Rattle.ow_desk.specs.Notes.{CalledBy, Notes, no_notes}
use Rattle.ow_desk.specs.declared.placed.Placed.{Placed}
use Rattle.ow_audit.specs.Differs.{Differs, Matches}
use Rattle.ow_peer.specs.declared.ending.Ending.{Ending}
use Rattle.ow_serve.specs.declared.accepting.Stopped.{Stopped}
use Rattle.ow_serve.specs.declared.accepting.Stopped.TheVariants as stops
use Rattle.ow_serve.specs.declared.served.ServedEnd.{ServedEnd}
use Rattle.ow_serve.specs.declared.served.ServedEnd.TheVariants as ends
use Rattle.ow_serve.specs.Working.{Leads}
use Rattle.ow_serve.specs.Peers.{AcceptsAll, AllTalk, HasNoPeer, endings_in, filled}

-- ---- the receipts of the service itself

-- the receipts of an opening, whose entry is at the first place of a book
abbrev pub opening_notes : Entry → Notes
opening_notes first = record no_notes { entries = record { place = 0; entry = first } ∷ [] }

-- one drain that answered this
abbrev pub DrainsOnce : Option ℕ → Drain → Notes → Notes → Type 0
DrainsOnce tells drain n m = CalledBy tells events.Drain (Answers (told.Drain drain)) n m

-- one drain that answered that some are still open
abbrev pub StaysOpen : Option ℕ → Notes → Notes → Type 0
StaysOpen tells n m = (many : ℕ) × DrainsOnce tells (drains.StillOpen many) n m

-- such drains, followed by one that answered that all is drained
pub record Drains (tells : Option ℕ) (n m : Notes) : Type 0 where
  pub before : Notes
  pub stays : Leads (StaysOpen tells) n before
  pub recorded : ℕ
  pub drained : DrainsOnce tells (drains.Drained recorded) before m

-- the opening, and these drains
abbrev pub OpensAndDrains : Option ℕ → Notes → Type 0
OpensAndDrains tells n = (first : Entry) × Drains tells (opening_notes first) n

-- the first receipts are these
abbrev pub BeginsOwn : (Notes → Type 0) → List Notes → Type 0
BeginsOwn Own receipts = (own : Notes) × (others : List Notes) × (receipts ≡ own ∷ others) × Own own

-- ---- the opening, among them

-- they begin with this entry, at the first place of a book, for private clauses
abbrev pub BeginsWith : Entry → Notes → Type 0
BeginsWith first n = (rest : List Placed) × (n.entries ≡ record { place = 0; entry = first } ∷ rest)

-- they begin with whatever they began with before, for private clauses
abbrev pub KeepsFirst : Notes → Notes → Type 0
KeepsFirst n m = (first : Entry) → BeginsWith first n → BeginsWith first m

-- it is the oldest entry of a book, for private clauses
abbrev pub IsFirst : Entry → Ledger → Type 0
IsFirst first book = (later : List Entry) × (book.entries ≡ later ++ first ∷ [])

-- where the receipts match the book, the oldest entry of that is the one with which these began, for private clauses
abbrev pub BookBegins : Notes → ServedEnd → Option BookView → Type 0
BookBegins n ends.Closed (Some book) = (first : Entry) → BeginsWith first n → IsFirst first book.ledger
BookBegins n ends.ListenFault (Some book) = (first : Entry) → BeginsWith first n → IsFirst first book.ledger
BookBegins n end book = Unit {0}

-- ---- what is left

-- by why no peer was accepted any more, and how the receipts compare with the book, for private clauses
abbrev pub IsEnd : Stopped → List Notes → Ledger → ServedEnd → Type 0
IsEnd stopped receipts book ends.Closed = (stopped ≡ stops.Closed) × Matches receipts book
IsEnd stopped receipts book ends.ListenFault = (stopped ≡ stops.Fault) × Matches receipts book
IsEnd stopped receipts book (ends.Unmatched difference) = Differs receipts book difference
IsEnd stopped receipts book ends.NoMemory = Unit {0}
IsEnd stopped receipts book end = ⊥

-- the receipts of the service, of the peers, and of the others; the peers' endings; and the book, which is a legal one, for private clauses
pub record Leaves (Own : Notes → Type 0) (served : List Notes) (told : List (Option Ending)) (others : List Notes) (stopped : Stopped) (end : ServedEnd) (book : Ledger) (receipts : List Notes) (endings : List Ending) : Type 0 where
  pub own : Notes
  pub receipts_are : receipts ≡ own ∷ (served ++ others)
  pub owns : Own own
  pub endings_are : endings ≡ endings_in told
  pub table : Table
  pub legal : IsLegal table book.entries
  pub is_end : IsEnd stopped receipts book end

-- where there is a book; there is none only where memory ran out, for private clauses
abbrev pub Left : (Notes → Type 0) → List Notes → List (Option Ending) → List Notes → Stopped → ServedEnd → Option BookView → List Notes → List Ending → Type 0
Left Own served told others stopped end (Some book) receipts endings = Leaves Own served told others stopped end book.ledger receipts endings
Left Own served told others stopped end None receipts endings = end ≡ ends.NoMemory

-- the tasks numbered below `first` that aren't joined, once the later ones are, for private clauses
abbrev pub earlier : {T : Type 0} → ℕ → List (T × Bool) → List T
earlier first tasks = pending 0 (joined first tasks)

-- the results of the tasks from `first` on fill the seats, and the results of the earlier ones follow; or memory ran out
-- (for private clauses)
abbrev pub Closes : {T D : Type 0} → (Notes → Type 0) → (T → D → Type 0) → (D → Notes) → (D → Option Ending) → ℕ → List (T × Bool) → List (Option D) → Stopped → ServedEnd → Option BookView → List Notes → List Ending → Type 0
Closes Own task_ends notes ending first tasks seats stopped end book receipts endings = (end ≡ ends.NoMemory)
    ⊎ ((peers : List _) × (others : List _) × AllEnd task_ends (pending first tasks) peers × AllEnd task_ends (earlier first tasks) others
    × Left Own (map notes (filled seats peers)) (map ending (filled seats peers)) (map notes others) stopped end book receipts endings)

-- ---- the opening

abbrev pub unopened : StartFault → ServedEnd
unopened (starts.BadKept key) = ends.BadKept key
unopened starts.StoreFault = ends.StoreFault
unopened starts.NoMemory = ends.NoMemory

-- an end of a service that was opened, for private clauses
abbrev pub IsOpenedEnd : ServedEnd → Type 0
IsOpenedEnd ends.StoreFault = ⊥
IsOpenedEnd (ends.BadKept key) = ⊥
IsOpenedEnd end = Unit {0}

-- why a service wasn't opened; the store is handed back then, and its rows stay
abbrev pub IsUnopened : {P : Type 0} → (P → Telling) → P → ServedEnd → Option P → Type 0
IsUnopened telling store ends.StoreFault (Some back) = HasStartCause telling store back starts.StoreFault × ((telling back).rows ≡ (telling store).rows) × ((telling back).old_rows ≡ (telling store).old_rows)
IsUnopened telling store ends.StoreFault None = ⊥
IsUnopened telling store (ends.BadKept key) (Some back) = HasStartCause telling store back (starts.BadKept key) × ((telling back).rows ≡ (telling store).rows) × ((telling back).old_rows ≡ (telling store).old_rows)
IsUnopened telling store (ends.BadKept key) None = ⊥
IsUnopened telling store end back = Unit {0}

-- a service that was opened was opened over rows that are allowed, where the store reports them
abbrev pub IsOpenedOver : KeptRows → ServedEnd → Type 0
IsOpenedOver told ends.StoreFault = Unit {0}
IsOpenedOver told (ends.BadKept key) = Unit {0}
IsOpenedOver told ends.NoMemory = Unit {0}
IsOpenedOver told end = IfSome told (λ rows. IsOk (judged rows))

-- a book goes on from that of the opening over this office table, at the moment of the clock, where it reports that, and over the rows
-- that the store reported, where it reports them; these are allowed
pub record OpensOver (tells : Option ℕ) (told : KeptRows) (t : Table) (book : Ledger) : Type 0 where
  pub rows : List (List ℕ × List ℕ)
  pub told_are : IfSome told (λ kept. rows ≡ kept)
  pub allowed : IsOk (judged rows)
  pub now : ℕ
  pub moment : IfSome tells (λ m. now ≡ m)
  pub later : List Entry
  pub entries : book.entries ≡ later ++ (opened t rows now).entries

-- where the receipts match the book, it does: a service goes on from what its store keeps
abbrev pub BookOpens : Option ℕ → KeptRows → Table → ServedEnd → Option BookView → Type 0
BookOpens tells told t ends.Closed (Some book) = OpensOver tells told t book.ledger
BookOpens tells told t ends.ListenFault (Some book) = OpensOver tells told t book.ledger
BookOpens tells told t end book = Unit {0}

-- ---- the store

-- where the store reports its rows, they are what is kept of the book, which is a legal one; where there is no book, of a legal one
abbrev pub KeepsBook : KeptRows → Option BookView → Type 0
KeepsBook told (Some book) = (t : Table) × IsLegal t book.ledger.entries × HoldsBook told t book.ledger
KeepsBook told None = (t : Table) × (L : Ledger) × IsLegal t L.entries × HoldsBook told t L

-- by the end, where the store is handed back: its rows stay where the service wasn't opened
abbrev pub LeavesStore : {P : Type 0} → (P → Telling) → P → ServedEnd → Option P → Option BookView → Type 0
LeavesStore telling store ends.StoreFault back book = IfSome back (λ s. (telling s).rows ≡ (telling store).rows)
LeavesStore telling store (ends.BadKept key) back book = IfSome back (λ s. (telling s).rows ≡ (telling store).rows)
LeavesStore telling store ends.NoMemory back book = IfSome back (λ s. ((telling s).rows ≡ (telling store).rows) ⊎ KeepsBook (telling s).rows book)
LeavesStore telling store end back book = IfSome back (λ s. KeepsBook (telling s).rows book)

-- ---- the service

-- after the last peer: the receipts are the book, which is a legal one; the first are the service's own; each peer that was accepted
-- has its receipts and its ending; and the others did their work
pub record IsWhole {K : Type 0} (Own : Notes → Type 0) (Talks : K → Notes → Ending → Type 0) (Work : List Notes → Type 0) (old new : Option (List K)) (book : Ledger) (receipts : List Notes) (endings : List Ending) : Type 0 where
  pub matches : Matches receipts book
  pub table : Table
  pub legal : IsLegal table book.entries
  pub peers : List K
  pub accepts : AcceptsAll old peers new
  pub own : Notes
  pub served : List Notes
  pub others : List Notes
  pub receipts_are : receipts ≡ own ∷ (served ++ others)
  pub owns : Own own
  pub talk : AllTalk Talks peers served endings
  pub work : Work others

-- by the end; no more than `most` peers came
abbrev pub Serves : {K : Type 0} → (Notes → Type 0) → (K → Notes → Ending → Type 0) → (List Notes → Type 0) → Option (List K) → Option (List K) → ℕ → ServedEnd → Option BookView → List Notes → List Ending → Type 0
Serves Own Talks Work old new most ends.Closed (Some book) receipts endings =
    IsWhole Own Talks Work old new book.ledger receipts endings × (length endings ≤ most) × (HasNoPeer new ⊎ (length endings ≡ most))
Serves Own Talks Work old new most ends.Closed None receipts endings = ⊥
Serves Own Talks Work old new most ends.ListenFault (Some book) receipts endings =
    IsWhole Own Talks Work old new book.ledger receipts endings × (length endings ≤ most)
Serves Own Talks Work old new most ends.ListenFault None receipts endings = ⊥
Serves Own Talks Work old new most (ends.Unmatched difference) (Some book) receipts endings = Differs receipts book.ledger difference × BeginsOwn Own receipts
Serves Own Talks Work old new most (ends.Unmatched difference) None receipts endings = ⊥
Serves Own Talks Work old new most ends.NoWorker book receipts endings = (new ≡ old) × (endings ≡ [])
Serves Own Talks Work old new most ends.StoreFault book receipts endings = (new ≡ old) × (endings ≡ [])
Serves Own Talks Work old new most (ends.BadKept key) book receipts endings = (new ≡ old) × (endings ≡ [])
Serves Own Talks Work old new most ends.NoMemory book receipts endings = Unit {0}
