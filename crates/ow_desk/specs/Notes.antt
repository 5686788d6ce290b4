-- What receipts hold of the calls that were made through them.
use Rattle.std.specs.Prelude.{◌≡◌, ◌++◌, ℕ, List, [], ◌∷◌, Option, Some, None, IfSome, length}
use Rattle.ow_tenant.specs.Table.{Table}
use Rattle.ow_decide.specs.declared.events.Event.{Event}
use Rattle.ow_decide.specs.declared.events.Event.TheVariants as events
use Rattle.ow_decide.specs.declared.events.Told.{Told}
use Rattle.ow_decide.specs.declared.events.Told.TheVariants as told
use Rattle.ow_decide.specs.declared.replies.Fired.TheVariants as fires
use Rattle.ow_hall.specs.declared.entry.Entry.{Entry}
use Rattle.ow_hall.specs.declared.posting.Posting.{Posting}
use Rattle.ow_hall.specs.declared.posting.Posting.TheVariants.{Booked, Quiet, Denied, Unbooked}
use Rattle.ow_hall.specs.Comes.{Answers, Fails, Outcome, Wants}
use Rattle.ow_hall.specs.History.{History, answer, counted, is_idle, moment, posting}
use Rattle.ow_hall.specs.Ledger.{one_more}
use Rattle.ow_desk.specs.declared.marks.Denial.{Denial}
use Rattle.ow_desk.specs.declared.marks.Denial.TheVariants as denials
use Rattle.ow_desk.specs.declared.marks.Mark.{Mark}
use Rattle.ow_desk.specs.declared.marks.Mark.TheVariants as marks
use Rattle.ow_desk.specs.declared.placed.Placed.{Placed}
use Rattle.ow_desk.specs.declared.standing.Standing.{Standing}

-- the entries with their places, the marks, and how many calls of `next` and how many events of runners weren't booked
pub record Notes : Type 0 where
  pub entries : List Placed
  pub marks : List Mark
  pub quiet : ℕ
  pub denied : ℕ

abbrev pub no_notes : Notes
no_notes = record { entries = []; marks = []; quiet = 0; denied = 0 }

-- receipts: their notes, and for how many more entries or marks there is room
pub record ReceiptsView : Type 0 where
  pub notes : Notes
  pub room : ℕ

-- ---- one call

-- the mark of a runner's event that was refused
abbrev pub denials_of : Event → List Mark
denials_of (events.Begun run) = marks.Denied (denials.Begun run) ∷ []
denials_of (events.Answered run reply) = marks.Denied (denials.Answered run) ∷ []
denials_of (events.Lost run) = marks.Denied (denials.Lost run) ∷ []
denials_of (events.Gone slot generation) = marks.Denied (denials.Gone slot generation) ∷ []
denials_of event = []

-- the mark of a denial, where there is one, for private clauses
abbrev pub denied_marks : Option Denial → List Mark
denied_marks None = []
denied_marks (Some d) = marks.Denied d ∷ []

-- the mark of a request, or of a fire of the office, that finds the book full. A fire counts no bytes
abbrev pub refused_full : ℕ → Told → Event → List Mark
refused_full counted (told.Full answer) (events.Asked r) = marks.Full counted r.size ∷ []
refused_full counted (told.Fired (fires.Refused reason)) (events.Fired trigger params note) = marks.Full counted 0 ∷ []
refused_full counted t event = []

-- the mark of one of so many bytes, where there is one, for private clauses
abbrev pub full_marks : ℕ → Option ℕ → List Mark
full_marks counted None = []
full_marks counted (Some size) = marks.Full counted size ∷ []

-- the notes with an answer that is posted in this way after these entries
abbrev pub noted_as : Posting → History → Entry → Notes → Notes
noted_as Booked B e n = record n { entries = n.entries ++ record { place = length B; entry = e } ∷ [] }
noted_as Quiet B e n = record n { quiet = one_more n.quiet }
noted_as Denied B e n = record n { marks = n.marks ++ denials_of e.event; denied = one_more n.denied }
noted_as Unbooked B e n = record n { marks = n.marks ++ refused_full (counted B) e.answer e.event }

-- the notes with a call after these entries: its entry with its place where it is booked, a mark or a tally where it is not; a mark where
-- the store failed
abbrev pub noted : History → ℕ → Event → Outcome → Notes → Notes
noted B at event (Answers t) n = noted_as (posting B t) B (record { at = at; event = event; answer = t }) n
noted B at event Wants n = n
noted B at event Fails n = record n { marks = n.marks ++ marks.Stored ∷ [] }

-- what is answered is the one answer that may follow these entries
abbrev pub IsAnswer : Table → History → ℕ → Event → Outcome → Type 0
IsAnswer t B at event (Answers told) = told ≡ answer t B at event
IsAnswer t B at event Wants = Unit {0}
IsAnswer t B at event Fails = Unit {0}

-- a call of a hall at a moment, after whatever entries it has, and its receipt. A caller that locks the hall for that call alone knows just
-- this
pub record WasCalled (at : ℕ) (event : Event) (o : Outcome) (n m : Notes) : Type 0 where
  pub table : Table
  pub before : History
  pub answer_is : IsAnswer table before (moment before at) event o
  pub notes : m ≡ noted before (moment before at) event o n

-- a call at the moment of a clock, where the clock gives one
abbrev pub CalledBy : Option ℕ → Event → Outcome → Notes → Notes → Type 0
CalledBy tells event o n m = (at : ℕ) × IfSome tells (λ t. at ≡ t) × WasCalled at event o n m

-- ---- the state of a book

-- the state of a book of these entries before a call at a moment, for private clauses
pub record IsStanding (B : History) (at : ℕ) (s : Standing) : Type 0 where
  pub place : s.place ≡ length B
  pub moment_is : s.at ≡ moment B at
  pub counted_is : s.counted ≡ counted B
  pub idle : s.idle ≡ is_idle B
