-- The book: events with their moments and answers, the newest first. Every word about it is a recursion over that list.
use Rattle.std.specs.Prelude.{◌≡◌, ◌+◌, ◌++◌, ◌≤◌, ℕ, Bool, true, false, List, [], ◌∷◌, length, map, sum, min, max, Result, Ok, Err}
use Rattle.ow_keep.specs.declared.allowed.TheConstants.{GREATEST_MOMENT}
use Rattle.ow_traits.specs.declared.replies.RunReply.{RunReply}
use Rattle.ow_traits.specs.declared.replies.RunReply.TheVariants as runs
use Rattle.std.specs.List.{AllByRecursion}
use Rattle.ow_entity.specs.declared.rows.Row.{Row}
use Rattle.ow_tables.specs.Builtin.{builtin}
use Rattle.ow_floor.specs.Trace.{Opened, Trace}
use Rattle.ow_hall.specs.declared.entry.Entry.{Entry}
use Rattle.ow_decide.specs.declared.events.Event.{Event}
use Rattle.ow_decide.specs.declared.events.Event.TheVariants as events
use Rattle.ow_decide.specs.declared.events.Told.{Told}
use Rattle.ow_decide.specs.declared.events.Told.TheVariants as told
use Rattle.ow_hall.specs.declared.posting.Posting.{Posting}
use Rattle.ow_hall.specs.declared.posting.Posting.TheVariants.{Booked}
use Rattle.ow_decide.specs.declared.replies.HallCollected.{HallCollected}
use Rattle.ow_decide.specs.declared.replies.HallCollected.TheVariants as collected
use Rattle.ow_decide.specs.declared.replies.Reply.{Reply}
use Rattle.ow_decide.specs.declared.replies.Reply.TheVariants as replies
use Rattle.ow_tenant.specs.Table.{Table}
use Rattle.ow_tenant.specs.Tenants.{pool_of}
use Rattle.ow_decide.specs.declared.waits.Wait.{Wait}
use Rattle.ow_decide.specs.declared.waits.Waits.{Waits}
use Rattle.ow_decide.specs.declared.waits.Waits.TheVariants.{Keep, Add, Clear}
use Rattle.ow_decide.specs.Sight.{Sight}
use Rattle.ow_row_text.specs.declared.item.Item.{Item}
use Rattle.ow_keep.specs.Judged.{judged}
use Rattle.ow_keep.specs.Moments.{greatest_kept_moment}
use Rattle.ow_commits.specs.Kept.{OthersView, no_others}
use Rattle.ow_decide.specs.Decision.{Decision, all_changed, others_after}
use Rattle.ow_decide.specs.Decisions.{decide}
use Rattle.ow_decide.specs.Given.{IsGivenEvent}
use Rattle.ow_hall.specs.Posting.{is_idle_answer, posting_by}

-- the entries, the newest first
abbrev pub History : Type 0
History = List Entry

-- ---- how many bytes it counts

-- of a runner's reply its text and its lines
abbrev pub reply_bytes : RunReply → ℕ
reply_bytes (runs.Answer text logs) = length text + sum (map length logs)
reply_bytes (runs.Exit code logs) = sum (map length logs)
reply_bytes (runs.NoStart text) = length text
reply_bytes runs.Fault = 0

-- of an event those of its request or its reply
abbrev pub event_bytes : Event → ℕ
event_bytes (events.Asked r) = r.size
event_bytes (events.Answered run reply) = reply_bytes reply
event_bytes event = 0

-- of an answer to a request its body
abbrev pub reply_body : Reply → ℕ
reply_body (replies.Now answer) = length answer.body
reply_body reply = 0

-- of what is collected likewise
abbrev pub collected_body : HallCollected → ℕ
collected_body (collected.Reply answer) = length answer.body
collected_body other = 0

-- of an answer those of its body, where it answers a request, at once or as it is collected
abbrev pub told_bytes : Told → ℕ
told_bytes (told.Asked reply) = reply_body reply
told_bytes (told.Collected c) = collected_body c
told_bytes t = 0

-- 64 for each entry, the bytes of its request or of its runner's reply, and those of the body of its answer
abbrev pub counted : History → ℕ
counted [] = 0
counted (e ∷ B) = counted B + (64 + (event_bytes e.event + told_bytes e.answer))

-- ---- moments

-- the last moment, 0 at first
abbrev pub last_moment : History → ℕ
last_moment [] = 0
last_moment (e ∷ B) = e.at

-- the greatest moment that kept rows have
abbrev pub moment_in : Result (List Item) (List ℕ) → ℕ
moment_in (Ok items) = greatest_kept_moment items
moment_in (Err key) = 0

-- an event comes no earlier than this: an opening than each moment of the kept rows
abbrev pub least_moment : Event → ℕ
least_moment (events.Opened rows) = moment_in (judged rows)
least_moment event = 0

-- the moment that is booked for a given one: at most the greatest, and never before the last one booked
abbrev pub moment : History → ℕ → ℕ
moment B at = max (last_moment B) (min at GREATEST_MOMENT)

-- ---- the state after the entries

-- the rows, what happened on the floor, who waits for an end, and the archive and the notes
pub record Seen : Type 0 where
  pub rows : List Row
  pub trace : Trace
  pub waits : List Wait
  pub others : OthersView

abbrev pub waits_after : Waits → List Wait → List Wait
waits_after Keep ws = ws
waits_after (Add w) ws = ws ++ w ∷ []
waits_after Clear ws = []

-- what is seen once a decision is carried out, of whatever event
abbrev pub after : Decision → Seen → Seen
after d s = record { rows = all_changed d.changes s.rows; trace = d.items ++ s.trace; waits = waits_after d.waits s.waits; others = others_after d.others s.others }

-- with the office table, the counted bytes and the moment
abbrev pub sight : Table → Seen → ℕ → ℕ → Sight
sight t s n at = record { tenants = t; rows = s.rows; trace = s.trace; waits = s.waits; others = s.others; counted = n; moment = at }

-- after these entries; before the first there are the built-in rows, and a floor with the table's pool and wants
abbrev pub seen : Table → History → Seen
seen t [] = record { rows = builtin; trace = Opened (pool_of t) t.wants ∷ []; waits = []; others = no_others }
seen t (e ∷ B) = after (decide (sight t (seen t B) (counted B) e.at) e.event) (seen t B)

-- what is done at an event after these entries
abbrev pub decision : Table → History → ℕ → Event → Decision
decision t B at event = decide (sight t (seen t B) (counted B) at) event

-- the one answer to an event
abbrev pub answer : Table → History → ℕ → Event → Told
answer t B at event = (decision t B at event).told

-- ---- what is booked

-- the newest entry is a `next` that ordered nothing
abbrev pub is_idle : History → Bool
is_idle [] = false
is_idle (e ∷ B) = is_idle_answer e.answer

-- how an answer is posted after these entries
abbrev pub posting : History → Told → Posting
posting B t = posting_by (is_idle B) t

-- ---- legal books

-- each answer is the answer of the entries before it, and is booked after them; the moments don't fall and are at most the greatest, and
-- that of an opening isn't before those of the kept rows
abbrev pub AreAnswered : Table → History → Type 0
AreAnswered t [] = Unit {0}
AreAnswered t (e ∷ B) = (e.answer ≡ answer t B e.at e.event) × (posting B e.answer ≡ Booked) × (last_moment B ≤ e.at) × (e.at ≤ GREATEST_MOMENT) × (least_moment e.event ≤ e.at) × AreAnswered t B

-- there is no entry
abbrev pub is_empty : History → Bool
is_empty [] = true
is_empty (e ∷ B) = false

-- an opening comes after no entry; for another event this holds where it held before
abbrev pub opens_here : Event → History → Bool → Bool
opens_here (events.Opened rows) B before = is_empty B
opens_here event B before = before

-- the first entry is an opening, and no other
abbrev pub is_opened : History → Bool
is_opened [] = false
is_opened (e ∷ B) = opens_here e.event B (is_opened B)

-- the drafts of each deployment are such as bodies give, and the note of each fire of the office may be kept
abbrev pub AreGivenIn : History → Type 0
AreGivenIn B = AllByRecursion (λ e. IsGivenEvent e.event) B

-- each is answered so, the service was opened first, and what the office gave is such as is required
pub record IsLegal (t : Table) (B : History) : Type 0 where
  pub answered : AreAnswered t B
  pub opened : is_opened B ≡ true
  pub given : AreGivenIn B
