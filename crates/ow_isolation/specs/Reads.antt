-- Isolation of one read: its answer depends on the request and on what its key may see, and it leaves what each key may see.
use Rattle.std.specs.Prelude.{◌≡◌, ℕ, List, ◌∷◌, Bool, Option, Some, Result, IfOk, if◌then◌else◌}
use Rattle.ow_traits.specs.Telling.{Telling}
use Rattle.ow_value.specs.declared.memory.NoMemory.{NoMemory}
use Rattle.ow_http.specs.Refused.{refusal_of}
use Rattle.ow_http.specs.Request.{parts_of}
use Rattle.ow_http.specs.declared.request.Request.{Request}
use Rattle.ow_reads.specs.Acts.{act_of}
use Rattle.ow_reads.specs.Reading.{read_answer}
use Rattle.ow_reads.specs.View.{View}
use Rattle.ow_reads.specs.declared.acts.Act.TheVariants.{Reads}
use Rattle.ow_reads.specs.declared.acts.Reading.{Reading}
use Rattle.ow_decide.specs.Asking.{at_once}
use Rattle.ow_decide.specs.Reasons.{book_full}
use Rattle.ow_decide.specs.Sight.{is_full}
use Rattle.ow_decide.specs.declared.events.Event.TheVariants as events
use Rattle.ow_decide.specs.declared.events.Told.{Told}
use Rattle.ow_decide.specs.declared.events.Told.TheVariants as told
use Rattle.ow_decide.specs.declared.replies.Reply.{Reply}
use Rattle.ow_decide.specs.declared.replies.Reply.TheVariants as replies
use Rattle.ow_hall.specs.Comes.{Comes, HallView, Outcome, Replies}
use Rattle.ow_hall.specs.History.{History, answer, counted, seen}
use Rattle.ow_hall.specs.declared.entry.Entry.{Entry}
use Rattle.ow_tenant.specs.Table.{Table}
use Rattle.ow_isolation.specs.Views.{view_after}

-- the request is this read
abbrev pub IsRead : Request → Reading → Type 0
IsRead r reading = act_of r.route r.method ≡ Some (Reads reading)

-- after these entries the log has no room for the request
abbrev pub finds_full : History → Request → Bool
finds_full B r = is_full (counted B) r.size

-- ---- over a log

-- the answer to a read: that the log is full, or what the view shows
abbrev pub read_told : Bool → View → Reading → Request → Told
read_told full W reading r = if full then told.Full (refusal_of book_full) else at_once (read_answer W reading (parts_of r))

-- a read with a known key is answered from what its holder may see
abbrev pub AnswersOfView : Table → History → Type 0
AnswersOfView t B = (at : ℕ) (r : Request) (reading : Reading) (W : View) → IsRead r reading → view_after t B r.key ≡ Some W
    → answer t B at (events.Asked r) ≡ read_told (finds_full B r) W reading r

-- the entry is of this read
abbrev pub IsEntryOfRead : Entry → Request → Reading → Type 0
IsEntryOfRead e r reading = (e.event ≡ events.Asked r) × IsRead r reading

-- the entry of a read leaves the rows, the trace and the waits, and so all that counts against the limits
abbrev pub LeavesAll : Table → History → Type 0
LeavesAll t B = (e : Entry) (r : Request) (reading : Reading) → IsEntryOfRead e r reading → seen t (e ∷ B) ≡ seen t B

-- it leaves what the holder of each key may see
abbrev pub LeavesViews : Table → History → Type 0
LeavesViews t B = (e : Entry) (r : Request) (reading : Reading) (key : Option (List ℕ)) → IsEntryOfRead e r reading → view_after t (e ∷ B) key ≡ view_after t B key

-- ---- over a controller

-- what the holder of a key may see in a controller
abbrev pub view_in : {P : Type 0} → HallView P → Option (List ℕ) → Option View
view_in h key = view_after h.tenants h.ledger.entries key

-- the reply to a read: that the log is full, or what the view shows
abbrev pub read_reply : Bool → View → Reading → Request → Reply
read_reply full W reading r = replies.Now (if full then refusal_of book_full else read_answer W reading (parts_of r))

-- a controller that is asked a read with a known key, and replies, replies from what its holder may see, unless the log is full
abbrev pub RepliesOfView : {P : Type 0} → (P → Telling) → Type 0
RepliesOfView {P} telling = (old new : HallView P) (at : ℕ) (r : Request) (reading : Reading) (W : View) (result : Result Reply NoMemory) (o : Outcome)
    → IsRead r reading → view_in old r.key ≡ Some W → Replies result o → Comes telling old new at (events.Asked r) o
    → IfOk result (λ reply. reply ≡ read_reply (finds_full old.ledger.entries r) W reading r)

-- what each key may see, the state after the entries, the office table and the store are as they were
pub record IsLeft {P : Type 0} (old new : HallView P) : Type 0 where
  pub views : (key : Option (List ℕ)) → view_in new key ≡ view_in old key
  pub state : seen new.tenants new.ledger.entries ≡ seen old.tenants old.ledger.entries
  pub tenants : new.tenants ≡ old.tenants
  pub store : new.store ≡ old.store

-- whatever a read results in, it leaves a controller so
abbrev pub LeavesHalls : {P : Type 0} → (P → Telling) → Type 0
LeavesHalls {P} telling = (old new : HallView P) (at : ℕ) (r : Request) (reading : Reading) (o : Outcome) → IsRead r reading → Comes telling old new at (events.Asked r) o → IsLeft old new
