-- Isolation of lists of reads: keys whose views are equal get equal answers.
use Rattle.std.specs.Prelude.{◌≡◌, ◌≢◌, ℕ, List, [], ◌∷◌, map, Bool, true, false, Option, Some, Ok}
use Rattle.std.specs.List.{AllByRecursion}
use Rattle.ow_traits.specs.Telling.{Telling}
use Rattle.ow_http.specs.Refused.{refusal_of}
use Rattle.ow_http.specs.declared.request.Request.{Request}
use Rattle.ow_reads.specs.View.{View}
use Rattle.ow_reads.specs.declared.acts.Reading.{Reading}
use Rattle.ow_decide.specs.Reasons.{book_full}
use Rattle.ow_decide.specs.declared.events.Event.TheVariants as events
use Rattle.ow_decide.specs.declared.events.Told.{Told}
use Rattle.ow_decide.specs.declared.events.Told.TheVariants as told
use Rattle.ow_decide.specs.declared.replies.Reply.{Reply}
use Rattle.ow_decide.specs.declared.replies.Reply.TheVariants as replies
use Rattle.ow_hall.specs.Comes.{Comes, HallView, Outcome, Replies}
use Rattle.ow_hall.specs.History.{History, answer}
use Rattle.ow_hall.specs.declared.entry.Entry.{Entry}
use Rattle.ow_tenant.specs.Table.{Table}
use Rattle.ow_isolation.specs.Reads.{IsRead, view_in}
use Rattle.ow_isolation.specs.Views.{view_after}

-- ---- requests

-- two requests ask the same: the same path, method, query and body. Their keys, other headers and sizes may differ
pub record AskAlike (r s : Request) : Type 0 where
  pub route : r.route ≡ s.route
  pub method : r.method ≡ s.method
  pub query : r.query ≡ s.query
  pub body : r.body ≡ s.body

-- two lists of requests ask the same, one by one
abbrev pub AllAskAlike : List Request → List Request → Type 0
AllAskAlike [] [] = Unit {0}
AllAskAlike (r ∷ rs) (s ∷ ss) = AskAlike r s × AllAskAlike rs ss
AllAskAlike rs ss = ⊥

-- the request is a read with this key
pub record IsReadWith (key : Option (List ℕ)) (r : Request) : Type 0 where
  pub reading : Reading
  pub keyed : r.key ≡ key
  pub reads : IsRead r reading

-- ---- over a log

-- a request and the moment of its entry
pub record Question : Type 0 where
  pub at : ℕ
  pub request : Request

-- the entry of a question after these entries
abbrev pub question_entry : Table → History → Question → Entry
question_entry t B q = record { at = q.at; event = events.Asked q.request; answer = answer t B q.at (events.Asked q.request) }

-- after these entries, the answers to questions one after another
abbrev pub answers_of : Table → History → List Question → List Told
answers_of t B [] = []
answers_of t B (q ∷ qs) = answer t B q.at (events.Asked q.request) ∷ answers_of t (question_entry t B q ∷ B) qs

-- the answer isn't that the log is full
abbrev pub had_room : Told → Bool
had_room (told.Full answer) = false
had_room t = true

abbrev pub HaveRoom : List Told → Type 0
HaveRoom ts = AllByRecursion (λ t. had_room t ≡ true) ts

-- after two logs, of two office tables, two keys with equal views get equal answers to reads that ask the same
abbrev pub LogsAnswerAlike : Type 0
LogsAnswerAlike = (t u : Table) (B C : History) (k j : Option (List ℕ)) (W : View) (ps qs : List Question) → view_after t B k ≡ Some W → view_after u C j ≡ Some W
    → AllByRecursion (IsReadWith k) (map (λ q. q.request) ps) → AllByRecursion (IsReadWith j) (map (λ q. q.request) qs)
    → AllAskAlike (map (λ q. q.request) ps) (map (λ q. q.request) qs) → HaveRoom (answers_of t B ps) → HaveRoom (answers_of u C qs) → answers_of t B ps ≡ answers_of u C qs

-- ---- over a controller

-- a request, when it came, and the reply to it
pub record Replied : Type 0 where
  pub at : ℕ
  pub request : Request
  pub reply : Reply

-- a controller is asked the request, and gives this reply
abbrev pub Asks : {P : Type 0} → (P → Telling) → HallView P → HallView P → Replied → Type 0
Asks telling old new q = (o : Outcome) × Replies (Ok q.reply) o × Comes telling old new q.at (events.Asked q.request) o

-- it is asked these one after another, the first first, and gives these replies
abbrev pub AsksEach : {P : Type 0} → (P → Telling) → HallView P → List Replied → HallView P → Type 0
AsksEach telling old [] new = new ≡ old
AsksEach {P} telling old (q ∷ qs) new = (mid : HallView P) × Asks telling old mid q × AsksEach telling mid qs new

-- the reply isn't that the log is full
abbrev pub IsRoomy : Replied → Type 0
IsRoomy q = q.reply ≢ replies.Now (refusal_of book_full)

-- two controllers, of two office tables and two stores, give two keys with equal views equal replies to reads that ask the same
abbrev pub HallsAnswerAlike : {P Q : Type 0} → (P → Telling) → (Q → Telling) → Type 0
HallsAnswerAlike {P} {Q} f g = (a b : HallView P) (c d : HallView Q) (k j : Option (List ℕ)) (W : View) (ps qs : List Replied) → view_in a k ≡ Some W → view_in c j ≡ Some W
    → AsksEach f a ps b → AsksEach g c qs d
    → AllByRecursion (IsReadWith k) (map (λ q. q.request) ps) → AllByRecursion (IsReadWith j) (map (λ q. q.request) qs)
    → AllAskAlike (map (λ q. q.request) ps) (map (λ q. q.request) qs) → AllByRecursion IsRoomy ps → AllByRecursion IsRoomy qs
    → map (λ q. q.reply) ps ≡ map (λ q. q.reply) qs
