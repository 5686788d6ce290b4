-- What happens on a connection: one request after the other, and one reply to each.
use Rattle.std.specs.Prelude.{◌≡◌, ◌≢◌, ◌⊎◌, ◌++◌, Bool, true, false, ℕ, List, [], ◌∷◌, Option, Some, None, Ok, Err, drop}
use Rattle.ow_traits.specs.Streams.{Takes, TakesFront}
use Rattle.ow_http.specs.Read.{IsRead}
use Rattle.ow_http.specs.Refused.{refusal_of}
use Rattle.ow_http.specs.Reply.{reply_bytes}
use Rattle.ow_http.specs.declared.answer.Answer.{Answer}
use Rattle.ow_http.specs.declared.http_refusal.HttpRefusal.{HttpRefusal}
use Rattle.ow_http.specs.declared.http_refusal.HttpRefusal.TheVariants as https
use Rattle.ow_http.specs.declared.reason.Reason.TheVariants as reasons
use Rattle.ow_http.specs.declared.request.Request.{Request}
use Rattle.ow_wire.specs.Arrivals.{Gives, IsAtEnd}
use Rattle.ow_wire.specs.declared.replying.Sent.{Sent}
use Rattle.ow_wire.specs.declared.replying.Sent.TheVariants as sent
use Rattle.ow_desk.specs.Notes.{Notes}
use Rattle.ow_peer.specs.declared.ending.Ending.{Ending}
use Rattle.ow_peer.specs.declared.ending.Ending.TheVariants as endings
use Rattle.ow_peer.specs.Answered.{AnsweredBy, Unanswered}

-- ---- the last reply

-- the answer that says why bytes are no request, or that memory ran out
abbrev pub refused : HttpRefusal → Answer
refused e = refusal_of (reasons.Http e)

-- what came is no request, and the hall isn't asked
abbrev pub RefusesFront : List ℕ → Notes → Notes → Answer → Type 0
RefusesFront bytes n m answer = (e : HttpRefusal) × IsRead bytes (Err e) × (e ≢ https.CutShort) × (m ≡ n) × (answer ≡ refused e)

-- the bytes end inside a request
abbrev pub TellsCut : List ℕ → Option (List ℕ) → Notes → Notes → Answer → Type 0
TellsCut bytes left n m answer = IsRead bytes (Err https.CutShort) × (bytes ≢ []) × IsAtEnd left × (m ≡ n) × (answer ≡ refused https.CutShort)

-- a request, and the answer to it
pub record Exchange : Type 0 where
  pub request : Request
  pub answer : Answer

-- all calls of the hall are at the clock's moment, where it reports one
module _ (tells : Option ℕ) where
  -- the request that the bytes begin with is answered
  abbrev pub AnswersFront : List ℕ → Notes → Notes → Bool → Answer → Type 0
  AnswersFront bytes n m close answer = (request : Request) × IsRead bytes (Ok request) × (request.close ≡ close) × AnsweredBy tells request answer n m

  -- memory ran out for a request, before its answer or for its reply
  abbrev pub IsWanting : Request → Notes → Notes → Type 0
  IsWanting request n m = Unanswered tells request n m ⊎ ((answer : Answer) × AnsweredBy tells request answer n m)

  -- or for something else
  abbrev pub IsWant : List ℕ → Notes → Notes → Type 0
  IsWant bytes n m = (m ≡ n) ⊎ ((request : Request) × IsRead bytes (Ok request) × IsWanting request n m)

  -- ---- the ending

  -- after all exchanges, by the bytes that no request was made of, and what the link took since
  abbrev pub EndsBy : List ℕ → Option (List ℕ) → Option (List ℕ) → Option (List ℕ) → Notes → Notes → Ending → Type 0
  EndsBy bytes left old new n m endings.Ended = (bytes ≡ []) × IsAtEnd left × (m ≡ n) × (new ≡ old)
  EndsBy bytes left old new n m endings.CutShort = (answer : Answer) × TellsCut bytes left n m answer × Takes old new (reply_bytes answer)
  EndsBy bytes left old new n m endings.Closed =
      (answer : Answer) × (AnswersFront bytes n m true answer ⊎ RefusesFront bytes n m answer) × Takes old new (reply_bytes answer)
  EndsBy bytes left old new n m endings.ReadFault = IsRead bytes (Err https.CutShort) × (m ≡ n) × (new ≡ old)
  EndsBy bytes left old new n m endings.WriteFault =
      (answer : Answer) × (((close : Bool) × AnswersFront bytes n m close answer) ⊎ (RefusesFront bytes n m answer ⊎ (TellsCut bytes left n m answer ⊎ (IsWant bytes n m × (answer ≡ refused https.NoMemory)))))
      × TakesFront old new (reply_bytes answer)
  EndsBy bytes left old new n m endings.NoMemory = IsWant bytes n m × ((new ≡ old) ⊎ Takes old new (reply_bytes (refused https.NoMemory)))

  -- ---- the whole

  -- requests that the bytes begin with, each answered after the one before, with what was written
  abbrev pub Chats : List Exchange → List ℕ → List ℕ → Notes → Notes → List ℕ → Type 0
  Chats [] bytes rest n m written = (rest ≡ bytes) × (m ≡ n) × (written ≡ [])
  Chats (x ∷ xs) bytes rest n m written = IsRead bytes (Ok x.request) × (x.request.close ≡ false)
      × ((middle : Notes) × (more : List ℕ) × AnsweredBy tells x.request x.answer n middle × (written ≡ reply_bytes x.answer ++ more)
      × Chats xs (drop x.request.size bytes) rest middle m more)

  -- the bytes that came of the peer, the exchanges, and the ending
  pub record Talks (left_old left_new taken_old taken_new : Option (List ℕ)) (n m : Notes) (ending : Ending) : Type 0 where
    pub heard : List ℕ
    pub gives : Gives left_old left_new heard
    pub exchanges : List Exchange
    pub rest : List ℕ
    pub middle : Notes
    pub written : List ℕ
    pub chats : Chats exchanges heard rest n middle written
    pub before : Option (List ℕ)
    pub takes : Takes taken_old before written
    pub ends : EndsBy rest left_new before taken_new middle m ending

  -- ---- for private clauses: one exchange

  -- some bytes come after the held ones, the request at their front is answered, and the link takes the reply
  pub record GoesOn (left_old left_new taken_old taken_new : Option (List ℕ)) (held now : List ℕ) (n m : Notes) : Type 0 where
    pub came : List ℕ
    pub gives : Gives left_old left_new came
    pub request : Request
    pub reads : IsRead (held ++ came) (Ok request)
    pub rest : now ≡ drop request.size (held ++ came)
    pub stays : request.close ≡ false
    pub answer : Answer
    pub answered : AnsweredBy tells request answer n m
    pub takes : Takes taken_old taken_new (reply_bytes answer)

  pub record Stops (left_old left_new taken_old taken_new : Option (List ℕ)) (held : List ℕ) (n m : Notes) (ending : Ending) : Type 0 where
    pub came : List ℕ
    pub gives : Gives left_old left_new came
    pub ends : EndsBy (held ++ came) left_new taken_old taken_new n m ending

  abbrev pub Exchanges : Option (List ℕ) → Option (List ℕ) → Option (List ℕ) → Option (List ℕ) → List ℕ → List ℕ → Notes → Notes → Option Ending → Type 0
  Exchanges left_old left_new taken_old taken_new held now n m None = GoesOn left_old left_new taken_old taken_new held now n m
  Exchanges left_old left_new taken_old taken_new held now n m (Some ending) = Stops left_old left_new taken_old taken_new held n m ending

-- ---- for private clauses: parts of an exchange

-- by what became of a reply
abbrev pub ending_of : Sent → Ending → Ending
ending_of sent.Whole ending = ending
ending_of sent.Fault ending = endings.WriteFault
ending_of sent.NoMemory ending = endings.NoMemory

-- that memory ran out is reported, where there is some for that
abbrev pub GivesUp : Option (List ℕ) → Option (List ℕ) → Ending → Type 0
GivesUp old new endings.NoMemory = (new ≡ old) ⊎ Takes old new (reply_bytes (refused https.NoMemory))
GivesUp old new endings.WriteFault = TakesFront old new (reply_bytes (refused https.NoMemory))
GivesUp old new ending = ⊥

-- a reply is written, and the connection goes on unless it is to close
abbrev pub RepliesWith : Option (List ℕ) → Option (List ℕ) → Answer → Bool → Option Ending → Type 0
RepliesWith old new answer close None = (close ≡ false) × Takes old new (reply_bytes answer)
RepliesWith old new answer close (Some endings.Closed) = (close ≡ true) × Takes old new (reply_bytes answer)
RepliesWith old new answer close (Some endings.WriteFault) =
    TakesFront old new (reply_bytes answer) ⊎ TakesFront old new (reply_bytes (refused https.NoMemory))
RepliesWith old new answer close (Some endings.NoMemory) = (new ≡ old) ⊎ Takes old new (reply_bytes (refused https.NoMemory))
RepliesWith old new answer close (Some ending) = ⊥

module _ (tells : Option ℕ) where
  -- a request is answered and replied to
  abbrev pub Serves : Option (List ℕ) → Option (List ℕ) → Request → Notes → Notes → Option Ending → Type 0
  Serves old new request n m None = (request.close ≡ false) × ((answer : Answer) × AnsweredBy tells request answer n m × Takes old new (reply_bytes answer))
  Serves old new request n m (Some endings.Closed) = (request.close ≡ true) × ((answer : Answer) × AnsweredBy tells request answer n m × Takes old new (reply_bytes answer))
  Serves old new request n m (Some endings.WriteFault) = (answer : Answer)
      × (AnsweredBy tells request answer n m ⊎ (IsWanting tells request n m × (answer ≡ refused https.NoMemory))) × TakesFront old new (reply_bytes answer)
  Serves old new request n m (Some endings.NoMemory) = IsWanting tells request n m × ((new ≡ old) ⊎ Takes old new (reply_bytes (refused https.NoMemory)))
  Serves old new request n m (Some ending) = ⊥
