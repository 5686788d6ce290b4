-- What comes of a peer over a link, and what is sent to it.
use Rattle.std.specs.Prelude.{◌≡◌, ◌≢◌, ◌≤◌, ◌<◌, ◌++◌, ℕ, List, [], ◌∷◌, Option, Some, None, Result, Ok, Err, length, drop}
use Rattle.ow_traits.specs.Streams.{Takes, TakesFront}
use Rattle.ow_http.specs.Read.{IsRead}
use Rattle.ow_http.specs.Reply.{reply_bytes}
use Rattle.ow_http.specs.declared.answer.Answer.{Answer}
use Rattle.ow_http.specs.declared.http_refusal.HttpRefusal.{HttpRefusal}
use Rattle.ow_http.specs.declared.http_refusal.HttpRefusal.TheVariants.{CutShort, NoMemory}
use Rattle.ow_http.specs.declared.request.Request.{Request}
use Rattle.ow_wire.specs.declared.inbox.Arrival.{Arrival}
use Rattle.ow_wire.specs.declared.inbox.Arrival.TheVariants as arrivals
use Rattle.ow_wire.specs.declared.inbox.Filled.{Filled}
use Rattle.ow_wire.specs.declared.inbox.Filled.TheVariants as filled
use Rattle.ow_wire.specs.declared.inbox.TheConstants.{PIECE}
use Rattle.ow_wire.specs.declared.replying.Sent.{Sent}
use Rattle.ow_wire.specs.declared.replying.Sent.TheVariants as sent

-- ---- bytes

-- a link that reports its bytes gave these
abbrev pub Gives : Option (List ℕ) → Option (List ℕ) → List ℕ → Type 0
Gives None new came = new ≡ None
Gives (Some bytes) new came = (rest : List ℕ) × (new ≡ Some rest) × (bytes ≡ came ++ rest)

-- a link that reports its bytes has none left
abbrev pub IsAtEnd : Option (List ℕ) → Type 0
IsAtEnd None = Unit {0}
IsAtEnd (Some bytes) = bytes ≡ []

-- ---- requests

-- what these bytes are, where the link has `left` after them: a request, after which `rest` is held; no request, and not for being
-- cut short; all that there are; or bytes cut short where the link failed
abbrev pub Comes : Option (List ℕ) → List ℕ → List ℕ → Arrival → Type 0
Comes left bytes rest (arrivals.Asked request) = IsRead bytes (Ok request) × (rest ≡ drop request.size bytes)
Comes left bytes rest (arrivals.Refused e) = IsRead bytes (Err e) × (e ≢ CutShort)
Comes left bytes rest arrivals.CutShort = IsRead bytes (Err CutShort) × (bytes ≢ []) × IsAtEnd left
Comes left bytes rest arrivals.Ended = (bytes ≡ []) × IsAtEnd left
Comes left bytes rest arrivals.Fault = IsRead bytes (Err CutShort)
Comes left bytes rest arrivals.NoMemory = Unit {0}

-- no more came after the bytes held than was needed: where anything did, they were still cut short before its last piece
pub record IsNeeded (held came : List ℕ) : Type 0 where
  pub front : List ℕ
  pub last : List ℕ
  pub whole : came ≡ front ++ last
  pub cut : came ≢ [] → IsRead (held ++ front) (Err CutShort)
  pub piece : length last ≤ PIECE

-- some bytes come after the held ones, together they are this arrival, and no more came than was needed
abbrev pub Receives : Option (List ℕ) → Option (List ℕ) → List ℕ → List ℕ → Arrival → Type 0
Receives old new held now arrival = (came : List ℕ) × Gives old new came × Comes new (held ++ came) now arrival × IsNeeded held came

-- ---- replies

-- the link takes the reply, a prefix of it, or nothing
abbrev pub Sends : Option (List ℕ) → Option (List ℕ) → Answer → Sent → Type 0
Sends old new answer sent.Whole = Takes old new (reply_bytes answer)
Sends old new answer sent.Fault = TakesFront old new (reply_bytes answer)
Sends old new answer sent.NoMemory = new ≡ old

-- ---- for private clauses: the parts of what is received

-- what a read makes of the held bytes: the bytes that came follow them
abbrev pub FillsBy : Option (List ℕ) → List ℕ → List ℕ → List ℕ → Filled → Type 0
FillsBy left held now came filled.More = now ≡ held ++ came
FillsBy left held now came filled.End = (now ≡ held) × (came ≡ []) × IsAtEnd left
FillsBy left held now came filled.Fault = came ≡ []
FillsBy left held now came filled.NoMemory = Unit {0}

-- one piece comes at most
abbrev pub Fills : Option (List ℕ) → Option (List ℕ) → List ℕ → List ℕ → Filled → Type 0
Fills old new held now result = (came : List ℕ) × Gives old new came × FillsBy new held now came result × (length came ≤ PIECE)

-- the request at the front is taken off the bytes, or they stay
abbrev pub Splits : List ℕ → List ℕ → Result Request HttpRefusal → Type 0
Splits bytes rest (Ok request) = IsRead bytes (Ok request) × (rest ≡ drop request.size bytes)
Splits bytes rest (Err e) = (rest ≡ bytes) × (e ≢ NoMemory → IsRead bytes (Err e))

-- fewer bytes than this that begin with these are cut short
abbrev pub IsCutBelow : ℕ → List ℕ → Type 0
IsCutBelow needed bytes = (more : List ℕ) → length (bytes ++ more) < needed → IsRead (bytes ++ more) (Err CutShort)

-- how bytes end of which no request is made
abbrev pub ended : List ℕ → Arrival
ended [] = arrivals.Ended
ended (b ∷ bytes) = arrivals.CutShort
