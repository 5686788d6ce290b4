-- What bytes are read as: the request that they begin with, or why they are refused.
use Rattle.std.specs.Prelude.{◌≡◌, ◌≢◌, ◌⊎◌, ℕ, List, Result, Ok, Err}
use Rattle.httparse.specs.Grammar.{RequestHead}
use Rattle.ow_http.specs.Head.{HasHead, IsBadHead, IsCutHead}
use Rattle.ow_http.specs.Judged.{judged, asked_of}
use Rattle.ow_http.specs.Request.{parts_of}
use Rattle.ow_http.specs.declared.http_refusal.HttpRefusal.{HttpRefusal}
use Rattle.ow_http.specs.declared.http_refusal.HttpRefusal.TheVariants.{BadHead, CutShort, NoMemory}
use Rattle.ow_http.specs.declared.request.Read.{Read}
use Rattle.ow_http.specs.declared.request.Request.{Request}

-- what a request's head and the bytes after it are judged as, where the bytes have a head within the limits
abbrev pub IsHeaded : List ℕ → HttpRefusal → Type 0
IsHeaded bytes e = (h : RequestHead) (rest : List ℕ) → HasHead bytes h rest → judged (asked_of h rest) ≡ Err e

-- why they have none
abbrev pub IsHeadless : List ℕ → HttpRefusal → Type 0
IsHeadless bytes e = ((h : RequestHead) (rest : List ℕ) → HasHead bytes h rest → ⊥)
    → ((e ≡ BadHead) × IsBadHead bytes) ⊎ ((e ≡ CutShort) × IsCutHead bytes)

-- the bytes begin with this request, or are refused so
abbrev pub IsRead : List ℕ → Result Request HttpRefusal → Type 0
IsRead bytes (Ok request) = (h : RequestHead) × (rest : List ℕ) × HasHead bytes h rest × (judged (asked_of h rest) ≡ Ok (parts_of request))
IsRead bytes (Err NoMemory) = ⊥
IsRead bytes (Err e) = IsHeaded bytes e × IsHeadless bytes e

-- the bytes are read so, unless memory ran out
abbrev pub ReadsAs : List ℕ → Result Read HttpRefusal → Type 0
ReadsAs bytes (Ok read) = IsRead bytes (Ok read.request)
ReadsAs bytes (Err e) = e ≢ NoMemory → IsRead bytes (Err e)
