-- What bytes are read as, from what is known of those with a head and of those without.
use Rattle.std.proofs.Common.{◌≡◌, ◌≢◌, ◌⊎◌, ℕ, List, Result, Ok, Err, OnOk, IfErr, refl, inl, inr}
use Rattle.httparse.specs.Grammar.{RequestHead}
use Rattle.ow_http.specs.Gives.{GivesRead}
use Rattle.ow_http.specs.Head.{HasHead, IsBadHead, IsCutHead}
use Rattle.ow_http.specs.Judged.{judged, asked_of}
use Rattle.ow_http.specs.Read.{IsRead, ReadsAs}
use Rattle.ow_http.specs.declared.http_refusal.HttpRefusal.{HttpRefusal}
use Rattle.ow_http.specs.declared.http_refusal.HttpRefusal.TheVariants.{BadHead, NoRoute, BadMethod, BodyTooLarge, CutShort, NoMemory}
use Rattle.ow_http.specs.declared.request.Read.{Read}

-- why bytes have no head, or that memory ran out
abbrev HasWhy : List ℕ → HttpRefusal → Type 0
HasWhy bytes e = ((e ≡ BadHead) × IsBadHead bytes) ⊎ ((e ≡ CutShort) × IsCutHead bytes) ⊎ (e ≡ NoMemory)

headless : (bytes : List ℕ) (e : HttpRefusal) → e ≢ NoMemory → HasWhy bytes e → ((e ≡ BadHead) × IsBadHead bytes) ⊎ ((e ≡ CutShort) × IsCutHead bytes)
headless bytes e other (inl bad) = inl bad
headless bytes e other (inr (inl cut)) = inr cut
headless bytes e other (inr (inr none)) = absurd (other none)

-- bytes that are refused
refused : (bytes : List ℕ) (e : HttpRefusal) → e ≢ NoMemory → ((h : RequestHead) (rest : List ℕ) → HasHead bytes h rest → GivesRead (judged (asked_of h rest)) (Err e))
    → (((h : RequestHead) (rest : List ℕ) → HasHead bytes h rest → ⊥) → HasWhy bytes e) → IsRead bytes (Err e)
refused bytes BadHead other headed none = ((λ h rest has. headed h rest has other), λ h. headless bytes BadHead other (none h))
refused bytes NoRoute other headed none = ((λ h rest has. headed h rest has other), λ h. headless bytes NoRoute other (none h))
refused bytes BadMethod other headed none = ((λ h rest has. headed h rest has other), λ h. headless bytes BadMethod other (none h))
refused bytes BodyTooLarge other headed none = ((λ h rest has. headed h rest has other), λ h. headless bytes BodyTooLarge other (none h))
refused bytes CutShort other headed none = ((λ h rest has. headed h rest has other), λ h. headless bytes CutShort other (none h))
refused bytes NoMemory other headed none = absurd (other refl)

pub read_so : (bytes : List ℕ) (r : Result Read HttpRefusal) → ((h : RequestHead) (rest : List ℕ) → HasHead bytes h rest → GivesRead (judged (asked_of h rest)) r)
    → OnOk r ((h : RequestHead) × (rest : List ℕ) × HasHead bytes h rest)
    → (((h : RequestHead) (rest : List ℕ) → HasHead bytes h rest → ⊥) → IfErr r (λ e. HasWhy bytes e)) → ReadsAs bytes r
read_so bytes (Ok read) judged whole headless = (whole.0, whole.1, whole.2, judged whole.0 whole.1 whole.2)
read_so bytes (Err e) judged whole headless = λ other. refused bytes e other judged headless
