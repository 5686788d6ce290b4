-- What came of a link, one read after another.
use Rattle.std.proofs.Common.{◌≡◌, ◌≢◌, ◌≤◌, ◌++◌, ℕ, List, [], ◌∷◌, Option, Some, None, Ok, Err, refl, ap, sym, subst, ◌∙◌, length, length-take, take, drop, append_assoc, append-nil, arith}
use Rattle.std.proofs.lemmas.List.{take-append-drop}
use Rattle.ow_http.specs.Read.{IsRead}
use Rattle.ow_http.specs.declared.http_refusal.HttpRefusal.{HttpRefusal}
use Rattle.ow_http.specs.declared.http_refusal.HttpRefusal.TheVariants.{CutShort, NoMemory}
use Rattle.ow_traits.specs.Streams.{Reads}
use Rattle.ow_traits.specs.declared.streams.Failed.{Failed}
use Rattle.ow_wire.specs.Arrivals.{Comes, Gives, IsAtEnd, IsNeeded, Splits, ended}
use Rattle.ow_wire.specs.declared.inbox.Arrival.{Arrival}
use Rattle.ow_wire.specs.declared.inbox.TheConstants.{PIECE}

pub gives_read : (old new : Option (List ℕ)) (room : List ℕ) (n : ℕ) → Reads old new room (Ok n) → Gives old new (take n room)
gives_read None new room n r = r
gives_read (Some bytes) new room n r = (drop n bytes, r.1, sym (take-append-drop n bytes) ∙ ap (λ z. z ++ drop n bytes) (sym r.2))

pub length_piece : (room : List ℕ) (n : ℕ) → length room ≡ PIECE → length (take n room) ≤ PIECE
length_piece room n whole = omega (arith, length-take n room)

pub gives_failed : (old new : Option (List ℕ)) (room : List ℕ) (e : Failed) → Reads old new room (Err e) → Gives old new []
gives_failed None new room e r = r
gives_failed (Some bytes) new room e r = (bytes, r, refl)

pub gives_nothing : (old : Option (List ℕ)) → Gives old old []
gives_nothing None = refl
gives_nothing (Some bytes) = (bytes, refl, refl)

pub gives_then : (a b c : Option (List ℕ)) (x y : List ℕ) → Gives a b x → Gives b c y → Gives a c (x ++ y)
gives_then None None c x y g h = h
gives_then None (Some m) c x y g h = cc
gives_then (Some bytes) None c x y g h = cc
gives_then (Some bytes) (Some m) c x y g h =
    let same : m ≡ g.0 = cc in
    (h.0, h.1, g.2 ∙ ap (λ z. x ++ z) (sym same ∙ h.2) ∙ sym (append_assoc x y h.0))

-- a read that gives nothing
pub gives_no_more : (a b c : Option (List ℕ)) (x y : List ℕ) → Gives a b x → Gives b c y → y ≡ [] → Gives a c x
gives_no_more a b c x y g h none =
    subst (λ z. Gives a c z) (append-nil x) (gives_then a b c x [] g (subst (λ z. Gives b c z) none h))

-- ---- whether it was needed

pub is_cut : (bytes rest : List ℕ) (e : HttpRefusal) → Splits bytes rest (Err e) → e ≡ CutShort → IsRead bytes (Err CutShort)
is_cut bytes rest e s is = subst (λ r. r ≢ NoMemory → IsRead bytes (Err r)) is s.1 (λ other. cc)

pub needs_nothing : (held : List ℕ) → IsNeeded held []
needs_nothing held = record { front = []; last = []; whole = refl; cut = λ some. absurd (some refl); piece = omega arith }

-- a piece after bytes that are cut short
pub needs_piece : (held bytes front last : List ℕ) → bytes ≡ held ++ front → IsRead bytes (Err CutShort) → length last ≤ PIECE → IsNeeded held (front ++ last)
needs_piece held bytes front last same read piece =
    record { front = front; last = last; whole = refl; cut = λ some. subst (λ b. IsRead b (Err CutShort)) same read; piece = piece }

-- ---- how bytes end

ended_so : (left : Option (List ℕ)) (bytes rest : List ℕ) → IsRead bytes (Err CutShort) → IsAtEnd left → Comes left bytes rest (ended bytes)
ended_so left [] rest read end = (refl, end)
ended_so left (b ∷ bytes) rest read end = (read, (λ none. cc), end)

pub ended_by : (left : Option (List ℕ)) (bytes held rest : List ℕ) (arrival : Arrival) → held ≡ bytes → IsRead bytes (Err CutShort) → IsAtEnd left → arrival ≡ ended held
    → Comes left bytes rest arrival
ended_by left bytes held rest arrival same read end is =
    subst (λ a. Comes left bytes rest a) (sym (is ∙ ap ended same)) (ended_so left bytes rest read end)
