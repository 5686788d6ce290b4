-- Seats, and how they are filled.
use Rattle.std.proofs.Common.{◌≡◌, ◌++◌, ℕ, zero, suc, Bool, true, false, Ok, Err, List, [], ◌∷◌, Option, Some, None, length, map, refl, sym, ap, subst, ◌∙◌, append_assoc, append-nil}
use Rattle.std.proofs.lemmas.List.{map-append}
use Rattle.ow_traits.specs.Runner.{Giving, Tally}
use Rattle.ow_traits.specs.declared.streams.Failed.{Failed}
use Rattle.ow_links.specs.Peers.{Accepts}
use Rattle.ow_links.specs.declared.listeners.Accepted.TheVariants.{Peer, Closed}
use Rattle.ow_threads.specs.Tasks.{AllEnd, Began, pending}
use Rattle.ow_threads.specs.declared.tasks.Begun.{Begun}
use Rattle.ow_threads.specs.declared.tasks.Begun.TheVariants.{Started, Ran, Refused}
use Rattle.ow_desk.specs.Notes.{Notes, no_notes}
use Rattle.ow_peer.specs.declared.ending.Ending.{Ending}
use Rattle.ow_serve.specs.declared.duty.Work.{Work}
use Rattle.ow_serve.specs.declared.duty.Work.TheVariants as works
use Rattle.ow_serve.specs.Duties.{Ends, IsServed, TalksAlone, TalksFrom}
use Rattle.ow_serve.specs.Ended.{earlier}
use Rattle.ow_serve.specs.Working.{Outset, fresh_outset}
use Rattle.ow_serve.specs.Peers.{AcceptsAll, AllServed, AllTalk, HasNoPeer, Seated, Seats, endings_in, filled, seat_of}

-- ---- listeners

pub accepts_none : {K : Type 0} (old : Option (List K)) → AcceptsAll old [] old
accepts_none None = refl
accepts_none (Some all) = (all, refl, refl)

pub accepts_more : {K : Type 0} (old mid new : Option (List K)) (ks : List K) (k : K) → AcceptsAll old ks mid → AcceptsAll mid (k ∷ []) new → AcceptsAll old (ks ++ k ∷ []) new
accepts_more None None new ks k a b = b
accepts_more None (Some m) new ks k a b = cc
accepts_more (Some all) None new ks k a b = cc
accepts_more (Some all) (Some m) new ks k a b =
    let same : m ≡ a.0 = cc in
    (b.0, a.1 ∙ ap (λ z. ks ++ z) (sym same ∙ b.1) ∙ sym (append_assoc ks (k ∷ []) b.0), b.2)

-- ---- seats

module _ {T K D : Type 0} (IsFor : T → K → Type 0) (Serves : K → D → Type 0) where
  pub seat_started : (ts : List T) (ks : List K) (seats : List (Option D)) (t : T) (k : K) → Seats IsFor Serves ts ks seats → IsFor t k
      → Seats IsFor Serves (ts ++ t ∷ []) (ks ++ k ∷ []) (seats ++ None ∷ [])
  seat_started [] [] [] t k s f = (f, (refl, refl))
  seat_started (u ∷ ts) ks [] t k s f = absurd (let e = s.0 in cc)
  seat_started [] (j ∷ ks) [] t k s f = absurd (let e = s.1 in cc)
  seat_started ts [] (d ∷ seats) t k s f = absurd s
  seat_started ts (j ∷ ks) (Some d ∷ seats) t k s f = (s.0, seat_started ts ks seats t k s.1 f)
  seat_started [] (j ∷ ks) (None ∷ seats) t k s f = absurd s
  seat_started (u ∷ ts) (j ∷ ks) (None ∷ seats) t k s f = (s.0, seat_started ts ks seats t k s.1 f)

  pub seat_ran : (ts : List T) (ks : List K) (seats : List (Option D)) (k : K) (d : D) → Seats IsFor Serves ts ks seats → Serves k d
      → Seats IsFor Serves ts (ks ++ k ∷ []) (seats ++ Some d ∷ [])
  seat_ran [] [] [] k d s f = (f, (refl, refl))
  seat_ran (u ∷ ts) ks [] k d s f = absurd (let e = s.0 in cc)
  seat_ran [] (j ∷ ks) [] k d s f = absurd (let e = s.1 in cc)
  seat_ran ts [] (e ∷ seats) k d s f = absurd s
  seat_ran ts (j ∷ ks) (Some e ∷ seats) k d s f = (s.0, seat_ran ts ks seats k d s.1 f)
  seat_ran [] (j ∷ ks) (None ∷ seats) k d s f = absurd s
  seat_ran (u ∷ ts) (j ∷ ks) (None ∷ seats) k d s f = (s.0, seat_ran ts ks seats k d s.1 f)

  pub as_many : (ts : List T) (ks : List K) (seats : List (Option D)) → Seats IsFor Serves ts ks seats → length ks ≡ length seats
  as_many ts [] [] s = refl
  as_many ts (j ∷ ks) [] s = absurd (let e = s.1 in cc)
  as_many ts [] (d ∷ seats) s = absurd s
  as_many ts (j ∷ ks) (Some d ∷ seats) s = ap suc (as_many ts ks seats s.1)
  as_many [] (j ∷ ks) (None ∷ seats) s = absurd s
  as_many (u ∷ ts) (j ∷ ks) (None ∷ seats) s = ap suc (as_many ts ks seats s.1)

  pub all_served : (ends : T → D → Type 0) → ((t : T) (k : K) (d : D) → IsFor t k → ends t d → Serves k d)
      → (ts : List T) (ks : List K) (seats : List (Option D)) (ds : List D) → Seats IsFor Serves ts ks seats → AllEnd ends ts ds → AllServed Serves ks (filled seats ds)
  all_served ends serves ts [] [] ds s e = tt
  all_served ends serves ts (j ∷ ks) [] ds s e = absurd (let x = s.1 in cc)
  all_served ends serves ts [] (d ∷ seats) ds s e = absurd s
  all_served ends serves ts (j ∷ ks) (Some d ∷ seats) ds s e = (s.0, all_served ends serves ts ks seats ds s.1 e)
  all_served ends serves [] (j ∷ ks) (None ∷ seats) ds s e = absurd s
  all_served ends serves (u ∷ ts) (j ∷ ks) (None ∷ seats) [] s e = absurd e
  all_served ends serves (u ∷ ts) (j ∷ ks) (None ∷ seats) (d ∷ ds) s e = (serves u j d s.0 e.0, all_served ends serves ts ks seats ds s.1 e.1)

-- ---- calls of a listener

pub no_more : {K : Type 0} (mid new : Option (List K)) → Accepts mid new (Ok Closed) → (new ≡ mid) × HasNoPeer new
no_more None new h = (h, subst HasNoPeer (sym h) tt)
no_more (Some peers) new h = (h.1 ∙ ap Some (sym h.0), subst HasNoPeer (sym h.1) refl)

pub failed : {K : Type 0} (mid new : Option (List K)) (e : Failed) → Accepts mid new (Err e) → new ≡ mid
failed None new e h = h
failed (Some peers) new e h = h

pub one_came : {K : Type 0} (mid new : Option (List K)) (k : K) → Accepts mid new (Ok (Peer k)) → AcceptsAll mid (k ∷ []) new
one_came None new k h = h
one_came (Some peers) new k h = h

-- ---- peers, tasks and seats

module _ {T K D : Type 0} (IsFor : T → K → Type 0) (Serves : K → D → Type 0) where
  pub seated_none : (old : Option (List K)) (before : List (T × Bool)) (seats : List (Option D)) → seats ≡ [] → Seated IsFor Serves old old before before seats
  seated_none old before seats is = record {
    peers = [];
    started = [];
    accepts = accepts_none old;
    tasks = sym (append-nil before);
    seated = subst (λ s. Seats IsFor Serves [] [] s) (sym is) (refl, refl);
  }

  -- what stays the same
  pub seated_still : (old mid new : Option (List K)) (before now : List (T × Bool)) (seats then' : List (Option D)) → new ≡ mid → then' ≡ seats
      → Seated IsFor Serves old mid before now seats → Seated IsFor Serves old new before now then'
  seated_still old mid new before now seats then' same is s = record {
    peers = s.peers;
    started = s.started;
    accepts = subst (λ n. AcceptsAll old s.peers n) (sym same) s.accepts;
    tasks = s.tasks;
    seated = subst (λ x. Seats IsFor Serves s.started s.peers x) (sym is) s.seated;
  }

  seated_started : (old mid new : Option (List K)) (before now : List (T × Bool)) (seats : List (Option D)) (t : T) (k : K) → AcceptsAll mid (k ∷ []) new → IsFor t k
      → Seated IsFor Serves old mid before now seats → Seated IsFor Serves old new before (now ++ (t, false) ∷ []) (seats ++ None ∷ [])
  seated_started old mid new before now seats t k came mine s = record {
    peers = s.peers ++ k ∷ [];
    started = s.started ++ t ∷ [];
    accepts = accepts_more old mid new s.peers k s.accepts came;
    tasks = ap (λ z. z ++ (t, false) ∷ []) s.tasks ∙ append_assoc before (map (λ t. (t, false)) s.started) ((t, false) ∷ [])
        ∙ ap (λ z. before ++ z) (sym (map-append (λ t. (t, false)) s.started (t ∷ [])));
    seated = seat_started IsFor Serves s.started s.peers seats t k s.seated mine;
  }

  seated_ran : (old mid new : Option (List K)) (before now : List (T × Bool)) (seats : List (Option D)) (k : K) (d : D) → AcceptsAll mid (k ∷ []) new → Serves k d
      → Seated IsFor Serves old mid before now seats → Seated IsFor Serves old new before now (seats ++ Some d ∷ [])
  seated_ran old mid new before now seats k d came mine s = record {
    peers = s.peers ++ k ∷ [];
    started = s.started;
    accepts = accepts_more old mid new s.peers k s.accepts came;
    tasks = s.tasks;
    seated = seat_ran IsFor Serves s.started s.peers seats k d s.seated mine;
  }

  -- one more peer, by what became of its task
  seated_by : (ends : T → D → Type 0) → ((t : T) (k : K) (d : D) → IsFor t k → ends t d → Serves k d)
      → (old mid new : Option (List K)) (before now then' : List (T × Bool)) (a b : ℕ) (seats : List (Option D)) (t : T) (k : K) (begun : Begun D) (seat : Option D)
      → AcceptsAll mid (k ∷ []) new → IsFor t k → Began ends a b now then' t true begun → seat_of begun ≡ Some seat
      → Seated IsFor Serves old mid before now seats → Seated IsFor Serves old new before then' (seats ++ seat ∷ [])
  seated_by ends serves old mid new before now then' a b seats t k Started None came mine began is s =
      subst (λ z. Seated IsFor Serves old new before z (seats ++ None ∷ [])) (sym began.0) (seated_started old mid new before now seats t k came mine s)
  seated_by ends serves old mid new before now then' a b seats t k Started (Some d) came mine began is s = absurd (cc)
  seated_by ends serves old mid new before now then' a b seats t k (Ran d) None came mine began is s = absurd (cc)
  seated_by ends serves old mid new before now then' a b seats t k (Ran d) (Some e) came mine began is s =
      let same : d ≡ e = cc in
      let all = subst (λ z. Seated IsFor Serves old new before z (seats ++ Some d ∷ [])) (sym began.0.tasks) (seated_ran old mid new before now seats k d came (serves t k d mine began.2) s) in
      subst (λ x. Seated IsFor Serves old new before then' (seats ++ Some x ∷ [])) same all
  seated_by ends serves old mid new before now then' a b seats t k Refused seat came mine began is s = absurd (cc)

  pub seated_more : (ends : T → D → Type 0) → ((t : T) (k : K) (d : D) → IsFor t k → ends t d → Serves k d)
      → (old mid new : Option (List K)) (before now then' : List (T × Bool)) (a b : ℕ) (seats items : List (Option D)) (t : T) (k : K) (begun : Begun D) (seat : Option D)
      → AcceptsAll mid (k ∷ []) new → IsFor t k → Began ends a b now then' t true begun → seat_of begun ≡ Some seat → items ≡ seats ++ seat ∷ []
      → Seated IsFor Serves old mid before now seats → Seated IsFor Serves old new before then' items
  seated_more ends serves old mid new before now then' a b seats items t k begun seat came mine began is put s =
      subst (λ x. Seated IsFor Serves old new before then' x) (sym put) (seated_by ends serves old mid new before now then' a b seats t k begun seat came mine began is s)

-- ---- tasks

pending_all : {T : Type 0} (ts : List T) → pending zero (map (λ t. (t, false)) ts) ≡ ts
pending_all [] = refl
pending_all (t ∷ ts) = ap (λ us. t ∷ us) (pending_all ts)

pub pending_behind : {T : Type 0} (before : List (T × Bool)) (ts : List T) → pending (length before) (before ++ map (λ t. (t, false)) ts) ≡ ts
pending_behind [] ts = pending_all ts
pending_behind (b ∷ before) ts = pending_behind before ts

earlier_all : {T : Type 0} (ts : List T) → earlier zero (map (λ t. (t, false)) ts) ≡ []
earlier_all [] = refl
earlier_all (t ∷ ts) = earlier_all ts

-- the tasks that were started before stay to be joined
pub earlier_behind : {T : Type 0} (before : List (T × Bool)) (ts : List T) → earlier (length before) (before ++ map (λ t. (t, false)) ts) ≡ pending zero before
earlier_behind [] ts = earlier_all ts
earlier_behind ((b, true) ∷ before) ts = earlier_behind before ts
earlier_behind ((b, false) ∷ before) ts = ap (λ us. b ∷ us) (earlier_behind before ts)

-- ---- who serves a peer

pub served_by : {K R : Type 0} (left taken : K → Option (List ℕ)) (gives : R → Giving) (tally : R → Tally) (o : Outset) (tells : Option ℕ) (opened : ℕ) (work : Work K R) (k : K) (n m : Notes) (told : Option Ending) (back : Option R)
    → work ≡ works.Serves k → n ≡ no_notes → o ≡ fresh_outset tells opened → Ends left taken gives tally o work n m told back → IsServed left taken tells k m told
served_by left taken gives tally o tells opened work k n m (Some ending) back is none begun e =
    let mine = subst (λ w. Ends left taken gives tally o w n m (Some ending) back) is e in
    (ending, refl, subst (λ x. TalksFrom left taken x k no_notes m ending) (ap (λ (x : Outset). x.tells) begun) (subst (λ x. TalksFrom left taken o.tells k x m ending) none mine))
served_by left taken gives tally o tells opened work k n m None back is none begun e = absurd (subst (λ w. Ends left taken gives tally o w n m None back) is e)

module _ {K D : Type 0} (left taken : K → Option (List ℕ)) (tells : Option ℕ) (notes : D → Notes) (ending : D → Option Ending) where
  told_first : (k : K) (ks : List K) (d : D) (ds : List D) (told : Option Ending) → ending d ≡ told → IsServed left taken tells k (notes d) (ending d)
      → AllTalk (TalksAlone left taken tells) ks (map notes ds) (endings_in (map ending ds)) → AllTalk (TalksAlone left taken tells) (k ∷ ks) (notes d ∷ map notes ds) (endings_in (told ∷ map ending ds))
  told_first k ks d ds (Some e) is s rest =
      let same : s.0 ≡ e = cc in
      (subst (λ x. TalksAlone left taken tells k (notes d) x) same s.2, rest)
  told_first k ks d ds None is s rest = absurd (let other = s.1 in cc)

  pub all_talk : (ks : List K) (ds : List D) → AllServed (λ k d. IsServed left taken tells k (notes d) (ending d)) ks ds
      → AllTalk (TalksAlone left taken tells) ks (map notes ds) (endings_in (map ending ds))
  all_talk [] [] s = tt
  all_talk [] (d ∷ ds) s = absurd s
  all_talk (k ∷ ks) [] s = absurd s
  all_talk (k ∷ ks) (d ∷ ds) s = told_first k ks d ds (ending d) refl s.0 (all_talk ks ds s.1)

pub talk_count : {K : Type 0} (Talks : K → Notes → Ending → Type 0) (ks : List K) (ns : List Notes) (es : List Ending) → AllTalk Talks ks ns es → length es ≡ length ks
talk_count Talks [] [] [] t = refl
talk_count Talks [] [] (e ∷ es) t = absurd t
talk_count Talks [] (n ∷ ns) es t = absurd t
talk_count Talks (k ∷ ks) [] es t = absurd t
talk_count Talks (k ∷ ks) (n ∷ ns) [] t = absurd t
talk_count Talks (k ∷ ks) (n ∷ ns) (e ∷ es) t = ap suc (talk_count Talks ks ns es t.1)
