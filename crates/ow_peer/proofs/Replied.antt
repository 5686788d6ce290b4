-- Replies, and how a connection ends after them.
use Rattle.std.proofs.Common.{◌≡◌, ◌≢◌, ◌++◌, Bool, ℕ, List, [], Option, Some, None, Ok, Err, refl, sym, subst, inl, inr, ⊎_elim, drop}
use Rattle.ow_http.specs.Read.{IsRead}
use Rattle.ow_http.specs.declared.answer.Answer.{Answer}
use Rattle.ow_http.specs.declared.http_refusal.HttpRefusal.{HttpRefusal}
use Rattle.ow_http.specs.declared.http_refusal.HttpRefusal.TheVariants as https
use Rattle.ow_http.specs.declared.request.Request.{Request}
use Rattle.ow_wire.specs.Arrivals.{Gives, IsAtEnd, Sends}
use Rattle.ow_wire.specs.declared.replying.Sent.{Sent}
use Rattle.ow_wire.specs.declared.replying.Sent.TheVariants as sent
use Rattle.ow_desk.specs.Notes.{Notes}
use Rattle.ow_peer.specs.declared.ending.Ending.{Ending}
use Rattle.ow_peer.specs.declared.ending.Ending.TheVariants as endings
use Rattle.ow_peer.specs.Answered.{AnsweredBy, Unanswered}
use Rattle.ow_peer.specs.Talk.{EndsBy, Exchanges, GivesUp, IsWant, RepliesWith, Serves, Stops, ending_of, refused}

-- ---- what is sent

pub gives_up_by : (old new : Option (List ℕ)) (told : Sent) → Sends old new (refused https.NoMemory) told → GivesUp old new (ending_of told endings.NoMemory)
gives_up_by old new sent.Whole s = inr s
gives_up_by old new sent.Fault s = s
gives_up_by old new sent.NoMemory s = inl s

pub replied_by : (old new : Option (List ℕ)) (answer : Answer) (close : Bool) (ending : Ending) → GivesUp old new ending → RepliesWith old new answer close (Some ending)
replied_by old new answer close endings.Ended g = absurd g
replied_by old new answer close endings.CutShort g = absurd g
replied_by old new answer close endings.Closed g = absurd g
replied_by old new answer close endings.ReadFault g = absurd g
replied_by old new answer close endings.WriteFault g = inr g
replied_by old new answer close endings.NoMemory g = g

pub faulted : (told : Sent) (ending : Ending) → ending ≢ endings.WriteFault → ending_of told ending ≡ endings.WriteFault → told ≡ sent.Fault
faulted sent.Whole ending other is = absurd (other is)
faulted sent.Fault ending other is = refl
faulted sent.NoMemory ending other is = absurd (let e : endings.NoMemory ≡ endings.WriteFault = is in cc)

module _ (tells : Option ℕ) where
  -- ---- that memory ran out

  pub gave_up : (bytes : List ℕ) (left old new : Option (List ℕ)) (n m : Notes) (ending : Ending) → IsWant tells bytes n m → GivesUp old new ending → EndsBy tells bytes left old new n m ending
  gave_up bytes left old new n m endings.Ended w g = absurd g
  gave_up bytes left old new n m endings.CutShort w g = absurd g
  gave_up bytes left old new n m endings.Closed w g = absurd g
  gave_up bytes left old new n m endings.ReadFault w g = absurd g
  gave_up bytes left old new n m endings.WriteFault w g = (refused https.NoMemory, inr (inr (inr (w, refl))), g)
  gave_up bytes left old new n m endings.NoMemory w g = (w, g)

  -- ---- why bytes are no request

  pub refused_by : (bytes : List ℕ) (left old new : Option (List ℕ)) (n : Notes) (e : HttpRefusal) (told : Sent) → IsRead bytes (Err e) → e ≢ https.CutShort
      → Sends old new (refused e) told → EndsBy tells bytes left old new n n (ending_of told endings.Closed)
  refused_by bytes left old new n e sent.Whole read other s = (refused e, inr (e, read, other, refl, refl), s)
  refused_by bytes left old new n e sent.Fault read other s = (refused e, inr (inl (e, read, other, refl, refl)), s)
  refused_by bytes left old new n e sent.NoMemory read other s = (inl refl, inl s)

  pub cut_by : (bytes : List ℕ) (left old new : Option (List ℕ)) (n : Notes) (told : Sent) → IsRead bytes (Err https.CutShort) → bytes ≢ [] → IsAtEnd left
      → Sends old new (refused https.CutShort) told → EndsBy tells bytes left old new n n (ending_of told endings.CutShort)
  cut_by bytes left old new n sent.Whole read some end s = (refused https.CutShort, (read, some, end, refl, refl), s)
  cut_by bytes left old new n sent.Fault read some end s = (refused https.CutShort, inr (inr (inl (read, some, end, refl, refl))), s)
  cut_by bytes left old new n sent.NoMemory read some end s = (inl refl, inl s)

  -- ---- requests

  pub served_by : (old new : Option (List ℕ)) (request : Request) (answer : Answer) (n m : Notes) (result : Option Ending) → AnsweredBy tells request answer n m
      → RepliesWith old new answer request.close result → Serves tells old new request n m result
  served_by old new request answer n m None a r = (r.0, (answer, a, r.1))
  served_by old new request answer n m (Some endings.Ended) a r = absurd r
  served_by old new request answer n m (Some endings.CutShort) a r = absurd r
  served_by old new request answer n m (Some endings.Closed) a r = (r.0, (answer, a, r.1))
  served_by old new request answer n m (Some endings.ReadFault) a r = absurd r
  served_by old new request answer n m (Some endings.WriteFault) a r =
      ⊎_elim (λ f. (answer, inl a, f)) (λ f. (refused https.NoMemory, inr (inr (answer, a), refl), f)) r
  served_by old new request answer n m (Some endings.NoMemory) a r = (inr (answer, a), r)

  pub unserved_by : (old new : Option (List ℕ)) (request : Request) (n m : Notes) (ending : Ending) → Unanswered tells request n m → GivesUp old new ending → Serves tells old new request n m (Some ending)
  unserved_by old new request n m endings.Ended u g = absurd g
  unserved_by old new request n m endings.CutShort u g = absurd g
  unserved_by old new request n m endings.Closed u g = absurd g
  unserved_by old new request n m endings.ReadFault u g = absurd g
  unserved_by old new request n m endings.WriteFault u g = (refused https.NoMemory, inr (inl u, refl), g)
  unserved_by old new request n m endings.NoMemory u g = (inl u, g)

  pub asked_by : (l0 l1 t0 t1 : Option (List ℕ)) (held came now : List ℕ) (request : Request) (n m : Notes) (result : Option Ending)
      → Gives l0 l1 came → IsRead (held ++ came) (Ok request) → now ≡ drop request.size (held ++ came) → Serves tells t0 t1 request n m result → Exchanges tells l0 l1 t0 t1 held now n m result
  asked_by l0 l1 t0 t1 held came now request n m None gives read rest s =
      record { came = came; gives = gives; request = request; reads = read; rest = rest; stays = s.0; answer = s.1.0; answered = s.1.1; takes = s.1.2 }
  asked_by l0 l1 t0 t1 held came now request n m (Some endings.Ended) gives read rest s = absurd s
  asked_by l0 l1 t0 t1 held came now request n m (Some endings.CutShort) gives read rest s = absurd s
  asked_by l0 l1 t0 t1 held came now request n m (Some endings.Closed) gives read rest s =
      record { came = came; gives = gives; ends = (s.1.0, inl (request, read, s.0, s.1.1), s.1.2) }
  asked_by l0 l1 t0 t1 held came now request n m (Some endings.ReadFault) gives read rest s = absurd s
  asked_by l0 l1 t0 t1 held came now request n m (Some endings.WriteFault) gives read rest s = record {
    came = came;
    gives = gives;
    ends = (
      s.0,
      ⊎_elim (λ a. inl (request.close, (request, read, refl, a))) (λ w. inr (inr (inr (inr (request, read, w.0), w.1)))) s.1,
      s.2,
    );
  }
  asked_by l0 l1 t0 t1 held came now request n m (Some endings.NoMemory) gives read rest s =
      record { came = came; gives = gives; ends = (inr (request, read, s.0), s.1) }

  -- ---- faults

  pub unread_not : (old new : Option (List ℕ)) (request : Request) (n m : Notes) (result : Option Ending) → Serves tells old new request n m result → result ≡ Some endings.ReadFault → ⊥
  unread_not old new request n m None s is = cc
  unread_not old new request n m (Some endings.Ended) s is = absurd s
  unread_not old new request n m (Some endings.CutShort) s is = absurd s
  unread_not old new request n m (Some endings.Closed) s is = cc
  unread_not old new request n m (Some endings.ReadFault) s is = absurd s
  unread_not old new request n m (Some endings.WriteFault) s is = cc
  unread_not old new request n m (Some endings.NoMemory) s is = cc

  -- ---- over the link as it was before the request was read, and as it is after the reply

  pub stop : (l0 l1 l2 t0 t1 t2 : Option (List ℕ)) (held came : List ℕ) (n m : Notes) (told ending : Ending)
      → Gives l0 l1 came → EndsBy tells (held ++ came) l1 t1 t2 n m ending → l2 ≡ l1 → t1 ≡ t0 → told ≡ ending → Stops tells l0 l2 t0 t2 held n m told
  stop l0 l1 l2 t0 t1 t2 held came n m told ending gives ends left taken same =
      let behind = subst (λ l. EndsBy tells (held ++ came) l t1 t2 n m ending) (sym left) ends in
      let whole = subst (λ t. EndsBy tells (held ++ came) l2 t t2 n m ending) taken behind in
      record {
        came = came;
        gives = subst (λ l. Gives l0 l came) (sym left) gives;
        ends = subst (λ e. EndsBy tells (held ++ came) l2 t0 t2 n m e) (sym same) whole;
      }

  pub over_link : (l0 l1 l2 t0 t1 t2 : Option (List ℕ)) (held now : List ℕ) (n m : Notes) (result : Option Ending)
      → Exchanges tells l0 l1 t1 t2 held now n m result → l2 ≡ l1 → t1 ≡ t0 → Exchanges tells l0 l2 t0 t2 held now n m result
  over_link l0 l1 l2 t0 t1 t2 held now n m result x left taken =
      subst (λ t. Exchanges tells l0 l2 t t2 held now n m result) taken (subst (λ l. Exchanges tells l0 l t1 t2 held now n m result) (sym left) x)
