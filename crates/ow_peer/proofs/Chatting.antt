-- One exchange after the others.
use Rattle.std.proofs.Common.{◌≡◌, ◌++◌, false, ℕ, List, [], ◌∷◌, Option, Ok, refl, sym, ap, subst, ◌∙◌, append_assoc, append-nil, drop}
use Rattle.std.proofs.lemmas.List.{drop-append-le}
use Rattle.ow_traits.specs.Streams.{Takes}
use Rattle.ow_traits.proofs.Taking.{Takes-none, Takes-then}
use Rattle.ow_http.specs.Read.{IsRead}
use Rattle.ow_http.specs.Reply.{reply_bytes}
use Rattle.ow_wire.specs.Arrivals.{Gives}
use Rattle.ow_wire.proofs.Came.{gives_nothing, gives_then}
use Rattle.ow_wire.proofs.ReadsOn.{reads_on, within}
use Rattle.ow_desk.specs.Notes.{Notes}
use Rattle.ow_peer.specs.declared.ending.Ending.{Ending}
use Rattle.ow_peer.specs.Answered.{AnsweredBy}
use Rattle.ow_peer.specs.Talk.{Chats, Exchange, GoesOn, Stops, Talks}

module _ (tells : Option ℕ) where
  -- where more bytes are appended, they are appended to the rest
  chats_on : (xs : List Exchange) (bytes rest more : List ℕ) (n m : Notes) (written : List ℕ) → Chats tells xs bytes rest n m written → Chats tells xs (bytes ++ more) (rest ++ more) n m written
  chats_on [] bytes rest more n m written c = (ap (λ z. z ++ more) c.0, c.1, c.2)
  chats_on (x ∷ xs) bytes rest more n m written c =
      let behind = chats_on xs (drop x.request.size bytes) rest more c.2.0 m c.2.1 c.2.4 in
      let same = drop-append-le x.request.size bytes more (within bytes x.request c.0) in
      (reads_on bytes more x.request c.0, c.1, (c.2.0, c.2.1, c.2.2, c.2.3, subst (λ b. Chats tells xs b (rest ++ more) c.2.0 m c.2.1) (sym same) behind))

  chats_more : (xs : List Exchange) (x : Exchange) (bytes rest : List ℕ) (n m k : Notes) (written : List ℕ) → Chats tells xs bytes rest n m written
      → IsRead rest (Ok x.request) → x.request.close ≡ false → AnsweredBy tells x.request x.answer m k
      → Chats tells (xs ++ x ∷ []) bytes (drop x.request.size rest) n k (written ++ reply_bytes x.answer)
  chats_more [] x bytes rest n m k written c read stays answered = (
    subst (λ b. IsRead b (Ok x.request)) c.0 read,
    stays,
    (
      k,
      [],
      subst (λ o. AnsweredBy tells x.request x.answer o k) c.1 answered,
      ap (λ z. z ++ reply_bytes x.answer) c.2 ∙ sym (append-nil (reply_bytes x.answer)),
      (ap (drop x.request.size) c.0, refl, refl),
    ),
  )
  chats_more (y ∷ ys) x bytes rest n m k written c read stays answered = (
    c.0,
    c.1,
    (
      c.2.0,
      c.2.1 ++ reply_bytes x.answer,
      c.2.2,
      ap (λ z. z ++ reply_bytes x.answer) c.2.3 ∙ append_assoc (reply_bytes y.answer) c.2.1 (reply_bytes x.answer),
      chats_more ys x (drop y.request.size bytes) rest c.2.0 m k c.2.1 c.2.4 read stays answered,
    ),
  )

  -- all exchanges up to now
  pub record SoFar (left_old left_new taken_old taken_new : Option (List ℕ)) (held : List ℕ) (n m : Notes) : Type 0 where
    pub heard : List ℕ
    pub gives : Gives left_old left_new heard
    pub exchanges : List Exchange
    pub written : List ℕ
    pub chats : Chats tells exchanges heard held n m written
    pub takes : Takes taken_old taken_new written

  pub none_yet : (left taken : Option (List ℕ)) (n : Notes) → SoFar left left taken taken [] n n
  none_yet left taken n =
      record { heard = []; gives = gives_nothing left; exchanges = []; written = []; chats = (refl, refl, refl); takes = Takes-none taken }

  pub one_more : (l0 l1 l2 t0 t1 t2 : Option (List ℕ)) (held now : List ℕ) (n m k : Notes) → SoFar l0 l1 t0 t1 held n m → GoesOn tells l1 l2 t1 t2 held now m k
      → SoFar l0 l2 t0 t2 now n k
  one_more l0 l1 l2 t0 t1 t2 held now n m k s x = record {
    heard = s.heard ++ x.came;
    gives = gives_then l0 l1 l2 s.heard x.came s.gives x.gives;
    exchanges = s.exchanges ++ record { request = x.request; answer = x.answer } ∷ [];
    written = s.written ++ reply_bytes x.answer;
    chats = subst (λ b. Chats tells (s.exchanges ++ record { request = x.request; answer = x.answer } ∷ []) (s.heard ++ x.came) b n k (s.written ++ reply_bytes x.answer))
        (sym x.rest)
        (chats_more s.exchanges (record { request = x.request; answer = x.answer }) (s.heard ++ x.came) (held ++ x.came) n m k s.written
        (chats_on s.exchanges s.heard held x.came n m s.written s.chats) x.reads x.stays x.answered);
    takes = Takes-then t0 t1 t2 s.written (reply_bytes x.answer) s.takes x.takes;
  }

  pub ends_so : (l0 l1 l2 t0 t1 t2 : Option (List ℕ)) (held : List ℕ) (n m k : Notes) (ending : Ending) → SoFar l0 l1 t0 t1 held n m
      → Stops tells l1 l2 t1 t2 held m k ending → Talks tells l0 l2 t0 t2 n k ending
  ends_so l0 l1 l2 t0 t1 t2 held n m k ending s x = record {
    heard = s.heard ++ x.came;
    gives = gives_then l0 l1 l2 s.heard x.came s.gives x.gives;
    exchanges = s.exchanges;
    rest = held ++ x.came;
    middle = m;
    written = s.written;
    chats = chats_on s.exchanges s.heard held x.came n m s.written s.chats;
    before = t1;
    takes = s.takes;
    ends = x.ends;
  }
