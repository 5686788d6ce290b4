-- What a call of the hall leaves in the receipts.
use Rattle.std.proofs.Common.{◌≡◌, ◌∙◌, ℕ, Bool, true, false, [], Result, Ok, Err, refl, subst, sym, ap}
use Rattle.std.specs.Result.{IsErr}
use Rattle.ow_traits.specs.Telling.{Telling}
use Rattle.ow_traits.specs.declared.replies.RunReply.{RunReply}
use Rattle.ow_value.specs.declared.memory.NoMemory.{NoMemory as Want}
use Rattle.ow_floor.specs.declared.answers.AnswerRefusal.{AnswerRefusal}
use Rattle.ow_decide.specs.Decision.{commits}
use Rattle.ow_decide.specs.declared.events.Event.{Event}
use Rattle.ow_decide.specs.declared.events.Told.{Told}
use Rattle.ow_decide.specs.declared.replies.Fired.{Fired}
use Rattle.ow_decide.specs.declared.replies.Reply.{Reply}
use Rattle.ow_hall.specs.Comes.{Answers, Comes, Fails, HallView, IsFired, Outcome, Replies, Wants, at_hall, decided, reply_outcome}
use Rattle.ow_hall.specs.History.{History}
use Rattle.ow_hall.specs.Performing.{unanswered, undone}
use Rattle.ow_hall.proofs.KeepLaws.{stays_same}
use Rattle.ow_desk.specs.declared.standing.Standing.{Standing}
use Rattle.ow_desk.specs.Desks.{DeskView, IsReceived}
use Rattle.ow_desk.specs.Notes.{IsStanding, Notes, WasCalled, noted}

-- ---- one call

-- a request that ran out of memory
pub wants_of : (result : Result Reply Want) → IsErr result → Replies result Wants
wants_of (Ok reply) is = let none : false ≡ true = is in cc
wants_of (Err e) is = refl

-- what was answered is noted, by copies of the event and of the answer
noted_same : (B : History) (a b : ℕ) (x y : Event) (s t : Told) (n r m : Notes) → a ≡ b → x ≡ y → s ≡ t → r ≡ n
    → m ≡ noted B a x (Answers s) r → m ≡ noted B b y (Answers t) n
noted_same B a b x y s t n r m at event told notes is =
    is ∙ (ap (λ (k : ℕ). noted B k x (Answers s) r) at ∙ (ap (λ (e : Event). noted B b e (Answers s) r) event
    ∙ (ap (λ (u : Told). noted B b y (Answers u) r) told ∙ ap (noted B b y (Answers t)) notes)))

module _ {P : Type 0} (telling : P → Telling) where
  pub told_received : (d : DeskView P) (h : HallView P) (at : ℕ) (event copied : Event) (t kept : Told) (n r m : Notes) (before : Standing)
      → Comes telling d.hall h at event (Answers t) → copied ≡ event → kept ≡ t → r ≡ n → IsStanding d.hall.ledger.entries at before
      → m ≡ noted d.hall.ledger.entries before.at copied (Answers kept) r
      → IsReceived telling d (record { hall = h; since = d.since; before = d.before }) at event (Answers t) n m
  told_received d h at event copied t kept n r m before comes same_event same_told same_notes standing is = record {
    comes = comes;
    notes = noted_same d.hall.ledger.entries before.at (at_hall d.hall at) copied event kept t n r m standing.moment_is same_event same_told same_notes is;
    since = refl;
    before = refl;
  }

  -- an event that did nothing
  pub nothing_received : (d : DeskView P) (at : ℕ) (event : Event) (n m : Notes) → m ≡ n → IsReceived telling d d at event Wants n m
  nothing_received d at event n m same = record {
    comes = (refl, refl, stays_same telling (commits (decided d.hall at event)) d.hall.store);
    notes = same;
    since = refl;
    before = refl;
  }

  -- where nothing is to be committed, an event that was not done ran out of memory
  pub only_wanted : (d e : DeskView P) (at : ℕ) (event : Event) (failed : Bool) (n m : Notes) → commits (decided d.hall at event) ≡ []
      → IsReceived telling d e at event (undone failed) n m → IsReceived telling d e at event Wants n m
  only_wanted d e at event true n m none is = absurd (is.comes.0 none)
  only_wanted d e at event false n m none is = is

  -- what is known of a call without knowledge of the hall
  pub was_called : (d e : DeskView P) (at : ℕ) (event : Event) (o : Outcome) (n m : Notes) → IsReceived telling d e at event o n m → WasCalled at event o n m
  was_called d e at event (Answers t) n m is = record { table = d.hall.tenants; before = d.hall.ledger.entries; answer_is = is.comes.0; notes = is.notes }
  was_called d e at event Wants n m is = record { table = d.hall.tenants; before = d.hall.ledger.entries; answer_is = tt; notes = is.notes }
  was_called d e at event Fails n m is = record { table = d.hall.tenants; before = d.hall.ledger.entries; answer_is = tt; notes = is.notes }

  -- the same of `begun`, `lost` and `gone`, which take no memory
  pub taken_called : (h k : HallView P) (at : ℕ) (event : Event) (t told : Told) (n m : Notes) (before : Standing) → Comes telling h k at event (Answers t)
      → IsStanding h.ledger.entries at before → told ≡ t → m ≡ noted h.ledger.entries before.at event (Answers told) n → WasCalled at event (Answers t) n m
  taken_called h k at event t told n m before comes standing same is = record {
    table = h.tenants;
    before = h.ledger.entries;
    answer_is = comes.0;
    notes = noted_same h.ledger.entries before.at (at_hall h at) event event told t n n m standing.moment_is refl same refl is;
  }

  pub reply_was_called : (d e : DeskView P) (at : ℕ) (event : Event) (result : Result Reply Want) (n m : Notes) → (o : Outcome) × Replies result o × IsReceived telling d e at event o n m
      → (o : Outcome) × Replies result o × WasCalled at event o n m
  reply_was_called d e at event result n m x = (x.0, x.1, was_called d e at event x.0 n m x.2)

  pub fired_was_called : (d e : DeskView P) (at : ℕ) (event : Event) (result : Result Fired Want) (n m : Notes) → (o : Outcome) × IsFired result o × IsReceived telling d e at event o n m
      → (o : Outcome) × IsFired result o × WasCalled at event o n m
  fired_was_called d e at event result n m x = (x.0, x.1, was_called d e at event x.0 n m x.2)

  pub wanted_called : (d e : DeskView P) (at : ℕ) (event : Event) (failed : Bool) (n m : Notes) → commits (decided d.hall at event) ≡ []
      → IsReceived telling d e at event (undone failed) n m → WasCalled at event Wants n m
  wanted_called d e at event failed n m none is = was_called d e at event Wants n m (only_wanted d e at event failed n m none is)

  pub fault_called : (d e : DeskView P) (at : ℕ) (event : Event) (failed : Bool) (n m : Notes) → failed ≡ true
      → IsReceived telling d e at event (undone failed) n m → WasCalled at event Fails n m
  fault_called d e at event true n m failed is = was_called d e at event Fails n m is
  fault_called d e at event false n m failed is = cc failed

-- a reply that isn't taken hands back what is undone
same_outcome : (reply : RunReply) (failed : Bool) → reply_outcome (Err (unanswered reply failed)) ≡ undone failed
same_outcome reply true = refl
same_outcome reply false = refl

pub reply_called : {P : Type 0} (telling : P → Telling) (d e : DeskView P) (at : ℕ) (event : Event) (reply : RunReply) (failed : Bool) (refusal : AnswerRefusal) (n m : Notes)
    → refusal ≡ unanswered reply failed → IsReceived telling d e at event (undone failed) n m → WasCalled at event (reply_outcome (Err refusal)) n m
reply_called telling d e at event reply failed refusal n m same is =
    subst (λ (o : Outcome). WasCalled at event o n m) (sym (ap (λ (r : AnswerRefusal). reply_outcome (Err r)) same ∙ same_outcome reply failed))
    (was_called telling d e at event (undone failed) n m is)
