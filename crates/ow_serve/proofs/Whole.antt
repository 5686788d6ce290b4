-- The end of a service, by its peers.
use Rattle.std.proofs.Common.{◌≡◌, ◌++◌, ◌⊎◌, ℕ, zero, Bool, List, [], ◌∷◌, Option, Some, None, Result, Ok, Err, IfOk, IfSome, IsOk, OnErr, OnOk, length, map, refl, reverse, slice_get, sym, ap, arith, subst, ◌∙◌, inl, inr, ⊎_elim}
use Rattle.std.specs.Prelude.{IsOkAnd}
use Rattle.std.specs.Option.{option_to_list}
use Rattle.std.proofs.lemmas.List.{reverse-append, reverse-reverse}
use Rattle.ow_traits.specs.Telling.{Telling}
use Rattle.ow_traits.specs.Runner.{Giving, Tally}
use Rattle.ow_threads.specs.Tasks.{AllEnd, Joined, pending}
use Rattle.ow_audit.specs.Differs.{Matches}
use Rattle.ow_audit.specs.Places.{placed, standing_at}
use Rattle.ow_tenant.specs.Table.{Table}
use Rattle.ow_hall.specs.declared.entry.Entry.{Entry}
use Rattle.ow_keep.specs.Judged.{judged}
use Rattle.ow_keep.specs.Split.{Parts}
use Rattle.ow_decide.specs.Opening.{opened_decision, parts_taken}
use Rattle.ow_decide.specs.declared.events.Event.{Event}
use Rattle.ow_decide.specs.declared.events.Event.TheVariants as events
use Rattle.ow_hall.specs.Comes.{Answers, Fails, KeptRows, Outcome, Wants, drain_outcome}
use Rattle.ow_value.specs.declared.memory.NoMemory.{NoMemory as Want}
use Rattle.ow_hall.specs.History.{IsLegal, answer, moment, posting, seen}
use Rattle.ow_hall.specs.declared.posting.Posting.{Posting}
use Rattle.ow_hall.specs.declared.posting.Posting.TheVariants.{Booked, Denied, Quiet, Unbooked}
use Rattle.ow_hall.specs.Ledger.{BookView, Ledger, no_entries, opened, opening_moment, posted_as}
use Rattle.ow_hall.specs.declared.refusals.StartFault.{StartFault}
use Rattle.ow_hall.specs.declared.refusals.StartFault.TheVariants as starts
use Rattle.ow_hall.proofs.Joined.{ok_of}
use Rattle.ow_desk.specs.Notes.{CalledBy, Notes, ReceiptsView, noted, noted_as}
use Rattle.ow_desk.specs.declared.placed.Placed.{Placed}
use Rattle.ow_floor.specs.declared.answers.Drain.{Drain}
use Rattle.ow_peer.specs.declared.ending.Ending.{Ending}
use Rattle.ow_serve.specs.declared.accepting.Stopped.{Stopped}
use Rattle.ow_serve.specs.declared.accepting.Stopped.TheVariants as stops
use Rattle.ow_serve.specs.declared.served.ServedEnd.{ServedEnd}
use Rattle.ow_serve.specs.declared.served.ServedEnd.TheVariants as ends
use Rattle.ow_serve.specs.Duties.{IsServed, TalksAlone}
use Rattle.ow_serve.specs.Ended.{BeginsWith, BookBegins, BookOpens, Closes, Drains, IsEnd, IsFirst, IsOpenedEnd, IsOpenedOver, IsWhole, KeepsBook, KeepsFirst, Leaves, LeavesStore, Left, OpensAndDrains, OpensOver, Serves, earlier, opening_notes, unopened}
use Rattle.ow_serve.specs.Working.{AllWork, AllWorkBy, Outset, fresh_outset}
use Rattle.ow_serve.specs.Peers.{AcceptsPeers, AllTalk, Seated, endings_in, filled}
use Rattle.ow_serve.proofs.Seating.{all_served, all_talk, as_many, earlier_behind, pending_behind, talk_count}

module _ {T K D : Type 0} (Own : Notes → Type 0) (left taken : K → Option (List ℕ)) (tells : Option ℕ) (notes : D → Notes) (ending : D → Option Ending) (IsFor : T → K → Type 0) (task_ends : T → D → Type 0)
    (serves : (t : T) (k : K) (d : D) → IsFor t k → task_ends t d → IsServed left taken tells k (notes d) (ending d)) (Work : List Notes → Type 0) where
  abbrev Mine : K → D → Type 0
  Mine k d = IsServed left taken tells k (notes d) (ending d)

  -- the results of the peers
  talk_by : (old new : Option (List K)) (before now : List (T × Bool)) (seats : List (Option D)) (joined : List D) (s : Seated IsFor Mine old new before now seats)
      → AllEnd task_ends (pending (length before) now) joined
      → AllTalk (TalksAlone left taken tells) s.peers (map notes (filled seats joined)) (endings_in (map ending (filled seats joined)))
  talk_by old new before now seats joined s all =
      let started : pending (length before) now ≡ s.started = ap (λ z. pending (length before) z) s.tasks ∙ pending_behind before s.started in
      let mine : AllEnd task_ends s.started joined = subst (λ ts. AllEnd task_ends ts joined) started all in
      all_talk left taken tells notes ending s.peers (filled seats joined) (all_served IsFor Mine task_ends serves s.started s.peers seats joined s.seated mine)

  -- the results of the tasks that were started before
  work_by : (old new : Option (List K)) (before now : List (T × Bool)) (seats : List (Option D)) (others : List D) (s : Seated IsFor Mine old new before now seats)
      → ((os : List D) → AllEnd task_ends (pending zero before) os → Work (map notes os)) → AllEnd task_ends (earlier (length before) now) others → Work (map notes others)
  work_by old new before now seats others s works all =
      works others (subst (λ ts. AllEnd task_ends ts others) (ap (λ z. earlier (length before) z) s.tasks ∙ earlier_behind before s.started) all)

  module _ (old new : Option (List K)) (before now : List (T × Bool)) (most : ℕ) (seats : List (Option D)) (joined others : List D) (receipts : List Notes) (endings : List Ending)
      (all : AllEnd task_ends (pending (length before) now) joined) (earlier_all : AllEnd task_ends (earlier (length before) now) others)
      (works : (os : List D) → AllEnd task_ends (pending zero before) os → Work (map notes os)) where
    abbrev Out : Stopped → ServedEnd → Ledger → Type 0
    Out stopped end book = Leaves Own (map notes (filled seats joined)) (map ending (filled seats joined)) (map notes others) stopped end book receipts endings

    whole_by : (stopped : Stopped) (end : ServedEnd) (book : Ledger) → Seated IsFor Mine old new before now seats → Out stopped end book → Matches receipts book
        → IsWhole Own (TalksAlone left taken tells) Work old new book receipts endings
    whole_by stopped end book s l matches = record {
      matches = matches;
      table = l.table;
      legal = l.legal;
      peers = s.peers;
      accepts = s.accepts;
      own = l.own;
      served = map notes (filled seats joined);
      others = map notes others;
      receipts_are = l.receipts_are;
      owns = l.owns;
      talk = subst (λ es. AllTalk (TalksAlone left taken tells) s.peers (map notes (filled seats joined)) es) (sym l.endings_are) (talk_by old new before now seats joined s all);
      work = work_by old new before now seats others s works earlier_all;
    }

    -- as many endings as seats
    count_by : (stopped : Stopped) (end : ServedEnd) (book : Ledger) → Seated IsFor Mine old new before now seats → Out stopped end book → length endings ≡ length seats
    count_by stopped end book s l =
        ap length l.endings_are ∙ talk_count (TalksAlone left taken tells) s.peers (map notes (filled seats joined)) (endings_in (map ending (filled seats joined))) (talk_by old new before now seats joined s all)
        ∙ as_many IsFor Mine s.started s.peers seats s.seated

    closed_by : (book : BookView) → AcceptsPeers IsFor Mine old new before now most seats stops.Closed → Out stops.Closed ends.Closed book.ledger → Matches receipts book.ledger
        → Serves Own (TalksAlone left taken tells) Work old new most ends.Closed (Some book) receipts endings
    closed_by book a l matches = (
      whole_by stops.Closed ends.Closed book.ledger a.0 l matches,
      (let few = a.1 in let same = count_by stops.Closed ends.Closed book.ledger a.0 l in omega (arith, few, same)),
      ⊎_elim (λ none. inl none) (λ many. inr (count_by stops.Closed ends.Closed book.ledger a.0 l ∙ many)) a.2,
    )

    left_by : (book : BookView) (stopped : Stopped) (end : ServedEnd) → AcceptsPeers IsFor Mine old new before now most seats stopped → Out stopped end book.ledger
        → Serves Own (TalksAlone left taken tells) Work old new most end (Some book) receipts endings
    left_by book stopped ends.Closed a l =
        let same = l.is_end.0 in
        closed_by book (subst (λ s. AcceptsPeers IsFor Mine old new before now most seats s) same a) (subst (λ s. Out s ends.Closed book.ledger) same l) l.is_end.1
    left_by book stopped ends.ListenFault a l =
        let came = subst (λ s. AcceptsPeers IsFor Mine old new before now most seats s) l.is_end.0 a in
        let same = count_by stopped ends.ListenFault book.ledger came.0 l in
        let few = came.1 in
        (whole_by stopped ends.ListenFault book.ledger came.0 l l.is_end.1, omega (arith, few, same))
    left_by book stopped ends.NoWorker a l = absurd l.is_end
    left_by book stopped ends.StoreFault a l = absurd l.is_end
    left_by book stopped (ends.BadKept key) a l = absurd l.is_end
    left_by book stopped ends.NoMemory a l = tt
    left_by book stopped (ends.Unmatched difference) a l = (l.is_end, (l.own, map notes (filled seats joined) ++ map notes others, l.receipts_are, l.owns))

    wanting : (end : ServedEnd) (book : Option BookView) → end ≡ ends.NoMemory → Serves Own (TalksAlone left taken tells) Work old new most end book receipts endings
    wanting end book is = subst (λ e. Serves Own (TalksAlone left taken tells) Work old new most e book receipts endings) (sym is) tt

    left_so : (stopped : Stopped) (end : ServedEnd) (book : Option BookView) → AcceptsPeers IsFor Mine old new before now most seats stopped
        → Left Own (map notes (filled seats joined)) (map ending (filled seats joined)) (map notes others) stopped end book receipts endings
        → Serves Own (TalksAlone left taken tells) Work old new most end book receipts endings
    left_so stopped end None a l = wanting end None l
    left_so stopped end (Some book) a l = left_by book stopped end a l

  pub serves_by : (old new : Option (List K)) (before now : List (T × Bool)) (most first : ℕ) (seats : List (Option D)) (stopped : Stopped) (end : ServedEnd) (book : Option BookView)
      (receipts : List Notes) (endings : List Ending) → ((os : List D) → AllEnd task_ends (pending zero before) os → Work (map notes os)) → first ≡ length before
      → AcceptsPeers IsFor Mine old new before now most seats stopped → Closes Own task_ends notes ending first now seats stopped end book receipts endings
      → Serves Own (TalksAlone left taken tells) Work old new most end book receipts endings
  serves_by old new before now most first seats stopped end book receipts endings works is a (inl none) =
      subst (λ e. Serves Own (TalksAlone left taken tells) Work old new most e book receipts endings) (sym none) tt
  serves_by old new before now most first seats stopped end book receipts endings works is a (inr x) =
      left_so old new before now most seats x.0 x.1 receipts endings (subst (λ n. AllEnd task_ends (pending n now) x.0) is x.2) (subst (λ n. AllEnd task_ends (earlier n now) x.1) is x.3) works stopped end book a x.4

-- what is left: the results of the tasks that were joined first fill the seats, and the results of the others follow
pub closes_by : {T D V E F G : Type 0} (Own : Notes → Type 0) (task_ends : T → D → Type 0) (items : V → List D) (notes : D → Notes) (ending : D → Option Ending) (old middle now : List (T × Bool))
    (seats : List (Option D)) (stopped : Stopped) (end : ServedEnd) (book : Option BookView) (receipts : List Notes) (endings : List Ending) (first : ℕ)
    (peers : Result V E) (others : Result V F) (all : Result (V × V) G)
    → Joined task_ends items old middle first peers → Joined task_ends items middle now 0 others → IfOk all (λ a. IsOkAnd peers (λ ps. items a.0 ≡ filled seats (items ps))) → IfOk all (λ a. IsOkAnd others (λ os. items a.1 ≡ items os))
    → IfOk all (λ a. Left Own (map notes (items a.0)) (map ending (items a.0)) (map notes (items a.1)) stopped end book receipts endings) → OnErr all (end ≡ ends.NoMemory)
    → Closes Own task_ends notes ending first old seats stopped end book receipts endings
closes_by Own task_ends items notes ending old middle now seats stopped end book receipts endings first (Ok ps) (Ok os) (Ok a) p o same kept left none =
    inr (
      items ps,
      items os,
      p.0,
      subst (λ ts. AllEnd task_ends (pending 0 ts) (items os)) p.1 o.0,
      subst (λ ds. Left Own (map notes (filled seats (items ps))) (map ending (filled seats (items ps))) (map notes ds) stopped end book receipts endings) kept
          (subst (λ ds. Left Own (map notes ds) (map ending ds) (map notes (items a.1)) stopped end book receipts endings) same left),
    )
closes_by Own task_ends items notes ending old middle now seats stopped end book receipts endings first (Err e) others (Ok a) p o same kept left none = absurd same
closes_by Own task_ends items notes ending old middle now seats stopped end book receipts endings first (Ok ps) (Err e) (Ok a) p o same kept left none = absurd kept
closes_by Own task_ends items notes ending old middle now seats stopped end book receipts endings first peers others (Err e) p o same kept left none = inl none

-- by another outset, which is the same
pub accepts_as : {T K D : Type 0} (IsFor : Outset → T → K → Type 0) (left taken : K → Option (List ℕ)) (notes : D → Notes) (ending : D → Option Ending) (a b : Outset)
    (old new : Option (List K)) (before now : List (T × Bool)) (most : ℕ) (seats : List (Option D)) (stopped : Stopped) → a ≡ b
    → AcceptsPeers (IsFor a) (λ k d. IsServed left taken a.tells k (notes d) (ending d)) old new before now most seats stopped
    → AcceptsPeers (IsFor b) (λ k d. IsServed left taken b.tells k (notes d) (ending d)) old new before now most seats stopped
accepts_as IsFor left taken notes ending a b old new before now most seats stopped same =
    subst (λ (o : Outset). AcceptsPeers (IsFor o) (λ k d. IsServed left taken o.tells k (notes d) (ending d)) old new before now most seats stopped) same

pub closes_as : {T D : Type 0} (a b : Option ℕ) (n m : Notes) (task_ends : T → D → Type 0) (notes : D → Notes) (ending : D → Option Ending) (first : ℕ) (tasks : List (T × Bool))
    (seats : List (Option D)) (stopped : Stopped) (end : ServedEnd) (book : Option BookView) (receipts : List Notes) (endings : List Ending) → a ≡ b → n ≡ m
    → Closes (Drains a n) task_ends notes ending first tasks seats stopped end book receipts endings → Closes (Drains b m) task_ends notes ending first tasks seats stopped end book receipts endings
closes_as a b n m task_ends notes ending first tasks seats stopped end book receipts endings same is c =
    subst (λ (x : Notes). Closes (Drains b x) task_ends notes ending first tasks seats stopped end book receipts endings) is
    (subst (λ (x : Option ℕ). Closes (Drains x n) task_ends notes ending first tasks seats stopped end book receipts endings) same c)

-- a service that wasn't opened has served nobody
pub unserved_by : {K : Type 0} (Own : Notes → Type 0) (Talks : K → Notes → Ending → Type 0) (Work : List Notes → Type 0) (old : Option (List K)) (most : ℕ) (why : StartFault) (end : ServedEnd) (book : Option BookView)
    (receipts : List Notes) (endings : List Ending) → end ≡ unopened why → endings ≡ [] → Serves Own Talks Work old old most end book receipts endings
unserved_by Own Talks Work old most (starts.BadKept key) end book receipts endings is none = subst (λ e. Serves Own Talks Work old old most e book receipts endings) (sym is) (refl, none)
unserved_by Own Talks Work old most starts.StoreFault end book receipts endings is none = subst (λ e. Serves Own Talks Work old old most e book receipts endings) (sym is) (refl, none)
unserved_by Own Talks Work old most starts.NoMemory end book receipts endings is none = subst (λ e. Serves Own Talks Work old old most e book receipts endings) (sym is) tt

-- ---- the book

-- a copy of a legal book is one
pub legal_copied : {F : Type 0} (r : Result BookView F) (t : Table) (book hall : Ledger) → IsLegal t hall.entries → book ≡ hall → IfOk r (λ b. b.ledger ≡ book)
    → IfOk r (λ b. (t : Table) × IsLegal t b.ledger.entries)
legal_copied (Ok b) t book hall legal same is = (t, subst (λ (l : Ledger). IsLegal t l.entries) (sym (is ∙ same)) legal)
legal_copied (Err e) t book hall legal same is = tt

-- ---- the store

-- what a service that was opened leaves
pub store_left : {P : Type 0} (telling : P → Telling) (store : P) (end : ServedEnd) (back : Option P) (book : Option BookView) → IsOpenedEnd end → IfSome back (λ s. KeepsBook (telling s).rows book)
    → LeavesStore telling store end back book
store_left telling store ends.Closed back book opened left = left
store_left telling store ends.ListenFault back book opened left = left
store_left telling store ends.NoWorker back book opened left = left
store_left telling store (ends.Unmatched difference) back book opened left = left
store_left telling store ends.StoreFault back book opened left = absurd opened
store_left telling store (ends.BadKept key) back book opened left = absurd opened
store_left telling store ends.NoMemory None book opened left = tt
store_left telling store ends.NoMemory (Some s) book opened left = inr left

-- what one that wasn't opened hands back
pub store_back : {P : Type 0} (telling : P → Telling) (store s : P) (why : StartFault) (end : ServedEnd) (back : Option P) (book : Option BookView) → end ≡ unopened why → back ≡ Some s → (telling s).rows ≡ (telling store).rows
    → LeavesStore telling store end back book
store_back telling store s why end back book is given same =
    subst (λ e. LeavesStore telling store e back book) (sym is) (subst (λ o. LeavesStore telling store (unopened why) o book) (sym given) (by_why why))
  where
    by_why : (w : StartFault) → LeavesStore telling store (unopened w) (Some s) book
    by_why (starts.BadKept key) = same
    by_why starts.StoreFault = same
    by_why starts.NoMemory = inl same

told_allowed : (told : KeptRows) (loaded : List (List ℕ × List ℕ)) → IfSome told (λ kept. loaded ≡ kept) → IsOk (judged loaded) → IfSome told (λ rows. IsOk (judged rows))
told_allowed None loaded same allowed = tt
told_allowed (Some kept) loaded same allowed = subst (λ rows. IsOk (judged rows)) same allowed

-- one that was opened was opened over rows that are allowed
pub over_allowed : (told : KeptRows) (loaded : List (List ℕ × List ℕ)) (end : ServedEnd) → IfSome told (λ kept. loaded ≡ kept) → IsOk (judged loaded) → IsOpenedOver told end
over_allowed told loaded ends.Closed same allowed = told_allowed told loaded same allowed
over_allowed told loaded ends.ListenFault same allowed = told_allowed told loaded same allowed
over_allowed told loaded ends.NoWorker same allowed = told_allowed told loaded same allowed
over_allowed told loaded (ends.Unmatched difference) same allowed = told_allowed told loaded same allowed
over_allowed told loaded ends.StoreFault same allowed = tt
over_allowed told loaded (ends.BadKept key) same allowed = tt
over_allowed told loaded ends.NoMemory same allowed = tt

-- nothing is said of one that wasn't
pub over_none : (told : KeptRows) (why : StartFault) (end : ServedEnd) → end ≡ unopened why → IsOpenedOver told end
over_none told why end is = subst (λ e. IsOpenedOver told e) (sym is) (by_why why)
  where
    by_why : (w : StartFault) → IsOpenedOver told (unopened w)
    by_why (starts.BadKept key) = tt
    by_why starts.StoreFault = tt
    by_why starts.NoMemory = tt

-- ---- the last drain

-- entries are appended to the ones that are there
appended : (first : Entry) (n m : Notes) (more : List Placed) → m.entries ≡ n.entries ++ more → BeginsWith first n → BeginsWith first m
appended first n m more is begins = (begins.0 ++ more, is ∙ ap (λ ps. ps ++ more) begins.1)

keeps_posted : (p : Posting) (B : List Entry) (e : Entry) (n : Notes) → KeepsFirst n (noted_as p B e n)
keeps_posted Booked B e n first begins = appended first n (noted_as Booked B e n) (record { place = length B; entry = e } ∷ []) refl begins
keeps_posted Quiet B e n first begins = begins
keeps_posted Denied B e n first begins = begins
keeps_posted Unbooked B e n first begins = begins

keeps_noted : (B : List Entry) (at : ℕ) (event : Event) (o : Outcome) (n : Notes) → KeepsFirst n (noted B at event o n)
keeps_noted B at event (Answers t) n = keeps_posted (posting B t) B (record { at = at; event = event; answer = t }) n
keeps_noted B at event Wants n = λ first begins. begins
keeps_noted B at event Fails n = λ first begins. begins

-- a drain is noted after what is there
pub keeps_first : (tells : Option ℕ) (r : Result Drain Want) (n m : Notes) → CalledBy tells events.Drain (drain_outcome r) n m → KeepsFirst n m
keeps_first tells r n m has =
    let call = has.2 in
    subst (λ x. KeepsFirst n x) (sym call.notes) (keeps_noted call.before (moment call.before has.0) events.Drain (drain_outcome r) n)

-- where all is there, the drain has ended
pub has_drained : {A B E F : Type 0} (all : Result A E) (drained : Result B F) (X : Type 0) → (IsOk all → IsOk drained) → OnOk drained X → IsOk all → X
has_drained all (Ok b) X both told is = told
has_drained all (Err e) X both told is = let never = both is in cc

-- ---- the opening

-- what is all that a hall holds at its opening
abbrev IsOpening : List Entry → ReceiptsView → Type 0
IsOpening entries v = (e : Entry) × (entries ≡ e ∷ []) × (v.notes ≡ opening_notes e)

-- receipts of it
pub opens_laid : {F : Type 0} (r : Result ReceiptsView F) (x : ReceiptsView) (hall desk : List Entry) → IfOk r (IsOpening desk) → r ≡ Ok x → desk ≡ hall
    → (e : Entry) × (hall ≡ e ∷ []) × (x.notes ≡ opening_notes e)
opens_laid r x hall desk opens is same =
    let o : IsOpening desk x = ok_of (IsOpening desk) r x is opens in
    (o.0, sym same ∙ o.1, o.2)

-- they begin with it
begins_opening : (e : Entry) (n : Notes) → n ≡ opening_notes e → BeginsWith e n
begins_opening e n is = ([], ap (λ (x : Notes). x.entries) is)

-- what is at the first place of receipts that begin so
first_standing : (first : Entry) (own : Notes) (rest : List Notes) → BeginsWith first own → (more : List Entry) × (standing_at 0 (placed (own ∷ rest)) ≡ first ∷ more)
first_standing first own rest begins = (standing_at 0 (begins.0 ++ placed rest), ap (λ ps. standing_at 0 (ps ++ placed rest)) begins.1)

only_one : (o : Option Entry) (first : Entry) (more : List Entry) → option_to_list o ≡ first ∷ more → o ≡ Some first
only_one None first more is = cc
only_one (Some e) first more is = cc

at_first : (xs : List Entry) (first : Entry) → slice_get xs 0 ≡ Some first → (ys : List Entry) × (xs ≡ first ∷ ys)
at_first [] first is = cc
at_first (x ∷ ys) first is = (ys, cc)

-- a book that matches receipts begins with what the first ones begin with
begins_so : (first : Entry) (own : Notes) (rest : List Notes) (book : Ledger) → Matches (own ∷ rest) book → BeginsWith first own → IsFirst first book
begins_so first own rest book matches begins =
    let standing = first_standing first own rest begins in
    let there : slice_get (reverse book.entries) 0 ≡ Some first = only_one (slice_get (reverse book.entries) 0) first standing.0 (sym (matches.entries 0) ∙ standing.1) in
    let found = at_first (reverse book.entries) first there in
    (reverse found.0, sym (reverse-reverse book.entries) ∙ ap reverse found.1 ∙ reverse-append (first ∷ []) found.0)

pub book_begins : (own : Notes) (rest : List Notes) (receipts : List Notes) (stopped : Stopped) (end : ServedEnd) (book : BookView) (told : Option BookView) → receipts ≡ own ∷ rest → IsEnd stopped receipts book.ledger end
    → told ≡ Some book → BookBegins own end told
book_begins own rest receipts stopped end book told are is_end given =
    subst (λ o. BookBegins own end o) (sym given) (by_end end (subst (λ ns. IsEnd stopped ns book.ledger end) are is_end))
  where
    by_end : (e : ServedEnd) → IsEnd stopped (own ∷ rest) book.ledger e → BookBegins own e (Some book)
    by_end ends.Closed at = λ first begins. begins_so first own rest book.ledger at.1 begins
    by_end ends.ListenFault at = λ first begins. begins_so first own rest book.ledger at.1 begins
    by_end ends.NoWorker at = tt
    by_end ends.StoreFault at = tt
    by_end (ends.BadKept key) at = tt
    by_end ends.NoMemory at = tt
    by_end (ends.Unmatched difference) at = tt

-- where memory ran out nothing is said
pub begins_wanting : (own : Notes) (end : ServedEnd) (book : Option BookView) → end ≡ ends.NoMemory → BookBegins own end book
begins_wanting own end book is = subst (λ e. BookBegins own e book) (sym is) tt

-- as receipts go on
pub begins_on : (n m : Notes) (end : ServedEnd) (book : Option BookView) → KeepsFirst n m → BookBegins m end book → BookBegins n end book
begins_on n m ends.Closed (Some book) keeps begins = λ first at. begins first (keeps first at)
begins_on n m ends.ListenFault (Some book) keeps begins = λ first at. begins first (keeps first at)
begins_on n m ends.Closed None keeps begins = tt
begins_on n m ends.ListenFault None keeps begins = tt
begins_on n m ends.NoWorker book keeps begins = tt
begins_on n m ends.StoreFault book keeps begins = tt
begins_on n m (ends.BadKept key) book keeps begins = tt
begins_on n m ends.NoMemory book keeps begins = tt
begins_on n m (ends.Unmatched difference) book keeps begins = tt

-- a service that is ended before a peer was accepted
pub begins_not : (n : Notes) (end : ServedEnd) (book : Option BookView) → (end ≡ ends.NoMemory) ⊎ (end ≡ ends.NoWorker) → BookBegins n end book
begins_not n end book (inl is) = subst (λ e. BookBegins n e book) (sym is) tt
begins_not n end book (inr is) = subst (λ e. BookBegins n e book) (sym is) tt

-- at the opening the book has one entry
booked_so : (at : ℕ) (parts : Option Parts) → posting [] (opened_decision at parts).told ≡ Booked
booked_so at None = refl
booked_so at (Some parts) = refl

pub opening_entry : (t : Table) (loaded : List (List ℕ × List ℕ)) (at : ℕ) (entries : List Entry) → entries ≡ (opened t loaded at).entries
    → (e : Entry) × (entries ≡ e ∷ []) × (e.event ≡ events.Opened loaded)
opening_entry t loaded at entries is =
    let m = opening_moment loaded at in
    let e : Entry = record { at = m; event = events.Opened loaded; answer = answer t [] m (events.Opened loaded) } in
    let booked : posting [] (answer t [] m (events.Opened loaded)) ≡ Booked = booked_so m (parts_taken m (seen t []).trace (judged loaded)) in
    (e, is ∙ ap (λ q. (posted_as q e no_entries).entries) booked, refl)

pub one_entry : (t : Table) (loaded : List (List ℕ × List ℕ)) (at : ℕ) (entries : List Entry) → entries ≡ (opened t loaded at).entries → (e : Entry) × (entries ≡ e ∷ [])
one_entry t loaded at entries is = let one = opening_entry t loaded at entries is in (one.0, one.1)

-- over the table, at the moment, and with the rows that the store reported
pub opens_so : (tells : Option ℕ) (told : KeptRows) (t : Table) (loaded : List (List ℕ × List ℕ)) (at : ℕ) (entries : List Entry) (n : Notes) (end : ServedEnd) (book : Option BookView)
    → IfSome tells (λ m. at ≡ m) → entries ≡ (opened t loaded at).entries → IfSome told (λ kept. loaded ≡ kept) → IsOk (judged loaded) → (e : Entry) × (entries ≡ e ∷ []) × (n ≡ opening_notes e)
    → BookBegins n end book → BookOpens tells told t end book
opens_so tells told t loaded at entries n end book clock is same allowed begun begins = by_end end book begins
  where
    over : (L : Ledger) → ((first : Entry) → BeginsWith first n → IsFirst first L) → OpensOver tells told t L
    over L h =
        let first = h begun.0 (begins_opening begun.0 n begun.2) in
        record {
          rows = loaded;
          told_are = same;
          allowed = allowed;
          now = at;
          moment = clock;
          later = first.0;
          entries = first.1 ∙ ap (λ es. first.0 ++ es) (sym begun.1 ∙ is);
        }

    by_end : (e : ServedEnd) (b : Option BookView) → BookBegins n e b → BookOpens tells told t e b
    by_end ends.Closed (Some b) h = over b.ledger h
    by_end ends.ListenFault (Some b) h = over b.ledger h
    by_end ends.Closed None h = tt
    by_end ends.ListenFault None h = tt
    by_end ends.NoWorker b h = tt
    by_end ends.StoreFault b h = tt
    by_end (ends.BadKept key) b h = tt
    by_end ends.NoMemory b h = tt
    by_end (ends.Unmatched difference) b h = tt

-- nothing is said of one that wasn't opened
pub opens_none : (tells : Option ℕ) (told : KeptRows) (t : Table) (why : StartFault) (end : ServedEnd) (book : Option BookView) → end ≡ unopened why → BookOpens tells told t end book
opens_none tells told t why end book is = subst (λ e. BookOpens tells told t e book) (sym is) (by_why why)
  where
    by_why : (w : StartFault) → BookOpens tells told t (unopened w) book
    by_why (starts.BadKept key) = tt
    by_why starts.StoreFault = tt
    by_why starts.NoMemory = tt

-- ---- what is known of a service at its opening

-- its own receipts and the work of its threads, by what else they are
pub serves_as : {K : Type 0} (Own Mine : Notes → Type 0) (Talks : K → Notes → Ending → Type 0) (Work Done : List Notes → Type 0) (old new : Option (List K)) (most : ℕ) (end : ServedEnd) (book : Option BookView)
    (receipts : List Notes) (endings : List Ending) → ((n : Notes) → Own n → Mine n) → ((ns : List Notes) → Work ns → Done ns)
    → Serves Own Talks Work old new most end book receipts endings → Serves Mine Talks Done old new most end book receipts endings
serves_as Own Mine Talks Work Done old new most end book receipts endings own work = by_end end book
  where
    whole : (L : Ledger) → IsWhole Own Talks Work old new L receipts endings → IsWhole Mine Talks Done old new L receipts endings
    whole L w = record {
      matches = w.matches;
      table = w.table;
      legal = w.legal;
      peers = w.peers;
      accepts = w.accepts;
      own = w.own;
      served = w.served;
      others = w.others;
      receipts_are = w.receipts_are;
      owns = own w.own w.owns;
      talk = w.talk;
      work = work w.others w.work;
    }

    by_end : (e : ServedEnd) (b : Option BookView) → Serves Own Talks Work old new most e b receipts endings → Serves Mine Talks Done old new most e b receipts endings
    by_end ends.Closed (Some b) s = (whole b.ledger s.0, s.1, s.2)
    by_end ends.Closed None s = s
    by_end ends.ListenFault (Some b) s = (whole b.ledger s.0, s.1)
    by_end ends.ListenFault None s = s
    by_end (ends.Unmatched difference) (Some b) s = (s.0, (s.1.0, s.1.1, s.1.2, own s.1.0 s.1.3))
    by_end (ends.Unmatched difference) None s = s
    by_end ends.NoWorker b s = s
    by_end ends.StoreFault b s = s
    by_end (ends.BadKept key) b s = s
    by_end ends.NoMemory b s = s

-- by the clock, the moment and the receipts with which it was opened
pub opened_serves : {K R : Type 0} (left taken : K → Option (List ℕ)) (gives : R → Giving) (tally : R → Tally) (runners : List R) (tells clock : Option ℕ) (opened now : ℕ) (n : Notes) (first : Entry)
    (old new : Option (List K)) (most : ℕ) (end : ServedEnd) (book : Option BookView) (receipts : List Notes) (endings : List Ending)
    → tells ≡ clock → opened ≡ now → n ≡ opening_notes first → IfSome clock (λ m. now ≡ m)
    → Serves (Drains tells n) (TalksAlone left taken tells) (AllWork gives tally (fresh_outset tells opened) runners) old new most end book receipts endings
    → Serves (OpensAndDrains clock) (TalksAlone left taken clock) (AllWorkBy gives tally clock runners) old new most end book receipts endings
opened_serves left taken gives tally runners tells clock opened now n first old new most end book receipts endings same at noted moment s =
    let by_clock = subst (λ (x : Option ℕ). Serves (Drains x n) (TalksAlone left taken x) (AllWork gives tally (fresh_outset x opened) runners) old new most end book receipts endings) same s in
    let by_moment = subst (λ (x : ℕ). Serves (Drains clock n) (TalksAlone left taken clock) (AllWork gives tally (fresh_outset clock x) runners) old new most end book receipts endings) at by_clock in
    let by_notes =
    subst (λ (x : Notes). Serves (Drains clock x) (TalksAlone left taken clock) (AllWork gives tally (fresh_outset clock now) runners) old new most end book receipts endings) noted by_moment in
    serves_as (Drains clock (opening_notes first)) (OpensAndDrains clock) (TalksAlone left taken clock) (AllWork gives tally (fresh_outset clock now) runners) (AllWorkBy gives tally clock runners)
    old new most end book receipts endings (λ m drains. (first, drains)) (λ ns work. (now, moment, work)) by_notes
