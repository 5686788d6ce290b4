-- The threads that are begun before any peer is accepted, and their results.
use Rattle.std.proofs.Common.{◌≡◌, ◌++◌, ◌∙◌, ℕ, zero, Bool, false, List, [], ◌∷◌, Option, Some, None, IsSomeAnd, Result, Ok, Err, OnOk, length, map, ap, arith, refl, subst, sym, append_assoc, append-nil}
use Rattle.std.proofs.lemmas.List.{map-append}
use Rattle.ow_traits.specs.Runner.{Giving, Tally}
use Rattle.ow_threads.specs.Tasks.{AllEnd, pending}
use Rattle.ow_desk.specs.Notes.{Notes, no_notes}
use Rattle.ow_peer.specs.declared.ending.Ending.{Ending}
use Rattle.ow_serve.specs.declared.duty.Work.{Work}
use Rattle.ow_serve.specs.declared.duty.Work.TheVariants.{Turns, Sweeps, Reaps}
use Rattle.ow_serve.specs.Duties.{AllFor, AllStarted, BeginsAll, Ends}
use Rattle.ow_serve.specs.Working.{AllWork, MakesTurns, Outset}
use Rattle.ow_serve.proofs.Seating.{pending_behind}

-- ---- tasks that are started

module _ {T W : Type 0} (IsFor : T → W → Type 0) where
  all_for_both : (ts us : List T) (vs ws : List W) → AllFor IsFor ts vs → AllFor IsFor us ws → AllFor IsFor (ts ++ us) (vs ++ ws)
  all_for_both [] us [] ws a b = b
  all_for_both [] us (v ∷ vs) ws a b = absurd a
  all_for_both (t ∷ ts) us [] ws a b = absurd a
  all_for_both (t ∷ ts) us (v ∷ vs) ws a b = (a.0, all_for_both ts us vs ws a.1 b)

  pub started_none : (old : List (T × Bool)) → AllStarted IsFor [] old old
  started_none old = record { started = []; tasks = sym (append-nil old); all_for = tt }

  pub started_one : (t : T) (w : W) (old new : List (T × Bool)) → new ≡ old ++ (t, false) ∷ [] → IsFor t w → AllStarted IsFor (w ∷ []) old new
  started_one t w old new is mine = record { started = t ∷ []; tasks = is; all_for = (mine, tt) }

  -- where that is the result
  pub started_if : {A E : Type 0} (w : W) (old new : List (T × Bool)) {r q : Result A E} → r ≡ q → OnOk q (AllStarted IsFor (w ∷ []) old new) → OnOk r (AllStarted IsFor (w ∷ []) old new)
  started_if w old new is so = subst (λ x. OnOk x (AllStarted IsFor (w ∷ []) old new)) (sym is) so

  pub started_both : (vs ws : List W) (old middle new : List (T × Bool)) → AllStarted IsFor vs old middle → AllStarted IsFor ws middle new → AllStarted IsFor (vs ++ ws) old new
  started_both vs ws old middle new a b = record {
    started = a.started ++ b.started;
    tasks = b.tasks ∙ ap (λ z. z ++ map (λ t. (t, false)) b.started) a.tasks ∙ append_assoc old (map (λ t. (t, false)) a.started) (map (λ t. (t, false)) b.started)
        ∙ ap (λ z. old ++ z) (sym (map-append (λ t. (t, false)) a.started b.started));
    all_for = all_for_both a.started b.started vs ws a.all_for b.all_for;
  }

-- tasks for the same, by what else they are
all_for_as : {T W : Type 0} (IsFor Mine : T → W → Type 0) → ((t : T) (w : W) → IsFor t w → Mine t w) → (ts : List T) (ws : List W) → AllFor IsFor ts ws → AllFor Mine ts ws
all_for_as IsFor Mine so [] [] a = a
all_for_as IsFor Mine so [] (w ∷ ws) a = absurd a
all_for_as IsFor Mine so (t ∷ ts) [] a = absurd a
all_for_as IsFor Mine so (t ∷ ts) (w ∷ ws) a = (so t w a.0, all_for_as IsFor Mine so ts ws a.1)

pub started_as : {T W : Type 0} (IsFor Mine : T → W → Type 0) → ((t : T) (w : W) → IsFor t w → Mine t w) → (ws : List W) (old new : List (T × Bool)) → AllStarted IsFor ws old new → AllStarted Mine ws old new
started_as IsFor Mine so ws old new s = record { started = s.started; tasks = s.tasks; all_for = all_for_as IsFor Mine so s.started ws s.all_for }

-- where they were started
pub started_as_if : {T W A E : Type 0} (IsFor Mine : T → W → Type 0) → ((t : T) (w : W) → IsFor t w → Mine t w) → (r : Result A E) (ws : List W) (old new : List (T × Bool))
    → OnOk r (AllStarted IsFor ws old new) → OnOk r (AllStarted Mine ws old new)
started_as_if IsFor Mine so (Ok x) ws old new s = started_as IsFor Mine so ws old new s
started_as_if IsFor Mine so (Err e) ws old new s = tt

-- ---- workers, sweeper and reaper

module _ {T K R : Type 0} (IsFor : T → Work K R → Type 0) where
  -- of all these runners the rest is still to get a worker
  pub record Midway (all rest : List R) (old new : List (T × Bool)) : Type 0 where
    pub workers : List R
    pub all_are : all ≡ workers ++ rest
    pub begun : AllStarted IsFor (map (λ r. Turns r) workers) old new

  pub midway_start : (all : List R) (old : List (T × Bool)) → Midway all all old old
  midway_start all old = record { workers = []; all_are = refl; begun = started_none IsFor old }

  pub midway_one : (all rest : List R) (r : R) (old middle new : List (T × Bool)) → Midway all (r ∷ rest) old middle → AllStarted IsFor (Turns r ∷ []) middle new → Midway all rest old new
  midway_one all rest r old middle new was one = record {
    workers = was.workers ++ r ∷ [];
    all_are = was.all_are ∙ sym (append_assoc was.workers (r ∷ []) rest);
    begun = subst (λ ws. AllStarted IsFor ws old new) (sym (map-append (λ r. Turns r) was.workers (r ∷ [])))
        (started_both IsFor (map (λ r. Turns r) was.workers) (Turns r ∷ []) old middle new was.begun one);
  }

  -- after the last of them
  pub midway_end : (all runners rest : List R) (old new : List (T × Bool)) → all ≡ runners → Midway all rest old new → length rest ≡ 0 → AllStarted IsFor (map (λ r. Turns r) runners) old new
  midway_end all runners [] old new same m h = subst (λ rs. AllStarted IsFor (map (λ r. Turns r) rs) old new) (sym (append-nil m.workers) ∙ sym m.all_are ∙ same) m.begun
  midway_end all runners (r ∷ rest) old new same m h = absurd (omega arith)

  begins_so : (workers runners : List R) (last : R) (old a b new : List (T × Bool)) → runners ≡ workers ++ last ∷ [] → AllStarted IsFor (map (λ r. Turns r) workers) old a
      → AllStarted IsFor (Sweeps ∷ []) a b → AllStarted IsFor (Reaps last ∷ []) b new → BeginsAll IsFor runners old new
  begins_so workers runners last old a b new are turns sweeps reaps = record {
    workers = workers;
    last = last;
    runners_are = are;
    begun = started_both IsFor (map (λ r. Turns r) workers) (Sweeps ∷ Reaps last ∷ []) old a new turns (started_both IsFor (Sweeps ∷ []) (Reaps last ∷ []) a b new sweeps reaps);
  }

  -- after the last call
  pub begins_by : {A E : Type 0} (r : Result A E) (workers runners : List R) (last : R) (old a b new : List (T × Bool)) → runners ≡ workers ++ last ∷ []
      → AllStarted IsFor (map (λ r. Turns r) workers) old a → AllStarted IsFor (Sweeps ∷ []) a b → OnOk r (AllStarted IsFor (Reaps last ∷ []) b new) → OnOk r (BeginsAll IsFor runners old new)
  begins_by (Ok x) workers runners last old a b new are turns sweeps reaps = begins_so workers runners last old a b new are turns sweeps reaps
  begins_by (Err e) workers runners last old a b new are turns sweeps reaps = tt

-- ---- their results

all_end_by : {T W D : Type 0} (IsFor : T → W → Type 0) (ends : T → D → Type 0) (goes : W → D → Type 0) → ((t : T) (w : W) (d : D) → IsFor t w → ends t d → goes w d)
    → (ts : List T) (ws : List W) (ds : List D) → AllFor IsFor ts ws → AllEnd ends ts ds → AllEnd goes ws ds
all_end_by IsFor ends goes so [] [] [] f e = tt
all_end_by IsFor ends goes so [] [] (d ∷ ds) f e = absurd e
all_end_by IsFor ends goes so [] (w ∷ ws) ds f e = absurd f
all_end_by IsFor ends goes so (t ∷ ts) [] ds f e = absurd f
all_end_by IsFor ends goes so (t ∷ ts) (w ∷ ws) [] f e = absurd e
all_end_by IsFor ends goes so (t ∷ ts) (w ∷ ws) (d ∷ ds) f e = (so t w d f.0 e.0, all_end_by IsFor ends goes so ts ws ds f.1 e.1)

some_and : {X : Type 0} (P : X → Type 0) (o : Option X) → IsSomeAnd o P → (x : X) × P x
some_and P None h = absurd h
some_and P (Some x) h = (x, h)

module _ {K R D : Type 0} (left taken : K → Option (List ℕ)) (gives : R → Giving) (tally : R → Tally) (notes : D → Notes) (ending : D → Option Ending) (back : D → Option R) (o : Outset) where
  abbrev Goes : Work K R → D → Type 0
  Goes w d = Ends left taken gives tally o w no_notes (notes d) (ending d) (back d)

  work_so : (workers : List R) (last : R) (ds : List D) → AllEnd Goes (map (λ r. Turns r) workers ++ Sweeps ∷ Reaps last ∷ []) ds → AllWork gives tally o (workers ++ last ∷ []) (map notes ds)
  work_so [] last [] e = absurd e
  work_so [] last (s ∷ []) e = absurd e.1
  work_so [] last (s ∷ p ∷ []) e = record {
    workers = [];
    last = last;
    runners_are = refl;
    by_workers = [];
    by_sweeper = notes s;
    by_reaper = notes p;
    others_are = refl;
    worked = tt;
    swept = e.0.1;
    reaped = e.1.0.2;
  }
  work_so [] last (s ∷ p ∷ d ∷ ds) e = absurd e.1.1
  work_so (r ∷ workers) last [] e = absurd e
  work_so (r ∷ workers) last (d ∷ ds) e =
      let rest = work_so workers last ds e.1 in
      let turns = some_and (λ x. MakesTurns (gives r) (tally r) (tally x) o no_notes (notes d)) (back d) e.0.1 in
      record {
        workers = r ∷ rest.workers;
        last = rest.last;
        runners_are = ap (λ rs. r ∷ rs) rest.runners_are;
        by_workers = notes d ∷ rest.by_workers;
        by_sweeper = rest.by_sweeper;
        by_reaper = rest.by_reaper;
        others_are = ap (λ ns. notes d ∷ ns) rest.others_are;
        worked = ((tally turns.0, turns.1), rest.worked);
        swept = rest.swept;
        reaped = rest.reaped;
      }

  pub all_work : {T : Type 0} (work : T → Work K R) (start : T → Notes) (begins : T → Outset) (runners : List R) (old before : List (T × Bool)) (ds : List D)
      → BeginsAll (λ t w. (work t ≡ w) × (start t ≡ no_notes) × (begins t ≡ o)) runners old before → old ≡ []
      → AllEnd (λ t d. Ends left taken gives tally (begins t) (work t) (start t) (notes d) (ending d) (back d)) (pending zero before) ds → AllWork gives tally o runners (map notes ds)
  all_work work start begins runners old before ds b none all =
      let fresh : before ≡ [] ++ map (λ t. (t, false)) b.begun.started = b.begun.tasks ∙ ap (λ z. z ++ map (λ t. (t, false)) b.begun.started) none in
      let started : pending zero before ≡ b.begun.started = ap (λ z. pending zero z) fresh ∙ pending_behind [] b.begun.started in
      let mine : AllEnd (λ t d. Ends left taken gives tally (begins t) (work t) (start t) (notes d) (ending d) (back d)) b.begun.started ds =
      subst (λ ts. AllEnd (λ t d. Ends left taken gives tally (begins t) (work t) (start t) (notes d) (ending d) (back d)) ts ds) started all in
      let went : AllEnd Goes (map (λ r. Turns r) b.workers ++ Sweeps ∷ Reaps b.last ∷ []) ds =
      all_end_by (λ t w. (work t ≡ w) × (start t ≡ no_notes) × (begins t ≡ o)) (λ t d. Ends left taken gives tally (begins t) (work t) (start t) (notes d) (ending d) (back d)) Goes
      (λ t w d f e. subst (λ x. Ends left taken gives tally x w no_notes (notes d) (ending d) (back d)) f.2
      (subst (λ n. Ends left taken gives tally (begins t) w n (notes d) (ending d) (back d)) f.1 (subst (λ v. Ends left taken gives tally (begins t) v (start t) (notes d) (ending d) (back d)) f.0 e)))
      b.begun.started (map (λ r. Turns r) b.workers ++ Sweeps ∷ Reaps b.last ∷ []) ds b.begun.all_for mine in
      subst (λ rs. AllWork gives tally o rs (map notes ds)) (sym b.runners_are) (work_so b.workers b.last ds went)
