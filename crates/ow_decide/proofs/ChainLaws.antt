-- What is decided at any event except an opening is a chain of items.
use Rattle.std.proofs.Common.{◌≡◌, ◌++◌, ◌&&◌, ◌∙◌, ℕ, Bool, true, false, cond, List, [], ◌∷◌, IfSome, Option, Some, None, Result, Ok, Err, IfOk, append_assoc, inl, inr, length, refl, sym, ap, subst}
use Rattle.std.specs.Prelude.{is_none}
use Rattle.std.specs.List.{AllByRecursion, find}
use Rattle.std.proofs.lemmas.Bool.{and_parts}
use Rattle.ow_records.specs.declared.ids.Id.{Id}
use Rattle.ow_records.specs.declared.activations.Activation.{Activation}
use Rattle.ow_records.specs.declared.outcomes.Ending.{Ending}
use Rattle.ow_records.specs.declared.outcomes.Ending.TheVariants.{Abandoned, Overran, Replied}
use Rattle.ow_records.specs.declared.record.Record.{Record}
use Rattle.ow_traits.specs.declared.replies.RunReply.{RunReply}
use Rattle.ow_slots.specs.declared.states.Slot.{Slot}
use Rattle.ow_slots.specs.Slots.{first_with}
use Rattle.ow_slots.specs.State.{recorded_of, runs}
use Rattle.ow_pool.specs.declared.answers.Place.{Place}
use Rattle.ow_pool.specs.declared.answers.Place.TheVariants as places
use Rattle.ow_tables.specs.Rows.{standing}
use Rattle.ow_keep.specs.Judged.{judged}
use Rattle.ow_keep.specs.Split.{Parts as KeptParts}
use Rattle.ow_commits.proofs.Ids.{all_both}
use Rattle.ow_floor.specs.declared.activations.Open.{Open}
use Rattle.ow_floor.specs.declared.activations.Plan.{Plan}
use Rattle.ow_floor.specs.declared.runs.Run.{Run}
use Rattle.ow_floor.specs.Calls.{abandon_items, abandoned_items, answered_items, begins, begun_items, busy_run, end_items, ended_by, first_items, first_late, goes, gone_items, is_late, items_if, late_items, late_of, loses, lost_items, next_items, order_items, overrun_first, place_on, reply_items, resume_items, run_by, sorted_by_id}
use Rattle.ow_floor.specs.Growth.{AreRight, IsRight}
use Rattle.ow_floor.specs.Laws.{IsSound}
use Rattle.ow_floor.specs.Trace.{Accepted, Begun, Drained, Drawn, Ended, Fired, Gone, Item, Lost, Ordered, Resumed, Trace, live, moment_of, open_items, shown, slots}
use Rattle.ow_floor.specs.View.{Shown as FloorShown, is_number, is_of, waits}
use Rattle.ow_floor.proofs.Coming.{right_begun, right_gone, right_lost, right_next}
use Rattle.ow_floor.proofs.Soundness.{sound_items}
use Rattle.ow_trees.specs.Steps.{steps_after, swept_on}
use Rattle.ow_trees.proofs.Each.{each_append}
use Rattle.ow_http.specs.Request.{parts_of}
use Rattle.ow_http.specs.Steps.{◌>>=◌}
use Rattle.ow_http.specs.declared.reason.Reason.{Reason}
use Rattle.ow_decide.specs.declared.events.Event.{Event}
use Rattle.ow_decide.specs.declared.events.Event.TheVariants as events
use Rattle.ow_decide.specs.Asking.{Changed, Done, Invoked, Quiet, Shown, ask_decision, request_done}
use Rattle.ow_decide.specs.Asking as asking
use Rattle.ow_decide.specs.Calling.{admitted_plan, call_plan, called_decision}
use Rattle.ow_decide.specs.Chain.{AreSteps, IsEnd, IsOneOf}
use Rattle.ow_decide.specs.Decisions.{answered_all, decide, is_opening, swept_all}
use Rattle.ow_decide.specs.Deploying.{deployed}
use Rattle.ow_decide.specs.Opening.{opened_decision, parts_taken}
use Rattle.ow_decide.specs.Sight.{Sight}
use Rattle.ow_decide.proofs.DeployLaws.{deploy_adds}
use Rattle.ow_decide.proofs.AcceptLaws.{IsAdmittedDone, IsChain, asked_admitted, called_admitted, plan_chain}
use Rattle.ow_decide.proofs.CalleeLaws.{IsAdmitted}
use Rattle.ow_decide.proofs.DrivenLaws.{AreFit, IsFit, fit_steps, steps_fit}
use Rattle.ow_decide.proofs.MadeLaws.{abandoned_right, answered_right, through_sweep, late_steps_plain, plain_live, sweep_adds, swept_right}
use Rattle.ow_decide.proofs.OfficeLaws.{office_chain}

-- ---- runs

pub all_one_of : (P : Run → Type 0) (r : Run) (rs : List Run) → IsOneOf r rs → AllByRecursion P rs → P r
all_one_of P r [] here all = absurd here
all_one_of P r (x ∷ rs) (inl same) all = subst P (sym same) all.0
all_one_of P r (x ∷ rs) (inr rest) all = all_one_of P r rs rest all.1

found_at : (p : Run → Bool) (x : Run) (rs : List Run) (o : Option Run) (b : Bool) → p x ≡ b → find p (x ∷ rs) ≡ o → (find p rs ≡ o → IfSome o (λ r. IsOneOf r rs)) → IfSome o (λ r. IsOneOf r (x ∷ rs))
found_at p x rs None b e found rest = tt
found_at p x rs (Some r) true e found rest =
    let here : Some x ≡ Some r = rw e at found in
    let same : r ≡ x = cc in
    inl same
found_at p x rs (Some r) false e found rest = inr (rest (rw e at found))

-- what is found is one of them
found_one : (p : Run → Bool) (rs : List Run) (o : Option Run) → find p rs ≡ o → IfSome o (λ r. IsOneOf r rs)
found_one p [] None found = tt
found_one p [] (Some r) found = cc
found_one p (x ∷ rs) o found = found_at p x rs o (p x) refl found (found_one p rs o)

more_of : (x : Run) (all rs : List Run) → AllByRecursion (λ r. IsOneOf r all) rs → AllByRecursion (λ r. IsOneOf r (x ∷ all)) rs
more_of x all [] each = tt
more_of x all (r ∷ rs) each = (inr each.0, more_of x all rs each.1)

each_one : (rs : List Run) → AllByRecursion (λ r. IsOneOf r rs) rs
each_one [] = tt
each_one (r ∷ rs) = (inl refl, more_of r rs rs (each_one rs))

busy_by : (s : Option Slot) (r : Option Run) (rs : List Run) → IfSome r (λ x. IsOneOf x rs) → IfSome (run_by s r) (λ x. IsOneOf x rs)
busy_by None r rs one = tt
busy_by (Some s) r rs one = one

busy_one : (run : ℕ) (T : Trace) → IfSome (busy_run run (shown T)) (λ r. IsOneOf r (live T))
busy_one run T = busy_by (first_with (runs run) (slots T)) (find (is_number run) (live T)) (live T) (found_one (is_number run) (live T) (find (is_number run) (live T)) refl)

-- ---- items of the floor's calls, except acceptances

-- the item is neither an acceptance nor part of a fire, and may be decided whatever came before it
abbrev pub IsOfCall : Sight → Item → Type 0
IsOfCall S (Accepted a) = ⊥
IsOfCall S (Drawn id at) = ⊥
IsOfCall S (Fired r) = ⊥
IsOfCall S (Resumed counts rs) = ⊥
IsOfCall S (Ordered r key) = r.begun ≡ None
IsOfCall S (Ended e) = IsEnd S e
IsOfCall S item = Unit {0}

-- at the moment
abbrev pub IsOfFloor : Sight → Item → Type 0
IsOfFloor S item = (moment_of item ≡ S.moment) × IsOfCall S item

abbrev pub AreOfFloor : Sight → Trace → Type 0
AreOfFloor S items = AllByRecursion (IsOfFloor S) items

module _ (S : Sight) where
  of_order : (p : Place) (o : Option Open) (v : FloorShown) → AreOfFloor S (order_items p o S.moment v)
  of_order (places.Run slot start) None v = tt
  of_order (places.Run slot start) (Some o) v = ((refl, refl), tt)
  of_order (places.Prewarm slot kind memory) o v = ((refl, tt), tt)
  of_order (places.Remove slots) o v = ((refl, tt), tt)
  of_order (places.Nothing reason) o v = tt

  of_end : (ending : Ending) (run : Option Run) (o : Option Open) → ((task : Activation) → IsEnd S (ended_by S.moment ending run task)) → AreOfFloor S (end_items S.moment ending run o)
  of_end ending run None ends = tt
  of_end ending run (Some o) ends = ((refl, ends o.task), tt)

  of_reply : (run : ℕ) (reply : RunReply) (v : FloorShown) (r : Option Run) → IfSome r (λ x. IsOneOf x (live S.trace)) → AreOfFloor S (reply_items S.moment run reply v r)
  of_reply run reply v None one = tt
  of_reply run reply v (Some r) one = ((refl, tt), of_end (Replied reply) (Some r) (find (is_of r.id) v.open_items) (λ task. record { by = tt; live = one }))

  of_by : (r : Run) (o : Open) (c b : Bool) → (c && is_late S.moment r o.task) ≡ b → IsOneOf r (live S.trace) → AreOfFloor S (cond b (end_items S.moment Overran (Some r) (Some o)) [])
  of_by r o c true e one = ((refl, record { by = (and_parts c (is_late S.moment r o.task) e).1; live = one }), tt)
  of_by r o c false e one = tt

  of_late : (r : Run) (s : Option Slot) (o : Option Open) → IsOneOf r (live S.trace) → AreOfFloor S (late_items S.moment r s o)
  of_late r None o one = tt
  of_late r (Some s) None one = tt
  of_late r (Some s) (Some o) one = of_by r o (is_none (recorded_of s.state)) (is_none (recorded_of s.state) && is_late S.moment r o.task) refl one

  of_first : (items rest : Trace) → AreOfFloor S items → AreOfFloor S rest → AreOfFloor S (first_items items rest)
  of_first [] rest made after = after
  of_first (item ∷ items) rest made after = made

  of_first_late : (rs : List Run) (v : FloorShown) → AllByRecursion (λ r. IsOneOf r (live S.trace)) rs → AreOfFloor S (first_late S.moment rs v)
  of_first_late [] v each = tt
  of_first_late (r ∷ rs) v each =
      of_first (late_of S.moment r v) (first_late S.moment rs v) (of_late r (first_with (runs r.number) v.slots) (find (is_of r.id) v.open_items) each.0) (of_first_late rs v each.1)

  of_if : (b : Bool) (item : Item) → IsOfFloor S item → AreOfFloor S (items_if b item)
  of_if true item made = (made, tt)
  of_if false item made = tt

  of_abandoned : (os : List Open) → AreOfFloor S (abandoned_items S.moment os)
  of_abandoned [] = tt
  of_abandoned (o ∷ os) =
      all_both (IsOfFloor S) (abandoned_items S.moment os) (end_items S.moment Abandoned None (Some o)) (of_abandoned os) (of_end Abandoned None (Some o) (λ task. record { by = tt; live = tt }))

  pub of_next : AreOfFloor S (next_items S.moment S.trace)
  of_next = of_order (place_on (shown S.trace)) (find waits (shown S.trace).open_items) (shown S.trace)

  pub of_answered : (run : ℕ) (reply : RunReply) → AreOfFloor S (answered_items S.moment run reply S.trace)
  of_answered run reply = of_reply run reply (shown S.trace) (busy_run run (shown S.trace)) (busy_one run S.trace)

  pub of_begun : (run : ℕ) → AreOfFloor S (begun_items S.moment run S.trace)
  of_begun run = of_if (begins run S.trace) (Begun run S.moment) (refl, tt)

  pub of_lost : (run : ℕ) → AreOfFloor S (lost_items S.moment run S.trace)
  of_lost run = of_if (loses run S.trace) (Lost run S.moment) (refl, tt)

  pub of_gone : (slot generation : ℕ) → AreOfFloor S (gone_items S.moment slot generation S.trace)
  of_gone slot generation = of_if (goes slot generation S.trace) (Gone slot generation S.moment) (refl, tt)

  -- the first late run of a trace in which the same runs are live
  pub of_overrun : (T : Trace) → live T ≡ live S.trace → AreOfFloor S (overrun_first S.moment T)
  of_overrun T same = of_first_late (live T) (shown T) (subst (λ (rs : List Run). AllByRecursion (λ r. IsOneOf r rs) (live T)) same (each_one (live T)))

  pub of_drain : AreOfFloor S (Drained S.moment ∷ [])
  of_drain = ((refl, tt), tt)

  pub of_abandon : AreOfFloor S (abandon_items S.moment S.trace)
  of_abandon = ((refl, tt), of_abandoned (sorted_by_id (open_items S.trace)))

  decided_call : (item : Item) (T : Trace) → IsOfFloor S item → IsFit S item T
  decided_call (Accepted a) T made = absurd made.1
  decided_call (Drawn id at) T made = absurd made.1
  decided_call (Fired r) T made = absurd made.1
  decided_call (Resumed counts rs) T made = absurd made.1
  decided_call (Ended e) T made = (made.0, inl made.1)
  decided_call item T made = made

  -- they are a part of a chain
  floor_fit : (items T : Trace) → AreOfFloor S items → AreFit S items T
  floor_fit [] T made = tt
  floor_fit (item ∷ items) T made = (decided_call item (items ++ T) made.0, floor_fit items T made.1)

  -- and they are one, where they may come
  of_floor : (items : Trace) → AreOfFloor S items → (IsSound S.trace → AreRight items (shown S.trace)) → AreSteps S items
  of_floor items made right = fit_steps S items (floor_fit items S.trace made) right

  -- what a sweep makes leaves the live runs, and so each end of a late run is of one that was live when the event came
  abbrev IsSwept : Trace → Trace → Type 0
  IsSwept items T = live T ≡ live S.trace → AreFit S items T × (live (items ++ T) ≡ live T)

  more_swept : (xs ys T : Trace) → IsSwept xs (ys ++ T) → IsSwept ys T → IsSwept (xs ++ ys) T
  more_swept xs ys T first second = λ same.
      let before = second same in
      let after = first (before.1 ∙ same) in
      (each_append (IsFit S) xs ys T after.0 before.0, ap live (append_assoc xs ys T) ∙ (after.1 ∙ before.1))

  one_swept : (T : Trace) → IsSwept (steps_after (standing S.rows) S.moment T (overrun_first S.moment T)) T
  one_swept T = λ same. (
    steps_fit S (overrun_first S.moment T) T (floor_fit (overrun_first S.moment T) T (of_overrun T same)),
    plain_live (steps_after (standing S.rows) S.moment T (overrun_first S.moment T)) T (late_steps_plain (standing S.rows) S.moment T),
  )

  swept_fit : AreFit S (swept_on (length (open_items S.trace)) (standing S.rows) S.moment S.trace) S.trace
  swept_fit = (through_sweep (standing S.rows) S.moment IsSwept (λ T same. (tt, refl)) more_swept one_swept (length (open_items S.trace)) S.trace refl).0

  swept_steps : AreSteps S (swept_all S)
  swept_steps = fit_steps S (swept_all S) ((refl, tt), swept_fit) (swept_right S)

  answered_steps : (run : ℕ) (reply : RunReply) → AreSteps S (answered_all S run reply)
  answered_steps run reply =
      fit_steps S (answered_all S run reply) (steps_fit S (answered_items S.moment run reply S.trace) S.trace (floor_fit (answered_items S.moment run reply S.trace) S.trace (of_answered run reply)))
      (answered_right S run reply)

-- a chain may come
pub steps_right : (S : Sight) (items : Trace) → AreSteps S items → IsSound S.trace → AreRight items (shown S.trace)
steps_right S [] steps sound = tt
steps_right S (item ∷ items) steps sound =
    let rest = steps_right S items steps.1 sound in
    (subst (λ (v : FloorShown). IsRight item v) (sound_items items S.trace rest sound).1 (steps.0.right sound), rest)

pub asked_chain : (S : Sight) (d : Result Done Reason) → IfOk d (IsAdmittedDone S) → IsChain S (ask_decision d).items
asked_chain S (Ok (Shown value)) ok = record { steps = tt; owed = tt; own = tt }
asked_chain S (Ok (Changed change value)) ok = record { steps = tt; owed = tt; own = tt }
asked_chain S (Ok (Invoked items plan shows)) ok = ok
asked_chain S (Ok Quiet) ok = record { steps = tt; owed = tt; own = tt }
asked_chain S (Ok (asking.Fired items id)) ok = ok
asked_chain S (Err reason) ok = record { steps = tt; owed = tt; own = tt }

pub called_chain : (S : Sight) (p : Result Plan Reason) → IfOk p (IsAdmitted S) → IsChain S (called_decision S p).items
called_chain S (Ok plan) ok = plan_chain S plan ok
called_chain S (Err reason) ok = record { steps = tt; owed = tt; own = tt }

-- what is decided is one
pub decided_steps : (S : Sight) (event : Event) → is_opening event ≡ false → AreSteps S (decide S event).items
decided_steps S (events.Opened rows) other = cc
decided_steps S (events.Asked r) other = (asked_chain S (request_done S (parts_of r)) (asked_admitted S (parts_of r))).steps
decided_steps S (events.Called name params) other = (called_chain S (call_plan S name params >>= admitted_plan S) (called_admitted S name params)).steps
decided_steps S (events.Fired trigger params note) other = (office_chain S trigger params note).steps
decided_steps S (events.Deployed drafts) other = deploy_adds (AreSteps S) (deployed S drafts) tt
decided_steps S events.Next other = of_floor S (next_items S.moment S.trace) (of_next S) (λ sound. right_next S.moment (shown S.trace) sound.slotted.within)
decided_steps S (events.Answered run reply) other = answered_steps S run reply
decided_steps S (events.Begun run) other = of_floor S (begun_items S.moment run S.trace) (of_begun S run) (λ sound. right_begun S.moment run (shown S.trace) sound.slotted.within)
decided_steps S (events.Lost run) other = of_floor S (lost_items S.moment run S.trace) (of_lost S run) (λ sound. right_lost S.moment run (shown S.trace) sound.slotted.within)
decided_steps S (events.Gone slot generation) other =
    of_floor S (gone_items S.moment slot generation S.trace) (of_gone S slot generation) (λ sound. right_gone S.moment slot generation (shown S.trace) sound.slotted.within)
decided_steps S events.Sweep other = sweep_adds S (AreSteps S) (swept_steps S) (λ until. (record { at = refl; is = tt; right = λ sound. (tt, tt) }, swept_steps S))
decided_steps S (events.Collected id) other = tt
decided_steps S events.Drain other = of_floor S (Drained S.moment ∷ []) (of_drain S) (λ sound. ((tt, tt), tt))
decided_steps S events.Reopened other = of_floor S (abandon_items S.moment S.trace) (of_abandon S) (abandoned_right S)

-- ---- with openings

module _ (S : Sight) (P : Trace → Type 0) (chain : (items : Trace) → AreSteps S items → P items) (resumed : (counts : List Id) (rs : List Record) → P (resume_items counts rs)) where
  by_opened : (parts : Option KeptParts) → P (opened_decision S.moment parts).items
  by_opened None = chain [] tt
  by_opened (Some parts) = resumed _ _

  -- what is true of a chain, and of what is taken over, is true of what is decided
  pub by_decision : (event : Event) → P (decide S event).items
  by_decision (events.Opened rows) = by_opened (parts_taken S.moment S.trace (judged rows))
  by_decision event = chain (decide S event).items (decided_steps S event refl)
