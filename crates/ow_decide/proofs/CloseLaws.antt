-- No decision leaves a fire open: after what is decided none is, where none was before.
use Rattle.std.proofs.Common.{◌≡◌, ◌++◌, ℕ, Bool, true, false, if◌then◌else◌, List, [], ◌∷◌, Option, Some, None, Result, Ok, Err, IfOk, length, refl}
use Rattle.std.specs.List.{AllByRecursion, find}
use Rattle.ow_value.specs.Value.{V, Pairs}
use Rattle.ow_names.specs.declared.full.FullName.{FullName}
use Rattle.ow_entity.specs.declared.rules.Rule.{Rule}
use Rattle.ow_entity.specs.declared.triggers.Trigger.{Trigger}
use Rattle.ow_packages.specs.Access.{Standing}
use Rattle.ow_records.specs.declared.fires.Fire.{Fire}
use Rattle.ow_records.specs.declared.ids.Id.{Id}
use Rattle.ow_records.specs.declared.outcomes.Ending.{Ending}
use Rattle.ow_records.specs.declared.outcomes.Ending.TheVariants.{Replied}
use Rattle.ow_traits.specs.declared.replies.RunReply.{RunReply}
use Rattle.ow_pool.specs.declared.answers.Place.{Place}
use Rattle.ow_pool.specs.declared.answers.Place.TheVariants as places
use Rattle.ow_floor.specs.Calls.{answered_items, begins, busy_run, end_items, goes, items_if, loses, next_items, order_items, overrun_first, place_on, reply_items}
use Rattle.ow_floor.specs.Trace.{Accepted, Archived, Begun, Drawn, Ended, Fired, Gone, Item, Lost, Reopened, Resumed, Trace, firing, firing_after, open_items, shown}
use Rattle.ow_floor.specs.View.{Shown, head, is_of}
use Rattle.ow_floor.specs.declared.activations.Open.{Open}
use Rattle.ow_floor.specs.declared.activations.Plan.{Plan}
use Rattle.ow_floor.specs.declared.runs.Run.{Run}
use Rattle.ow_http.specs.Parts.{Parts}
use Rattle.ow_http.specs.Request.{parts_of}
use Rattle.ow_http.specs.Steps.{◌>>=◌}
use Rattle.ow_http.specs.declared.call.Call.{Call}
use Rattle.ow_http.specs.declared.reason.Reason.{Reason}
use Rattle.ow_keep.specs.Judged.{judged}
use Rattle.ow_keep.specs.Split.{Parts as KeptParts}
use Rattle.ow_commits.proofs.Ids.{all_both}
use Rattle.ow_rules.specs.Fired.{fired}
use Rattle.ow_rules.specs.Status.{status_change}
use Rattle.ow_tables.specs.Contents.{Change}
use Rattle.ow_tables.specs.Refusal.{remove_refusal}
use Rattle.ow_tables.specs.Rows.{standing}
use Rattle.ow_tenant.specs.declared.entries.Holder.{Holder}
use Rattle.ow_commits.specs.Commits.{row_changes}
use Rattle.ow_reads.specs.Acts.{granted_call}
use Rattle.ow_reads.specs.Reading.{name_in, read_done}
use Rattle.ow_reads.specs.Steps.{or_else}
use Rattle.ow_reads.specs.Reasons.{no_route}
use Rattle.ow_reads.specs.Tenants.{asker}
use Rattle.ow_reads.specs.declared.acts.Act.{Act}
use Rattle.ow_reads.specs.declared.acts.Act.TheVariants.{Reads, Puts, Removes, Invokes, Fires, Sets}
use Rattle.ow_trees.specs.Steps.{next_in, stepped, steps_after, swept_on}
use Rattle.ow_trees.specs.declared.bounds.TheConstants.{MOST_STEPS}
use Rattle.ow_web.specs.Target.{is_web}
use Rattle.ow_decide.specs.Asking as asking
use Rattle.ow_decide.specs.Asking.{Done, act_done, act_for, ask_decision, called_done, change_done, draft_in, keyed_done, plan_done, put_of, request_done, row_for, row_of, rule_for, rules_done, set_done, shot_done, shown_done, unless_refused, web_done}
use Rattle.ow_decide.specs.Calling.{admitted_plan, call_plan, called_decision, callee, charged_namespace, invocation_plan, plan_items}
use Rattle.ow_decide.specs.Decision.{items_changes}
use Rattle.ow_decide.specs.Decisions.{answered_all, decide, swept_all}
use Rattle.ow_decide.specs.Deploying.{deployed}
use Rattle.ow_decide.specs.Firing.{fire_plan, number_for, shot_items, trigger_for, within_fires}
use Rattle.ow_decide.specs.Opening.{opened_decision, parts_taken}
use Rattle.ow_decide.specs.Sight.{Sight, room_for, store_room, view_of}
use Rattle.ow_decide.specs.WebCalling.{web_extension, web_given, web_name, web_plan}
use Rattle.ow_decide.specs.declared.events.Event.{Event}
use Rattle.ow_decide.specs.declared.events.Event.TheVariants as events
use Rattle.ow_decide.specs.declared.waits.Shows.{Shows}
use Rattle.ow_decide.proofs.MadeLaws as made
use Rattle.ow_decide.proofs.DeployLaws.{deploy_adds}
use Rattle.ow_decide.proofs.MadeLaws.{following_plain, late_steps_plain, plan_plain, sweep_adds, through_sweep}
use Rattle.ow_decide.proofs.Results.{then_ok}
use Rattle.ow_decide.proofs.OfficeLaws.{office_adds}

-- ---- items that are no part of a fire

-- after these items no fire is open, where none was before
abbrev Closes : Trace → Type 0
Closes items = (T : Trace) → firing T ≡ None → firing (items ++ T) ≡ None

abbrev IsPlain : Item → Type 0
IsPlain (Drawn id at) = ⊥
IsPlain (Fired r) = ⊥
IsPlain item = Unit {0}

abbrev ArePlain : Trace → Type 0
ArePlain items = AllByRecursion IsPlain items

plain_after : (item : Item) (drawn : Option Id) → IsPlain item → drawn ≡ None → firing_after item drawn ≡ None
plain_after (Drawn id at) drawn plain none = absurd plain
plain_after (Fired r) drawn plain none = refl
plain_after (Resumed counts rs) drawn plain none = refl
plain_after (Reopened at) drawn plain none = refl
plain_after item drawn plain none = none

plain_closes : (items : Trace) → ArePlain items → Closes items
plain_closes [] plain T none = none
plain_closes (item ∷ items) plain T none = plain_after item (firing (items ++ T)) plain.0 (plain_closes items plain.1 T none)

-- acceptances and ends are no part of a fire
one_plain : (item : Item) → made.IsPlain item → IsPlain item
one_plain (Accepted a) plain = tt
one_plain (Ended e) plain = tt
one_plain item plain = absurd plain

made_plain : (items : Trace) → made.ArePlain items → ArePlain items
made_plain [] plain = tt
made_plain (item ∷ items) plain = (one_plain item plain.0, made_plain items plain.1)

plan_closes : (S : Sight) (plan : Plan) → Closes (plan_items S plan)
plan_closes S plan = plain_closes (plan_items S plan) (made_plain (plan_items S plan) (plan_plain S plan))

-- ---- calls of the floor

plain_if : (b : Bool) (item : Item) → IsPlain item → ArePlain (items_if b item)
plain_if true item plain = (plain, tt)
plain_if false item plain = tt

plain_order : (at : ℕ) (v : Shown) (p : Place) (o : Option Open) → ArePlain (order_items p o at v)
plain_order at v (places.Run slot start) None = tt
plain_order at v (places.Run slot start) (Some o) = (tt, tt)
plain_order at v (places.Prewarm slot kind memory) o = (tt, tt)
plain_order at v (places.Remove slots) o = (tt, tt)
plain_order at v (places.Nothing reason) o = tt

plain_end : (at : ℕ) (ending : Ending) (run : Option Run) (o : Option Open) → ArePlain (end_items at ending run o)
plain_end at ending run None = tt
plain_end at ending run (Some o) = (tt, tt)

plain_reply : (at run : ℕ) (reply : RunReply) (v : Shown) (r : Option Run) → ArePlain (reply_items at run reply v r)
plain_reply at run reply v None = tt
plain_reply at run reply v (Some r) = (tt, plain_end at (Replied reply) (Some r) (find (is_of r.id) v.open_items))

-- a reply, with the steps that follow
plain_answered : (S : Sight) (run : ℕ) (reply : RunReply) → ArePlain (answered_all S run reply)
plain_answered S run reply =
    let items = answered_items S.moment run reply S.trace in
    let steps = stepped MOST_STEPS (standing S.rows) S.moment (items ++ S.trace) (next_in items) in
    all_both IsPlain steps items (made_plain steps (following_plain (standing S.rows) S.moment S.trace items)) (plain_reply S.moment run reply (shown S.trace) (busy_run run (shown S.trace)))

plain_swept : (rs : Standing) (at n : ℕ) (T : Trace) → ArePlain (swept_on n rs at T)
plain_swept rs at n T =
    through_sweep rs at (λ items U. ArePlain items) (λ U. tt) (λ xs ys U first rest. all_both IsPlain xs ys first rest) (λ U. made_plain (steps_after rs at U (overrun_first at U)) (late_steps_plain rs at U)) n T

sweep_plain : (S : Sight) → ArePlain (swept_all S)
sweep_plain S = (tt, plain_swept (standing S.rows) S.moment (length (open_items S.trace)) S.trace)

-- ---- requests

abbrev ClosesDone : Done → Type 0
ClosesDone (asking.Invoked items plan shows) = Closes items
ClosesDone (asking.Fired items id) = Closes items
ClosesDone done = Unit {0}

module _ (S : Sight) where
  accepted_closes : (plan : Plan) (shows : Shows) → IfOk (plan_done S plan shows) ClosesDone
  accepted_closes plan shows = then_ok ClosesDone (admitted_plan S plan) _ (λ admitted. plan_closes S plan)

  -- a fire ends with its record
  shot_closes : (f : Fire) (rs : List Rule) → IfOk (shot_done S f rs) ClosesDone
  shot_closes f rs =
      then_ok ClosesDone (store_room S (items_changes (shot_items S f rs))) _ (λ room. then_ok ClosesDone (within_fires S f.namespace) _ (λ within. λ T none. refl))

  rules_close : (subject : List ℕ) (name : FullName) (number : ℕ) (t : Trigger) (given : Pairs) (rs : List Rule) → IfOk (rules_done S subject name number t given rs) ClosesDone
  rules_close subject name number t given [] = tt
  rules_close subject name number t given (r ∷ rs) = then_ok ClosesDone (fire_plan S subject name number t given) _ (λ f. shot_closes f (r ∷ rs))

  set_closes : (r : Rule) (change : Option Change) → ClosesDone (set_done S r change)
  set_closes r None = tt
  set_closes r (Some change) = tt

  change_closes : (h : Holder) (act : Act) (c : Call) → IfOk (change_done S h act c) ClosesDone
  change_closes h (Reads reading) c = tt
  change_closes h Puts c = then_ok ClosesDone (draft_in c) _ (λ draft. then_ok ClosesDone (row_of S draft c.overwrite) _ (λ row.
      then_ok ClosesDone (store_room S (row_changes (put_of row))) _ (λ room. tt)))
  change_closes h (Removes kind) c = then_ok ClosesDone (name_in c) _ (λ name. then_ok ClosesDone (unless_refused (remove_refusal kind name S.rows)) _ (λ free.
      then_ok ClosesDone (row_for S kind name) _ (λ row. tt)))
  change_closes h Invokes c = then_ok ClosesDone (name_in c) _ (λ name.
      then_ok ClosesDone (invocation_plan S h.subject (charged_namespace h name) c.blocking name c.params) _ (λ plan. accepted_closes plan _))
  change_closes h Fires c = then_ok ClosesDone (name_in c) _ (λ name. then_ok ClosesDone (trigger_for S name) _ (λ t.
      then_ok ClosesDone (number_for S name.namespace) _ (λ number. rules_close h.subject name number t c.params (fired S.rows name))))
  change_closes h Sets c = then_ok ClosesDone (name_in c) _ (λ name. then_ok ClosesDone (or_else c.active no_route) _ (λ active.
      then_ok ClosesDone (rule_for S name) _ (λ r. set_closes r (status_change r active))))

  shown_closes : (r : Result V Reason) → IfOk (shown_done r) ClosesDone
  shown_closes (Ok value) = tt
  shown_closes (Err reason) = tt

  granted_closes : (h : Holder) (act : Act) (p : Parts) → IfOk (called_done S h act p) ClosesDone
  granted_closes h act p = then_ok ClosesDone (granted_call h S.rows act p) _ (λ c. change_closes h act c)

  act_closes : (h : Holder) (act : Act) (p : Parts) → IfOk (act_done S h act p) ClosesDone
  act_closes h (Reads reading) p = shown_closes (read_done (view_of S h) reading p)
  act_closes h Puts p = granted_closes h Puts p
  act_closes h (Removes kind) p = granted_closes h (Removes kind) p
  act_closes h Invokes p = granted_closes h Invokes p
  act_closes h Fires p = granted_closes h Fires p
  act_closes h Sets p = granted_closes h Sets p

  keyed_closes : (p : Parts) → IfOk (keyed_done S p) ClosesDone
  keyed_closes p = then_ok ClosesDone (act_for p) _ (λ act. then_ok ClosesDone (room_for S p.size) _ (λ room.
      then_ok ClosesDone (asker S.tenants p.key) _ (λ h. act_closes h act p)))

  web_closes : (p : Parts) → IfOk (web_done S p) ClosesDone
  web_closes p = then_ok ClosesDone (room_for S p.size) _ (λ room. then_ok ClosesDone (web_name p.route) _ (λ name. then_ok ClosesDone (callee S name name.namespace) _ (λ c.
      then_ok ClosesDone (web_given S.tenants c.effective p) _ (λ given. then_ok ClosesDone (web_extension p.route) _ (λ extension.
      then_ok ClosesDone (web_plan S name.namespace c given) _ (λ plan. accepted_closes plan _))))))

  by_route : (p : Parts) (b : Bool) → IfOk (if b then web_done S p else keyed_done S p) ClosesDone
  by_route p true = web_closes p
  by_route p false = keyed_closes p

  asked_closes : (d : Result Done Reason) → IfOk d ClosesDone → Closes (ask_decision d).items
  asked_closes (Ok (asking.Shown value)) closes T none = none
  asked_closes (Ok (asking.Changed change value)) closes T none = none
  asked_closes (Ok (asking.Invoked items plan shows)) closes T none = closes T none
  asked_closes (Ok asking.Quiet) closes T none = none
  asked_closes (Ok (asking.Fired items id)) closes T none = closes T none
  asked_closes (Err reason) closes T none = none

  called_closes : (p : Result Plan Reason) → Closes (called_decision S p).items
  called_closes (Ok plan) = plan_closes S plan
  called_closes (Err reason) = λ T none. none

-- ---- all events

opened_closes : (at : ℕ) (parts : Option KeptParts) → Closes (opened_decision at parts).items
opened_closes at None T none = none
opened_closes at (Some parts) T none = refl

pub decided_closes : (S : Sight) (event : Event) → Closes (decide S event).items
decided_closes S (events.Opened rows) = opened_closes S.moment (parts_taken S.moment S.trace (judged rows))
decided_closes S (events.Asked r) = asked_closes S (request_done S (parts_of r)) (by_route S (parts_of r) (is_web (parts_of r).route))
decided_closes S (events.Called name params) = called_closes S (call_plan S name params >>= admitted_plan S)
decided_closes S (events.Fired trigger params note) = office_adds S Closes (λ T none. none) (λ f rs T none. refl) trigger params note
decided_closes S (events.Deployed drafts) = deploy_adds Closes (deployed S drafts) (λ T none. none)
decided_closes S events.Next = plain_closes (next_items S.moment S.trace) (plain_order S.moment (shown S.trace) (place_on (shown S.trace)) (head (shown S.trace)))
decided_closes S (events.Answered run reply) = plain_closes (answered_all S run reply) (plain_answered S run reply)
decided_closes S (events.Begun run) = plain_closes (items_if (begins run S.trace) (Begun run S.moment)) (plain_if (begins run S.trace) (Begun run S.moment) tt)
decided_closes S (events.Lost run) = plain_closes (items_if (loses run S.trace) (Lost run S.moment)) (plain_if (loses run S.trace) (Lost run S.moment) tt)
decided_closes S (events.Gone slot generation) =
    plain_closes (items_if (goes slot generation S.trace) (Gone slot generation S.moment)) (plain_if (goes slot generation S.trace) (Gone slot generation S.moment) tt)
decided_closes S events.Sweep = sweep_adds S Closes (plain_closes (swept_all S) (sweep_plain S)) (λ until. plain_closes (Archived until S.moment ∷ swept_all S) (tt, sweep_plain S))
decided_closes S (events.Collected id) = λ T none. none
decided_closes S events.Drain = λ T none. none
decided_closes S events.Reopened = λ T none. refl
