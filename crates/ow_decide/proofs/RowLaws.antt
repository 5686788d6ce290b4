-- What becomes of the rows at a request: the row of a draft that is given is put, one is taken out, a rule's status is set, or they stay.
use Rattle.std.proofs.Common.{◌≡◌, ℕ, List, [], ◌∷◌, Bool, true, false, if◌then◌else◌, IfOk, Option, Some, None, Result, Ok, Err, refl}
use Rattle.ow_value.specs.Value.{V, Pairs}
use Rattle.ow_names.specs.declared.full.FullName.{FullName}
use Rattle.ow_entity.specs.Finish.{finished_row}
use Rattle.ow_entity.specs.Row.{kind_of, name_of}
use Rattle.ow_entity.specs.declared.kinds.EntityKind.{EntityKind}
use Rattle.ow_entity.specs.declared.refusal.EntityRefusal.{EntityRefusal}
use Rattle.ow_entity.specs.declared.rows.Draft.{Draft}
use Rattle.ow_entity.specs.declared.rows.Row.{Row}
use Rattle.ow_http.specs.CallOf.{call_of}
use Rattle.ow_http.specs.Parts.{Parts}
use Rattle.ow_http.specs.Steps.{◌>>=◌}
use Rattle.ow_http.specs.declared.call.Call.{Call}
use Rattle.ow_http.specs.declared.call_refusal.CallRefusal.{CallRefusal}
use Rattle.ow_web.specs.Target.{is_web}
use Rattle.ow_http.specs.declared.reason.Reason.{Reason}
use Rattle.ow_commits.specs.Commits.{row_changes}
use Rattle.ow_tables.specs.Refusal.{old_row, put_refusal, remove_refusal}
use Rattle.ow_tables.specs.Contents.{Change}
use Rattle.ow_tables.specs.declared.refusal.TableRefusal.{TableRefusal}
use Rattle.ow_tables.specs.Joined.{rule_at}
use Rattle.ow_tables.specs.Rows.{changed, standing, with_row, without}
use Rattle.ow_entity.specs.declared.rules.Rule.{Rule}
use Rattle.ow_entity.specs.declared.triggers.Trigger.{Trigger}
use Rattle.ow_rules.specs.Fired.{fired}
use Rattle.ow_rules.specs.Status.{status_change}
use Rattle.ow_decide.specs.Firing.{fire_plan, number_for, shot_items, trigger_for, within_fires}
use Rattle.ow_tenant.specs.declared.entries.Holder.{Holder}
use Rattle.ow_decide.specs.Asking.{Changed, Done, Fired, Invoked, Quiet, Shown, act_done, act_for, ask_decision, change_done, keyed_done, or_table_reason, put_done, put_of, request_done, row_for, row_of, rule_for, rules_done, set_done, shown_done, unless_refused, web_done}
use Rattle.ow_decide.specs.WebCalling.{web_extension, web_given, web_name, web_plan}
use Rattle.ow_reads.specs.Acts.{grant_for, granted_call}
use Rattle.ow_decide.specs.Calling.{admitted_plan, callee, charged_namespace, invocation_plan}
use Rattle.ow_decide.specs.Decision.{all_changed, items_changes}
use Rattle.ow_reads.specs.Reading.{name_in, or_call_reason, read_done}
use Rattle.ow_reads.specs.Reasons.{no_route, not_found}
use Rattle.ow_decide.specs.Sight.{Sight, room_for, store_room, view_of}
use Rattle.ow_reads.specs.Steps.{or_else}
use Rattle.ow_reads.specs.Tenants.{asker}
use Rattle.ow_reads.specs.declared.acts.Act.{Act}
use Rattle.ow_reads.specs.declared.acts.Act.TheVariants.{Fires, Invokes, Puts, Reads, Removes, Sets}
use Rattle.ow_decide.proofs.CalleeLaws.{there_ok}
use Rattle.ow_decide.proofs.Results.{then_from, then_ok}

called_good : (G : Call → Type 0) (r : Result Call CallRefusal) → IfOk r G → IfOk (or_call_reason r) G
called_good G (Ok c) g = g
called_good G (Err e) g = tt

free_so : (o : Option TableRefusal) → IfOk (unless_refused o) (λ (u : Unit {0}). o ≡ None)
free_so None = refl
free_so (Some e) = tt

made_so : (F : Type 0) (o : Result Row EntityRefusal) → F → IfOk (or_table_reason o) (λ (r : Row). F × (o ≡ Ok r))
made_so F (Ok r) free = (free, refl)
made_so F (Err e) free = tt

-- the holder of the key, what the request calls for, and the rows: as they are, with a row of the call's draft, without the row of a kind
-- and name, and with another status of a rule
module _ (S : Sight) (p : Parts) (H : Holder → Type 0) (G : Call → Type 0) (N : List Row → Type 0) (known : IfOk (asker S.tenants p.key) H)
    (called : (h : Holder) → H h → IfOk (call_of h.home p) G) (stays : N S.rows)
    (put : (c : Call) (d : Draft) (r : Row) → G c → c.draft ≡ Some d → put_refusal d c.overwrite S.rows ≡ None → finished_row d (old_row d S.rows) ≡ Ok r → N (with_row r S.rows))
    (removed : (kind : EntityKind) (name : FullName) → N (without kind name S.rows))
    (set : (name : FullName) (r : Rule) (active : Bool) (c : Change) → rule_at (standing S.rows) name ≡ Some r → status_change r active ≡ Some c → N (changed c S.rows)) where
  abbrev IsGoodDone : Done → Type 0
  IsGoodDone (Changed c value) = N (changed c S.rows)
  IsGoodDone done = Unit {0}

  -- nothing refuses the put, and the draft makes this row
  abbrev IsPut : Draft → Bool → Row → Type 0
  IsPut d overwrite r = (put_refusal d overwrite S.rows ≡ None) × (finished_row d (old_row d S.rows) ≡ Ok r)

  row_so : (d : Draft) (overwrite : Bool) → IfOk (row_of S d overwrite) (IsPut d overwrite)
  row_so d overwrite =
      then_from (λ (u : Unit {0}). put_refusal d overwrite S.rows ≡ None) (IsPut d overwrite) (unless_refused (put_refusal d overwrite S.rows)) _ (free_so (put_refusal d overwrite S.rows))
      (λ u free. made_so (put_refusal d overwrite S.rows ≡ None) (finished_row d (old_row d S.rows)) free)

  draft_good : (c : Call) (o : Option Draft) → G c → c.draft ≡ o → IfOk (or_else o no_route >>= (λ (d : Draft). put_done S d c.overwrite)) IsGoodDone
  draft_good c None g e = tt
  draft_good c (Some d) g e =
      then_from (IsPut d c.overwrite) IsGoodDone (row_of S d c.overwrite) _ (row_so d c.overwrite) (λ r made.
      then_ok IsGoodDone (store_room S (row_changes (put_of r))) _ (λ room. put c d r g e made.0 made.1))

  rules_good : (subject : List ℕ) (name : FullName) (number : ℕ) (t : Trigger) (given : Pairs) (rs : List Rule) → IfOk (rules_done S subject name number t given rs) IsGoodDone
  rules_good subject name number t given [] = tt
  rules_good subject name number t given (r ∷ rs) = then_ok IsGoodDone (fire_plan S subject name number t given) _ (λ f.
      then_ok IsGoodDone (store_room S (items_changes (shot_items S f (r ∷ rs)))) _ (λ room. then_ok IsGoodDone (within_fires S f.namespace) _ (λ within. tt)))

  set_good : (r : Rule) (active : Bool) (change : Option Change) → status_change r active ≡ change → ((c : Change) → status_change r active ≡ Some c → N (changed c S.rows)) → IsGoodDone (set_done S r change)
  set_good r active None is good = tt
  set_good r active (Some c) is good = good c is

  change_good : (h : Holder) (act : Act) (c : Call) → G c → IfOk (change_done S h act c) IsGoodDone
  change_good h (Reads reading) c g = tt
  change_good h Puts c g = draft_good c c.draft g refl
  change_good h (Removes kind) c g = then_ok IsGoodDone (name_in c) _ (λ name.
      then_ok IsGoodDone (unless_refused (remove_refusal kind name S.rows)) _ (λ free.
      then_ok IsGoodDone (row_for S kind name) _ (λ row. removed (kind_of row) (name_of row))))
  change_good h Invokes c g = then_ok IsGoodDone (name_in c) _ (λ name.
      then_ok IsGoodDone (invocation_plan S h.subject (charged_namespace h name) c.blocking name c.params) _ (λ plan.
      then_ok IsGoodDone (admitted_plan S plan) _ (λ admitted. tt)))
  change_good h Fires c g = then_ok IsGoodDone (name_in c) _ (λ name. then_ok IsGoodDone (trigger_for S name) _ (λ t. then_ok IsGoodDone (number_for S name.namespace) _ (λ number.
      rules_good h.subject name number t c.params (fired S.rows name))))
  change_good h Sets c g = then_ok IsGoodDone (name_in c) _ (λ name. then_ok IsGoodDone (or_else c.active no_route) _ (λ active.
      then_from (λ (r : Rule). rule_at (standing S.rows) name ≡ Some r) IsGoodDone (rule_for S name) _ (there_ok (rule_at (standing S.rows) name) not_found) (λ r there.
      set_good r active (status_change r active) refl (λ change is. set name r active change there is))))

  shown_good : (r : Result V Reason) → IfOk (shown_done r) IsGoodDone
  shown_good (Ok value) = tt
  shown_good (Err reason) = tt

  granted_good : (h : Holder) (act : Act) → H h → IfOk (granted_call h S.rows act p) G
  granted_good h act home = then_ok G (grant_for h S.rows act p) _ (λ grant. called_good G (call_of h.home p) (called h home))

  act_good : (h : Holder) (act : Act) → H h → IfOk (act_done S h act p) IsGoodDone
  act_good h (Reads reading) home = shown_good (read_done (view_of S h) reading p)
  act_good h Puts home = then_from G IsGoodDone (granted_call h S.rows Puts p) _ (granted_good h Puts home) (change_good h Puts)
  act_good h (Removes kind) home = then_from G IsGoodDone (granted_call h S.rows (Removes kind) p) _ (granted_good h (Removes kind) home) (change_good h (Removes kind))
  act_good h Invokes home = then_from G IsGoodDone (granted_call h S.rows Invokes p) _ (granted_good h Invokes home) (change_good h Invokes)
  act_good h Fires home = then_from G IsGoodDone (granted_call h S.rows Fires p) _ (granted_good h Fires home) (change_good h Fires)
  act_good h Sets home = then_from G IsGoodDone (granted_call h S.rows Sets p) _ (granted_good h Sets home) (change_good h Sets)

  keyed_good : IfOk (keyed_done S p) IsGoodDone
  keyed_good = then_ok IsGoodDone (act_for p) _ (λ act. then_ok IsGoodDone (room_for S p.size) _ (λ room.
      then_from H IsGoodDone (asker S.tenants p.key) _ known (λ h home. act_good h act home)))

  web_good : IfOk (web_done S p) IsGoodDone
  web_good = then_ok IsGoodDone (room_for S p.size) _ (λ room. then_ok IsGoodDone (web_name p.route) _ (λ name.
      then_ok IsGoodDone (callee S name name.namespace) _ (λ c. then_ok IsGoodDone (web_given S.tenants c.effective p) _ (λ given.
      then_ok IsGoodDone (web_extension p.route) _ (λ extension. then_ok IsGoodDone (web_plan S name.namespace c given) _ (λ plan.
      then_ok IsGoodDone (admitted_plan S plan) _ (λ admitted. tt)))))))

  by_route : (b : Bool) → IfOk (if b then web_done S p else keyed_done S p) IsGoodDone
  by_route true = web_good
  by_route false = keyed_good

  request_good : IfOk (request_done S p) IsGoodDone
  request_good = by_route (is_web p.route)

  by_done : (d : Result Done Reason) → IfOk d IsGoodDone → N (all_changed (ask_decision d).changes S.rows)
  by_done (Ok (Shown value)) good = stays
  by_done (Ok (Changed c value)) good = good
  by_done (Ok (Invoked items plan shows)) good = stays
  by_done (Ok Quiet) good = stays
  by_done (Ok (Fired items id)) good = stays
  by_done (Err reason) good = stays

  -- what is true of each of these is true of the rows after a request
  pub request_rows : N (all_changed (ask_decision (request_done S p)).changes S.rows)
  request_rows = by_done (request_done S p) request_good
