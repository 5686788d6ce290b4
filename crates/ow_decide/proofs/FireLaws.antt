-- What is done at a fire is what is decided of it.
use Rattle.std.proofs.Common.{◌≡◌, ◌++◌, ◌+◌, ◌≤◌, ◌<◌, ◌∙◌, ℕ, zero, suc, Bool, false, List, [], ◌∷◌, Option, Some, None, Result, Ok, Err, IfOk, IfSome, length, drop, drop-cons, get_or, add-one, append_assoc, append-nil, refl, sym, ap, arith, subst}
use Rattle.std.specs.Prelude.{◌≢◌}
use Rattle.std.specs.List.{flat_map}
use Rattle.ow_value.specs.Value.{Pairs}
use Rattle.ow_value.specs.declared.memory.NoMemory.{NoMemory}
use Rattle.ow_names.specs.declared.full.FullName.{FullName}
use Rattle.ow_entity.specs.declared.rows.Row.{Row}
use Rattle.ow_entity.specs.declared.rules.Rule.{Rule}
use Rattle.ow_entity.specs.declared.triggers.Trigger.{Trigger}
use Rattle.ow_records.specs.declared.fires.Fire.{Fire}
use Rattle.ow_records.specs.declared.ids.Id.{Id}
use Rattle.ow_records.specs.declared.record.Record.{Record}
use Rattle.ow_records.specs.Fire.{trigger_record}
use Rattle.ow_floor.specs.Calls.{IsNext, accept_items, draw_items, fire_items, moved}
use Rattle.ow_floor.specs.Growth.{AreRight}
use Rattle.ow_floor.specs.Laws.{Grows, IsSound, Stands}
use Rattle.ow_floor.specs.Trace.{Trace, is_draining, last, shown}
use Rattle.ow_floor.specs.View.{Shown, last_of}
use Rattle.ow_floor.specs.declared.activations.Plan.{Plan}
use Rattle.ow_floor.specs.declared.moves.Moved.{Moved}
use Rattle.ow_floor.proofs.Drawn.{drawn_last}
use Rattle.ow_row_text.specs.Bytes.{bytes_of}
use Rattle.ow_commits.specs.Commits.{changes_of}
use Rattle.ow_commits.specs.Keeping.{AreOwn, FollowingView, KeepingView, StandsFollowing, StandsForKept}
use Rattle.ow_commits.specs.Kept.{OthersView, kept, others_bytes}
use Rattle.ow_tenant.specs.Table.{Table}
use Rattle.ow_rules.specs.Fired.{fired}
use Rattle.ow_tables.specs.Joined.{trigger_at}
use Rattle.ow_tables.specs.Rows.{standing}
use Rattle.ow_tenant.specs.Tenants.{limits_of, number_of}
use Rattle.ow_tenant.specs.declared.entries.Holder.{Holder}
use Rattle.ow_traits.specs.Changes.{changed}
use Rattle.ow_trees.specs.Steps.{steps_after}
use Rattle.ow_traits.specs.declared.change_list.Change.{Change}
use Rattle.ow_counts.specs.Counts.{fire_admitted}
use Rattle.ow_counts.specs.View.{AreUpTo, CountsView}
use Rattle.ow_counts.specs.declared.refusal.LimitRefusal.{LimitRefusal}
use Rattle.ow_counts.proofs.Moving.{up_items}
use Rattle.ow_http.specs.Steps.{◌>>=◌}
use Rattle.ow_http.specs.declared.call.Call.{Call}
use Rattle.ow_http.specs.declared.reason.Reason.{Reason}
use Rattle.ow_reads.specs.Reasons.{no_route, not_found}
use Rattle.ow_reads.specs.declared.acts.Act.TheVariants.{Fires}
use Rattle.ow_reads.specs.Steps.{or_else, unless}
use Rattle.ow_decide.specs.Asking.{Done, Fired, ask_decision, at_once, change_done, rules_done, shot_done}
use Rattle.ow_decide.specs.Calling.{fitting, plan_items}
use Rattle.ow_decide.specs.Decision.{held, items_changes}
use Rattle.ow_decide.specs.Firing.{after_rule, after_rules, fire_of, fire_plan, rule_items, rule_line, rule_lines, rule_plan, seeing, shot_items}
use Rattle.ow_decide.specs.Making.{Carries, CommitsDone, IsMade, IsSeen, IsUnderway, Makes, admits_made, done_of}
use Rattle.ow_decide.specs.Reasons.{draining, store_full, too_large}
use Rattle.ow_decide.specs.Sight.{Sight, is_store_full, or_limit, takes_calls}
use Rattle.ow_decide.specs.Waiting.{accepted_answer}
use Rattle.ow_decide.specs.declared.done.Done.TheVariants as codes
use Rattle.ow_decide.specs.declared.commits.Made.{Made}
use Rattle.ow_decide.specs.declared.step.Now.{Now}
use Rattle.ow_decide.specs.declared.step.RowChange.TheVariants as row_changes
use Rattle.ow_decide.specs.declared.step.Step.{Step}
use Rattle.ow_decide.specs.declared.waits.Waits.TheVariants.{Keep}
use Rattle.ow_decide.proofs.MadeLaws.{changes_of_moves as items_moved, moved_append, plan_noted}
use Rattle.ow_decide.proofs.PlanLaws.{as_seen, then_then}

-- ---- what is under way

-- over what is seen nothing was made yet
pub nothing_made : (S : Sight) (t : Table) (rs : List Row) (k : CountsView) (b : KeepingView) (v : Shown) (now : Now) → IsSeen S t rs k b v now → IsUnderway S [] t rs k now v []
nothing_made S t rs k b v now seen =
    record { tenants = seen.tenants; rows = seen.rows; counts = seen.counts; moment = seen.moment; stands = seen.stands; up_to = seen.counts.up_to; moves = refl }

-- an id is drawn
pub id_drawn : (S : Sight) (t : Table) (rs : List Row) (k : CountsView) (now : Now) (v w : Shown) (ms ns : List Moved) (id : Id) → Grows v w (λ T. draw_items now.at id) → ns ≡ ms ++ moved (draw_items now.at id)
    → IsUnderway S [] t rs k now v ms → IsUnderway S (draw_items S.moment id) t rs k now w ns
id_drawn S t rs k now v w ms ns id grows noted u = record {
  tenants = u.tenants;
  rows = u.rows;
  counts = u.counts;
  moment = u.moment;
  stands = subst (λ (at : ℕ). Stands w (draw_items at id ++ S.trace)) (sym u.moment) (grows S.trace u.stands);
  up_to = u.up_to;
  moves = noted ∙ ap (λ (xs : List Moved). xs ++ moved (draw_items now.at id)) u.moves;
}

-- what a rule makes is accepted, with the steps that follow
pub rule_made : (S : Sight) (items : Trace) (t : Table) (rs : List Row) (k : CountsView) (now : Now) (v w : Shown) (ms ns : List Moved) (f : Fire) (r : Rule) (plan : Plan)
    → Grows v w (λ T. steps_after (standing rs) now.at T (accept_items now.at plan))
    → ((T : Trace) → Stands v T → ns ≡ ms ++ moved (steps_after (standing rs) now.at T (accept_items now.at plan))) → Ok plan ≡ rule_plan (seeing items S) f r
    → IsUnderway S items t rs k now v ms → IsUnderway S (after_rule S f r items) t rs k now w ns
rule_made S items t rs k now v w ms ns f r plan grows noted planned u =
    let T : Trace = items ++ S.trace in
    let made : Trace = plan_items (seeing items S) plan in
    let is : steps_after (standing rs) now.at T (accept_items now.at plan) ≡ made =
    as_seen (λ (xs : List Row) (m : ℕ). steps_after (standing rs) now.at T (accept_items now.at plan) ≡ steps_after (standing xs) m T (accept_items m plan)) S rs now.at u.rows u.moment refl in
    let after : IsUnderway S (made ++ items) t rs k now w ns = record {
      tenants = u.tenants;
      rows = u.rows;
      counts = u.counts;
      moment = u.moment;
      stands = subst (Stands w) (sym (append_assoc made items S.trace)) (subst (λ (xs : Trace). Stands w (xs ++ T)) is (grows T u.stands));
      up_to = subst (AreUpTo now.at) (sym (append_assoc made items S.trace)) (subst (λ (at : ℕ). AreUpTo at (made ++ T)) u.moment (up_items S.moment made T (subst (λ (at : ℕ). AreUpTo at T) (sym u.moment) u.up_to) (plan_noted (seeing items S) plan)));
      moves = noted T u.stands ∙ (ap (λ (xs : Trace). ms ++ moved xs) is ∙ ap (λ (xs : List Moved). xs ++ moved made) u.moves ∙ sym (moved_append made items));
    } in
    subst (λ (p : Result Plan Reason). IsUnderway S (rule_items (seeing items S) p ++ items) t rs k now w ns) planned after

-- a refused rule leaves all as it is
pub rule_left : (S : Sight) (items : Trace) (t : Table) (rs : List Row) (k : CountsView) (now : Now) (v : Shown) (ms : List Moved) (f : Fire) (r : Rule) (reason : Reason)
    → Err reason ≡ rule_plan (seeing items S) f r → IsUnderway S items t rs k now v ms → IsUnderway S (after_rule S f r items) t rs k now v ms
rule_left S items t rs k now v ms f r reason planned u = subst (λ (p : Result Plan Reason). IsUnderway S (rule_items (seeing items S) p ++ items) t rs k now v ms) planned u

-- ---- rule after rule

-- the rest of the rules, over what was made so far, makes what all of them make, and gives the lines that are left
pub record Reaches (S : Sight) (f : Fire) (all rest : List Rule) (items : Trace) (t : Table) (rs : List Row) (k : CountsView) (now : Now) (v : Shown) (ms : List Moved) (lines : List (List ℕ)) : Type 0 where
  pub so_far : Trace
  pub underway : IsUnderway S so_far t rs k now v ms
  pub after : after_rules S f rest so_far ≡ after_rules S f all items
  pub told : lines ++ rule_lines S f rest so_far ≡ rule_lines S f all items

-- wherever it began
abbrev pub ReachesFrom : Fire → List Rule → List Rule → Table → List Row → CountsView → Now → Shown → List Moved → Shown → List Moved → List (List ℕ) → Type 0
ReachesFrom f all rest t rs k now v ms w ns lines = (S : Sight) (items : Trace) → IsUnderway S items t rs k now v ms → Reaches S f all rest items t rs k now w ns lines

pub reach_first : (f : Fire) (all : List Rule) (t : Table) (rs : List Row) (k : CountsView) (now : Now) (v : Shown) (ms : List Moved) → ReachesFrom f all all t rs k now v ms v ms []
reach_first f all t rs k now v ms = λ S items u. record { so_far = items; underway = u; after = refl; told = refl }

next_of : (all : List Rule) (i : ℕ) (r : Rule) → i < length all → r ≡ get_or all i r → drop i all ≡ r ∷ drop (i + 1) all
next_of all i r h is = drop-cons all i r h ∙ (ap (λ (x : Rule). x ∷ drop (suc i) all) (sym is) ∙ ap (λ (n : ℕ). r ∷ drop n all) (sym (add-one i)))

none_left : (xs : List Rule) (n : ℕ) → length xs ≤ n → drop n xs ≡ []
none_left [] zero le = refl
none_left [] (suc n) le = refl
none_left (x ∷ xs) zero le = absurd (omega (arith, le))
none_left (x ∷ xs) (suc n) le = none_left xs n (omega (arith, le))

-- a rule is taken
pub reach_next : (f : Fire) (all : List Rule) (i : ℕ) (r item : Rule) (t : Table) (rs : List Row) (k : CountsView) (now : Now) (v w x : Shown) (ms ns os : List Moved) (lines more : List (List ℕ)) → i < length all → r ≡ item → item ≡ get_or all i item
    → ReachesFrom f all (drop i all) t rs k now v ms w ns lines
    → ((S : Sight) (items : Trace) → IsUnderway S items t rs k now w ns → IsUnderway S (after_rule S f r items) t rs k now x os)
    → ((S : Sight) (items : Trace) → IsUnderway S items t rs k now w ns → more ≡ lines ++ rule_line r (rule_plan (seeing items S) f r) ∷ [])
    → ReachesFrom f all (drop (i + 1) all) t rs k now v ms x os more
reach_next f all i r item t rs k now v w x ms ns os lines more h same is before takes line = λ S items u.
    let past = before S items u in
    let split : drop i all ≡ r ∷ drop (i + 1) all = next_of all i item h is ∙ ap (λ (x : Rule). x ∷ drop (i + 1) all) (sym same) in
    let rest : List Rule = drop (i + 1) all in
    let here : Trace = after_rule S f r past.so_far in
    record {
      so_far = here;
      underway = takes S past.so_far past.underway;
      after = ap (λ (xs : List Rule). after_rules S f xs past.so_far) (sym split) ∙ past.after;
      told =
          ap (λ (xs : List (List ℕ)). xs ++ rule_lines S f rest here) (line S past.so_far past.underway)
          ∙ (append_assoc lines (rule_line r (rule_plan (seeing past.so_far S) f r) ∷ []) (rule_lines S f rest here)
          ∙ (ap (λ (xs : List Rule). lines ++ rule_lines S f xs past.so_far) (sym split) ∙ past.told));
    }

-- all rules were taken
pub reach_last : (f : Fire) (all : List Rule) (i : ℕ) (t : Table) (rs : List Row) (k : CountsView) (now : Now) (v w : Shown) (ms ns : List Moved) (lines : List (List ℕ)) → length all ≤ i
    → ReachesFrom f all (drop i all) t rs k now v ms w ns lines → (S : Sight) (items : Trace) → IsUnderway S items t rs k now v ms
    → IsUnderway S (after_rules S f all items) t rs k now w ns × (lines ≡ rule_lines S f all items)
reach_last f all i t rs k now v w ms ns lines past reach S items u =
    let end = reach S items u in
    let none = none_left all i past in (
      subst (λ (xs : Trace). IsUnderway S xs t rs k now w ns) (ap (λ (xs : List Rule). after_rules S f xs end.so_far) (sym none) ∙ end.after) end.underway,
      sym (append-nil lines) ∙ (ap (λ (xs : List Rule). lines ++ rule_lines S f xs end.so_far) (sym none) ∙ end.told),
    )

-- ---- the whole fire

-- the id is the next of its namespace
pub next_seen : (v : Shown) (T : Trace) (id : Id) → Stands v T → id.count ≡ last_of v.drawn id.namespace + 1 → IsNext id T
next_seen v T id stands next = next ∙ ap (λ (n : ℕ). n + 1) (ap (λ (w : Shown). last_of w.drawn id.namespace) stands.is ∙ drawn_last T id.namespace)

-- what follows from moves is what is committed of their items
pub followed : (b : KeepingView) (ms : List Moved) (c : FollowingView) → c.changes ≡ flat_map changes_of ms
    → ((o : OthersView) (rs : List Row) (T items : Trace) → StandsForKept b o rs T → IsSound T → AreRight items (shown T) → AreOwn items → ms ≡ moved items → c.bytes ≡ others_bytes o + bytes_of (changed c.changes (kept rs T)))
    → ((o : OthersView) (rs : List Row) (T items : Trace) → StandsForKept b o rs T → IsSound T → AreRight items (shown T) → AreOwn items → ms ≡ moved items → StandsFollowing c o rs (items ++ T))
    → (S : Sight) (items : Trace) → StandsForKept b S.others S.rows S.trace → IsSound S.trace → AreRight items (shown S.trace) → AreOwn items → ms ≡ moved items → IsMade (record { moves = ms; commit = c }) items S
followed b ms c changes bytes stands S items keeps sound right own same =
    let is : c.changes ≡ items_changes items = changes ∙ (ap (flat_map changes_of) same ∙ sym (items_moved items)) in
    record {
      moves = same;
      changes = is;
      bytes = bytes S.others S.rows S.trace items keeps sound right own same ∙ ap (λ (cs : List Change). others_bytes S.others + bytes_of (changed cs (kept S.rows S.trace))) is;
      stands = stands S.others S.rows S.trace items keeps sound right own same;
    }

-- a fire is refused as its bytes and the limit of fires say
pub shot_so : (S : Sight) (f : Fire) (rs : List Rule) (bytes : ℕ) (limit : Result (Unit {0}) LimitRefusal) (r : Result (Unit {0}) Reason)
    → bytes ≡ others_bytes S.others + bytes_of (changed (items_changes (shot_items S f rs)) (kept S.rows S.trace)) → limit ≡ fire_admitted S.trace f.namespace (limits_of f.namespace S.tenants) S.moment → r ≡ admits_made bytes limit
    → (r >>= (λ (u : Unit {0}). Ok (Fired (shot_items S f rs) f.id))) ≡ shot_done S f rs
shot_so S f rs bytes limit r is allowed same =
    let done : Unit {0} → Result Done Reason = λ u. Ok (Fired (shot_items S f rs) f.id) in
    ap (λ (x : Result (Unit {0}) Reason). x >>= done) same
    ∙ (then_then (unless (is_store_full bytes) store_full) (λ (room : Unit {0}). or_limit limit) done
    ∙ (ap (λ (n : ℕ). unless (is_store_full n) store_full >>= (λ (room : Unit {0}). or_limit limit >>= done)) is
    ∙ ap (λ (l : Result (Unit {0}) LimitRefusal). unless (is_store_full (others_bytes S.others + bytes_of (changed (items_changes (shot_items S f rs)) (kept S.rows S.trace)))) store_full >>= (λ (room : Unit {0}). or_limit l >>= done)) allowed))

-- what is answered of a fire that is made
abbrev pub told_fired : Id → Made → Step
told_fired id m = record { told = at_once (accepted_answer id); change = row_changes.Nothing; waits = Keep; moves = m.moves; commit = Some m.commit; others = None }

fired_carries : (m : Made) (f : Fire) (rs : List Rule) (S : Sight) → IsMade m (shot_items S f rs) S → Carries (told_fired f.id m) (ask_decision (Ok (Fired (shot_items S f rs) f.id))) S
fired_carries m f rs S made = record {
  told = refl;
  changes = refl;
  waits = refl;
  moves = made.moves;
  commit = record { changes = made.changes; stands = made.stands };
  others = refl;
}

-- a fire that is made is what is decided
pub fired_makes : (t : Table) (rs : List Row) (k : CountsView) (b : KeepingView) (now : Now) (old new : Shown) (f : Fire) (rules : List Rule) (m : Made) (limit : Result (Unit {0}) LimitRefusal) (r : Result Step NoMemory)
    → ((S : Sight) → IsSeen S t rs k b old now → IsMade m (shot_items S f rules) S) → ((S : Sight) → IsSeen S t rs k b old now → Stands new (shot_items S f rules ++ S.trace))
    → ((S : Sight) → IsSeen S t rs k b old now → limit ≡ fire_admitted S.trace f.namespace (limits_of f.namespace S.tenants) S.moment) → Ok tt ≡ admits_made m.commit.bytes limit
    → IfOk r (λ s. s ≡ told_fired f.id m) → IfOk r (Makes t rs k b now old new (λ S. ask_decision (shot_done S f rules)))
fired_makes t rs k b now old new f rules m limit (Ok s) made stands allowed admits is = λ S seen.
    let made_so = made S seen in
    let same : Ok (Fired (shot_items S f rules) f.id) ≡ shot_done S f rules = shot_so S f rules m.commit.bytes limit (Ok tt) made_so.bytes (allowed S seen) admits in (
      subst (λ (d : Result Done Reason). Carries s (ask_decision d) S) same
          (subst (λ (x : Step). Carries x (ask_decision (Ok (Fired (shot_items S f rules) f.id))) S) (sym is) (fired_carries m f rules S made_so)),
      subst (λ (d : Result Done Reason). Stands new (held (ask_decision d) ++ S.trace)) same (stands S seen),
    )
fired_makes t rs k b now old new f rules m limit (Err e) made stands allowed admits is = tt

-- and one that is refused, and taken back
pub refused_makes : (t : Table) (rs : List Row) (k : CountsView) (b : KeepingView) (now : Now) (old new : Shown) (f : Fire) (rules : List Rule) (m : Made) (limit : Result (Unit {0}) LimitRefusal) (reason : Reason) (r : Result Step NoMemory)
    → ((S : Sight) → IsSeen S t rs k b old now → IsMade m (shot_items S f rules) S) → new ≡ old
    → ((S : Sight) → IsSeen S t rs k b old now → limit ≡ fire_admitted S.trace f.namespace (limits_of f.namespace S.tenants) S.moment) → Err reason ≡ admits_made m.commit.bytes limit
    → IfOk r (λ s. (S : Sight) → CommitsDone (codes.Refused reason) S → Carries s (ask_decision (done_of (codes.Refused reason))) S)
    → IfOk r (Makes t rs k b now old new (λ S. ask_decision (shot_done S f rules)))
refused_makes t rs k b now old new f rules m limit reason (Ok s) made back allowed refuses carries = λ S seen.
    let made_so = made S seen in
    let same : Err reason ≡ shot_done S f rules = shot_so S f rules m.commit.bytes limit (Err reason) made_so.bytes (allowed S seen) refuses in (
      subst (λ (d : Result Done Reason). Carries s (ask_decision d) S) same (carries S tt),
      subst (λ (d : Result Done Reason). Stands new (held (ask_decision d) ++ S.trace)) same (subst (λ (v : Shown). Stands v S.trace) (sym back) seen.stands),
    )
refused_makes t rs k b now old new f rules m limit reason (Err e) made back allowed refuses carries = tt

-- what was held is back
pub back_to : (o : Option Shown) (v w : Shown) → o ≡ Some v → IfSome o (λ x. w ≡ x) → w ≡ v
back_to None v w is back = cc
back_to (Some x) v w is back = let same : x ≡ v = cc in back ∙ same

-- ---- what is fired

abbrev fire_by : Sight → Holder → FullName → Trigger → Pairs → Option ℕ → Result Done Reason
fire_by S h name t given number = or_else number not_found >>= (λ (n : ℕ). rules_done S h.subject name n t given (fired S.rows name))

abbrev fire_at : Sight → Holder → FullName → Pairs → Option Trigger → Result Done Reason
fire_at S h name given trigger = or_else trigger not_found >>= (λ (t : Trigger). fire_by S h name t given (number_of name.namespace S.tenants))

abbrev fire_in : Sight → Holder → Pairs → Option FullName → Result Done Reason
fire_in S h given name = or_else name no_route >>= (λ (n : FullName). fire_at S h n given (trigger_at (standing S.rows) n))

-- the outcome of a fire of these rules, which are those of the trigger
pub rules_so : (S : Sight) (h : Holder) (c : Call) (name : FullName) (t : Trigger) (number : ℕ) (rules : List Rule) → c.name ≡ Some name → trigger_at (standing S.rows) name ≡ Some t
    → number_of name.namespace S.tenants ≡ Some number → rules ≡ fired S.rows name → rules_done S h.subject name number t c.params rules ≡ change_done S h Fires c
rules_so S h c name t number rules named there numbered are =
    ap (rules_done S h.subject name number t c.params) are
    ∙ (ap (fire_by S h name t c.params) (sym numbered) ∙ (ap (fire_at S h name c.params) (sym there) ∙ ap (fire_in S h c.params) (sym named)))

-- there is no such trigger
pub no_trigger : (S : Sight) (h : Holder) (c : Call) (name : FullName) → c.name ≡ Some name → trigger_at (standing S.rows) name ≡ None → Err not_found ≡ change_done S h Fires c
no_trigger S h c name named none = ap (fire_at S h name c.params) (sym none) ∙ ap (fire_in S h c.params) (sym named)

-- its namespace has no number
pub no_number : (S : Sight) (h : Holder) (c : Call) (name : FullName) (t : Trigger) → c.name ≡ Some name → trigger_at (standing S.rows) name ≡ Some t → number_of name.namespace S.tenants ≡ None
    → Err not_found ≡ change_done S h Fires c
no_number S h c name t named there none =
    ap (fire_by S h name t c.params) (sym none) ∙ (ap (fire_at S h name c.params) (sym there) ∙ ap (fire_in S h c.params) (sym named))

-- the fire under the next id, at the moment that is seen
pub planned_fire : (S : Sight) (subject : List ℕ) (name : FullName) (number : ℕ) (t : Trigger) (given params : Pairs) (f : Fire) (at count : ℕ) → Some params ≡ fitting t.params given → is_draining S.trace ≡ false
    → S.moment ≡ at → count ≡ last S.trace number + 1
    → f ≡ record { id = record { namespace = number; count = count }; at = at; name = name.name; namespace = name.namespace; subject = subject; version = t.version; params = params }
    → Ok f ≡ fire_plan S subject name number t given
planned_fire S subject name number t given params f at count fits takes now next is =
    ap Ok (is ∙ (ap (λ (m : ℕ). record { id = record { namespace = number; count = count }; at = m; name = name.name; namespace = name.namespace; subject = subject; version = t.version; params = params }) (sym now)
    ∙ ap (λ (n : ℕ). record { id = record { namespace = number; count = n }; at = S.moment; name = name.name; namespace = name.namespace; subject = subject; version = t.version; params = params }) next))
    ∙ (ap (λ (b : Bool). unless b draining >>= (λ (taken : Unit {0}). Ok (fire_of S subject name number t params))) (sym takes)
    ∙ ap (λ (o : Option Pairs). or_else o too_large >>= (λ (ps : Pairs). takes_calls S >>= (λ (taken : Unit {0}). Ok (fire_of S subject name number t ps)))) fits)

-- of some rules there is a fire
pub some_rules : (S : Sight) (subject : List ℕ) (name : FullName) (number : ℕ) (t : Trigger) (given : Pairs) (rules : List Rule) → rules ≢ []
    → (fire_plan S subject name number t given >>= (λ (f : Fire). shot_done S f rules)) ≡ rules_done S subject name number t given rules
some_rules S subject name number t given [] some = absurd (some refl)
some_rules S subject name number t given (r ∷ rs) some = refl

-- ---- its record

-- with the record of the fire its items are all there
pub record_stands : (S : Sight) (f : Fire) (rs : List Rule) (w : Shown) (r : Record) (lines : List (List ℕ)) → r ≡ trigger_record f lines → lines ≡ rule_lines S f rs (draw_items S.moment f.id)
    → Stands w (fire_items r ++ (after_rules S f rs (draw_items S.moment f.id) ++ S.trace)) → Stands w (shot_items S f rs ++ S.trace)
record_stands S f rs w r lines is are stands =
    subst (λ (x : Record). Stands w (fire_items x ++ (after_rules S f rs (draw_items S.moment f.id) ++ S.trace))) (is ∙ ap (trigger_record f) are) stands

-- and so is all that moved
pub record_moved : (S : Sight) (f : Fire) (rs : List Rule) (r : Record) (lines : List (List ℕ)) (ms ns : List Moved) → r ≡ trigger_record f lines → lines ≡ rule_lines S f rs (draw_items S.moment f.id)
    → ms ≡ moved (after_rules S f rs (draw_items S.moment f.id)) → ns ≡ ms ++ moved (fire_items r) → ns ≡ moved (shot_items S f rs)
record_moved S f rs r lines ms ns is are so_far more =
    more ∙ (ap (λ (xs : List Moved). xs ++ moved (fire_items r)) so_far
    ∙ ap (λ (x : Record). moved (after_rules S f rs (draw_items S.moment f.id)) ++ moved (fire_items x)) (is ∙ ap (trigger_record f) are))
