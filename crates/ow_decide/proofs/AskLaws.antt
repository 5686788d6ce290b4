-- What is done at a request.
use Rattle.std.proofs.Common.{◌≡◌, ◌++◌, ◌∙◌, ℕ, [], Bool, true, false, if◌then◌else◌, Option, None, Some, List, Result, Ok, Err, IfOk, IsSome, refl, sym, subst, ap}
use Rattle.ow_floor.specs.View.{Shown as FloorShown}
use Rattle.ow_floor.specs.Trace.{Trace}
use Rattle.ow_floor.specs.Laws.{Grows, Stands}
use Rattle.ow_floor.specs.declared.activations.Plan.{Plan}
use Rattle.ow_http.specs.Refused.{refusal_of}
use Rattle.ow_http.specs.Steps.{◌>>=◌}
use Rattle.ow_http.specs.declared.answer.Answer.{Answer}
use Rattle.ow_http.specs.declared.reason.Reason.{Reason}
use Rattle.ow_records.specs.declared.ids.Id.{Id}
use Rattle.ow_decide.specs.declared.events.Told.TheVariants as told
use Rattle.ow_decide.specs.declared.step.RowChange.{RowChange}
use Rattle.ow_decide.specs.declared.step.RowChange.TheVariants as row_changes
use Rattle.ow_decide.specs.declared.step.Step.{Step}
use Rattle.ow_decide.specs.Asking.{Done, Shown, Changed, Invoked, Quiet, Fired, ask_decision, at_once, plan_done}
use Rattle.ow_decide.specs.Asking.{act_done, called_done, keyed_done, reply_in}
use Rattle.ow_http.specs.Parts.{Parts}
use Rattle.ow_reads.specs.Acts.{act_of}
use Rattle.ow_reads.specs.Reasons.{no_route}
use Rattle.ow_reads.specs.Steps.{or_else}
use Rattle.ow_reads.specs.Tenants.{asker}
use Rattle.ow_reads.specs.declared.acts.Act.{Act}
use Rattle.ow_reads.specs.declared.acts.Act.TheVariants.{Reads, Puts, Removes, Invokes, Fires, Sets}
use Rattle.ow_reads.specs.declared.acts.Reading.{Reading}
use Rattle.ow_tenant.specs.declared.entries.Holder.{Holder}
use Rattle.ow_decide.specs.Calling.{plan_items}
use Rattle.ow_decide.specs.Decision.{held}
use Rattle.ow_decide.specs.Reasons.{tells_full}
use Rattle.ow_decide.specs.Making.{Carries, CommitsDone, IsMade, IsSeen, IsTaken, Makes, change_of, commit_of, done_of, one_of}
use Rattle.ow_decide.specs.Sight.{Sight, room_for}
use Rattle.ow_decide.specs.Waiting.{invoked_reply, waits_of}
use Rattle.ow_decide.specs.declared.commits.Made.{Made}
use Rattle.ow_decide.specs.declared.events.Told.{Told}
use Rattle.ow_decide.specs.declared.step.Now.{Now}
use Rattle.ow_decide.specs.declared.waits.Shows.{Shows}
use Rattle.ow_counts.specs.View.{CountsView}
use Rattle.ow_entity.specs.declared.rows.Row.{Row}
use Rattle.ow_tenant.specs.Table.{Table}
use Rattle.ow_value.specs.declared.memory.NoMemory.{NoMemory}
use Rattle.ow_decide.specs.declared.waits.Waits.TheVariants.{Keep}
use Rattle.ow_decide.proofs.KeptLaws.{one_change}
use Rattle.ow_commits.specs.Keeping.{FollowingView, KeepingView}
use Rattle.ow_tables.specs.Contents.{Change}
use Rattle.ow_decide.specs.declared.done.Done.{Done as CodeDone}
use Rattle.ow_decide.specs.declared.done.Done.TheVariants as codes

-- what is done at a request, where its outcome is what is decided
pub ask_makes : (old new : FloorShown) (S : Sight) (s : Step) (d e : Result Done Reason) → Stands old S.trace
    → Grows old new (λ T. held (ask_decision d)) → d ≡ e → Carries s (ask_decision d) S
    → Carries s (ask_decision e) S × Stands new (held (ask_decision e) ++ S.trace)
ask_makes old new S s d e stands grows same carries = (
  subst (λ (x : Result Done Reason). Carries s (ask_decision x) S) same carries,
  subst (λ (x : Result Done Reason). Stands new (held (ask_decision x) ++ S.trace)) same (grows S.trace stands),
)

replies_if : (b : Bool) (a : Answer) → IsSome (reply_in (if b then told.Full a else at_once a))
replies_if true a = refl
replies_if false a = refl

-- a request is always answered
pub ask_replies : (d : Result Done Reason) → IsSome (reply_in (ask_decision d).told)
ask_replies (Ok (Shown value)) = refl
ask_replies (Ok (Changed change value)) = refl
ask_replies (Ok (Invoked items plan shows)) = refl
ask_replies (Ok Quiet) = refl
ask_replies (Ok (Fired items id)) = refl
ask_replies (Err reason) = replies_if (tells_full reason) (refusal_of reason)

done_items : (d : CodeDone) → held (ask_decision (done_of d)) ≡ []
done_items (codes.Refused reason) = refl
done_items (codes.Shown value) = refl
done_items (codes.Changed ready shown commit) = refl
done_items codes.Quiet = refl

-- items are added on the floor only where an activation is accepted
pub done_grows : (v : FloorShown) (d : CodeDone) → Grows v v (λ T. held (ask_decision (done_of d)))
done_grows v d = λ T stands. subst (λ (items : Trace). Stands v (items ++ T)) (sym (done_items d)) stands

-- ---- what is committed

-- a step with the answer to a request, its change and its commit carries what is decided
pub done_carries : (d : CodeDone) (t : Told) (change : RowChange) (commit : Option FollowingView) (S : Sight) → t ≡ (ask_decision (done_of d)).told
    → change ≡ one_of (change_of d) → commit ≡ commit_of d → CommitsDone d S
    → Carries (record { told = t; change = change; waits = Keep; moves = []; commit = commit; others = None }) (ask_decision (done_of d)) S
done_carries d t change commit S told same committed commits =
    subst (λ (x : RowChange). Carries (record { told = t; change = x; waits = Keep; moves = []; commit = commit; others = None }) (ask_decision (done_of d)) S) (sym same)
    (subst (λ (x : Option FollowingView). Carries (record { told = t; change = one_of (change_of d); waits = Keep; moves = []; commit = x; others = None }) (ask_decision (done_of d)) S) (sym committed) (by_case d told commits))
  where
    by_case : (d : CodeDone) → t ≡ (ask_decision (done_of d)).told → CommitsDone d S
        → Carries (record { told = t; change = one_of (change_of d); waits = Keep; moves = []; commit = commit_of d; others = None }) (ask_decision (done_of d)) S
    by_case (codes.Refused reason) told commits = record { told = told; changes = refl; waits = refl; moves = refl; commit = (refl, (tt, refl)); others = refl }
    by_case (codes.Shown value) told commits = record { told = told; changes = refl; waits = refl; moves = refl; commit = (refl, (tt, refl)); others = refl }
    by_case codes.Quiet told commits = record { told = told; changes = refl; waits = refl; moves = refl; commit = (refl, (tt, refl)); others = refl }
    by_case (codes.Changed ready shown commit) told commits =
        record { told = told; changes = refl; waits = refl; moves = refl; commit = record { changes = commits.changes ∙ sym (one_change ready); stands = commits.stands }; others = refl }

-- where no row is changed nothing is committed
pub unchanged_commits : (d : CodeDone) (S : Sight) → change_of d ≡ None → CommitsDone d S
unchanged_commits (codes.Refused reason) S none = tt
unchanged_commits (codes.Shown value) S none = tt
unchanged_commits codes.Quiet S none = tt
unchanged_commits (codes.Changed ready shown commit) S none = cc

-- ---- what is accepted

-- the outcome for a plan that is admitted so
abbrev done_by : Sight → Plan → Shows → Result Plan Reason → Result Done Reason
done_by S plan shows r = r >>= (λ (admitted : Plan). Ok (Invoked (plan_items S plan) plan shows))

-- the step that answers a request whose plan was made
abbrev pub told_invoked : Id → Option ℕ → Shows → Made → Step
told_invoked id until shows made = record { told = told.Asked (invoked_reply id until); change = row_changes.Nothing; waits = waits_of id shows until; moves = made.moves; commit = Some made.commit; others = None }

made_carries : (made : Made) (plan : Plan) (shows : Shows) (S : Sight) → IsMade made (plan_items S plan) S
    → Carries (told_invoked plan.id plan.until shows made) (ask_decision (Ok (Invoked (plan_items S plan) plan shows))) S
made_carries made plan shows S is = record {
  told = refl;
  changes = refl;
  waits = refl;
  moves = is.moves;
  commit = record { changes = is.changes; stands = is.stands };
  others = refl;
}

-- the answer to a plan that was accepted says so
pub taken_carries : (made : Made) (id : Id) (until : Option ℕ) (shows : Shows) (s : Step) → s ≡ told_invoked id until shows made
    → (S : Sight) (plan : Plan) (v : FloorShown) → plan.id ≡ id → plan.until ≡ until → IsTaken (Ok made) plan S v → Carries s (ask_decision (plan_done S plan shows)) S
taken_carries made id until shows s is S plan v same waits taken =
    subst (λ (x : Step). Carries x (ask_decision (plan_done S plan shows)) S)
    (ap (λ (i : Id). told_invoked i plan.until shows made) same ∙ (ap (λ (u : Option ℕ). told_invoked id u shows made) waits ∙ sym is))
    (subst (λ (r : Result Plan Reason). Carries (told_invoked plan.id plan.until shows made) (ask_decision (done_by S plan shows r)) S) (sym taken.0) (made_carries made plan shows S taken.1.0))

-- and the answer to one that was refused says why
pub refused_carries : (reason : Reason) (shows : Shows) (s : Step) → ((S : Sight) → CommitsDone (codes.Refused reason) S → Carries s (ask_decision (done_of (codes.Refused reason))) S)
    → (S : Sight) (plan : Plan) (v : FloorShown) → IsTaken (Err reason) plan S v → Carries s (ask_decision (plan_done S plan shows)) S
refused_carries reason shows s carries S plan v taken =
    subst (λ (r : Result Plan Reason). Carries s (ask_decision (done_by S plan shows r)) S) (sym taken.0) (carries S tt)

-- the floor has what was done of it
taken_stands : (taken : Result Made Reason) (plan : Plan) (shows : Shows) (S : Sight) (v : FloorShown) → IsTaken taken plan S v → Stands v (held (ask_decision (plan_done S plan shows)) ++ S.trace)
taken_stands (Ok made) plan shows S v is = subst (λ (r : Result Plan Reason). Stands v (held (ask_decision (done_by S plan shows r)) ++ S.trace)) (sym is.0) is.1.1
taken_stands (Err reason) plan shows S v is = subst (λ (r : Result Plan Reason). Stands v (held (ask_decision (done_by S plan shows r)) ++ S.trace)) (sym is.0) is.1

-- what is done of a plan is what is decided of it
pub plan_makes : (t : Table) (rs : List Row) (k : CountsView) (b : KeepingView) (now : Now) (old new : FloorShown) (plan : Plan) (id : Id) (until : Option ℕ) (shows : Shows) (taken : Result Made Reason) (r : Result Step NoMemory)
    → plan.id ≡ id → plan.until ≡ until → ((S : Sight) → IsSeen S t rs k b old now → IsTaken taken plan S new)
    → IfOk r (λ s. (S : Sight) (p : Plan) (v : FloorShown) → p.id ≡ id → p.until ≡ until → IsTaken taken p S v → Carries s (ask_decision (plan_done S p shows)) S)
    → IfOk r (Makes t rs k b now old new (λ S. ask_decision (plan_done S plan shows)))
plan_makes t rs k b now old new plan id until shows taken (Ok s) same waits takes carries = λ S seen.
    (carries S plan new same waits (takes S seen), taken_stands taken plan shows S new (takes S seen))
plan_makes t rs k b now old new plan id until shows taken (Err e) same waits takes carries = tt

-- what is done is the outcome of the request
pub done_makes : (t : Table) (rs same : List Row) (k : CountsView) (b : KeepingView) (now : Now) (old new : FloorShown) (does done : Sight → Result Done Reason) (r : Result Step NoMemory)
    → same ≡ rs → ((S : Sight) → IsSeen S t rs k b old now → does S ≡ done S) → IfOk r (Makes t same k b now old new (λ S. ask_decision (does S)))
    → IfOk r (Makes t rs k b now old new (λ S. ask_decision (done S)))
done_makes t rs same k b now old new does done (Ok s) is comes makes = λ S seen.
    let both = subst (λ (xs : List Row). Makes t xs k b now old new (λ S. ask_decision (does S)) s) is makes S seen in (
      subst (λ (d : Result Done Reason). Carries s (ask_decision d) S) (comes S seen) both.0,
      subst (λ (d : Result Done Reason). Stands new (held (ask_decision d) ++ S.trace)) (comes S seen) both.1,
    )
done_makes t rs same k b now old new does done (Err e) is comes makes = tt

-- ---- a request with a key

no_read : (S : Sight) (p : Parts) (act : Act) (h : Holder) → ((reading : Reading) → act ≡ Reads reading → ⊥) → called_done S h act p ≡ act_done S h act p
no_read S p (Reads reading) h calls = absurd (calls reading refl)
no_read S p Puts h calls = refl
no_read S p (Removes kind) h calls = refl
no_read S p Invokes h calls = refl
no_read S p Fires h calls = refl
no_read S p Sets h calls = refl

-- the outcome of a call is that of the request, whose key is known and for which the book has room
pub keyed_so : (S : Sight) (p : Parts) (act : Act) (h : Holder) → act_of p.route p.method ≡ Some act → Ok tt ≡ room_for S p.size → asker S.tenants p.key ≡ Ok h
    → ((reading : Reading) → act ≡ Reads reading → ⊥) → called_done S h act p ≡ keyed_done S p
keyed_so S p act h acts room asks calls =
    no_read S p act h calls
    ∙ (ap (λ (r : Result Holder Reason). r >>= (λ (x : Holder). act_done S x act p)) (sym asks)
    ∙ (ap (λ (r : Result (Unit {0}) Reason). r >>= (λ (u : Unit {0}). asker S.tenants p.key >>= (λ (x : Holder). act_done S x act p))) room
    ∙ ap (λ (o : Option Act). or_else o no_route >>= (λ (a : Act). room_for S p.size >>= (λ (u : Unit {0}). asker S.tenants p.key >>= (λ (x : Holder). act_done S x a p)))) (sym acts)))
