-- The steps for runners, sweeps and reopenings are what is decided.
use Rattle.std.proofs.Common.{arith, ◌≡◌, ◌++◌, ◌∙◌, ℕ, true, List, [], ◌∷◌, length, Option, None, Some, Result, append-nil, refl, sym, ap, subst}
use Rattle.std.specs.Prelude.{◌==◌}
use Rattle.std.proofs.lemmas.Bool.Decides.{nat_tests}
use Rattle.ow_entity.specs.declared.rows.Row.{Row}
use Rattle.ow_traits.specs.declared.replies.RunReply.{RunReply}
use Rattle.ow_floor.specs.Calls.{abandon_items, abandoned_ends, answer_of, answered_by, answered_items, happened, happened_of, moved, next_items, next_order, reply_recorded}
use Rattle.ow_floor.specs.View.{Shown}
use Rattle.ow_floor.specs.Trace.{Trace, shown}
use Rattle.ow_floor.specs.Growth.{AreRight}
use Rattle.ow_floor.specs.Laws.{Grows, IsSound, Stands}
use Rattle.ow_floor.specs.declared.answers.FloorRefusal.{FloorRefusal}
use Rattle.ow_floor.specs.declared.answers.Order.{Order}
use Rattle.ow_floor.specs.declared.moves.Moved.{Moved}
use Rattle.ow_commits.specs.Keeping.{AreOwn, FollowingView, KeepingView, StandsForKept}
use Rattle.ow_tables.specs.Rows.{standing}
use Rattle.ow_tenant.specs.Table.{Table}
use Rattle.ow_trees.specs.Steps.{steps_after}
use Rattle.ow_counts.specs.View.{CountsView}
use Rattle.ow_decide.specs.Decision.{Decision, Same, adds}
use Rattle.ow_decide.specs.Decisions.{answered_all, answered_told, decide, reopened_decision, reply_told, taken_told}
use Rattle.ow_decide.specs.Making.{Carries, IsOthersStep, IsReplyTold, IsSeen, IsTold, Makes, changes_of, telling}
use Rattle.ow_decide.specs.Sight.{Sight}
use Rattle.ow_decide.specs.declared.events.Event.TheVariants as events
use Rattle.ow_decide.specs.declared.events.Told.{Told}
use Rattle.ow_decide.specs.declared.events.Told.TheVariants as told
use Rattle.ow_decide.specs.declared.step.Now.{Now}
use Rattle.ow_decide.specs.declared.step.OthersStep.{OthersStep}
use Rattle.ow_decide.specs.declared.step.Step.{Step}
use Rattle.ow_decide.specs.declared.waits.Waits.TheVariants.{Clear, Keep}
use Rattle.ow_decide.proofs.MadeLaws.{abandoned_own, abandoned_right, answered_own, answered_right, nothing_answered}
use Rattle.ow_decide.proofs.PlanLaws.{as_seen}

no_length : (n : ℕ) → true ≡ (n == 0) → n ≡ 0
no_length n none = grind (arith, nat_tests)

-- a list of no length
pub nothing_moved : (ms : List Moved) → true ≡ (length ms == 0) → ms ≡ []
nothing_moved [] none = refl
nothing_moved (m ∷ ms) none = let e : length (m ∷ ms) ≡ 0 = no_length (length (m ∷ ms)) none in cc

-- where nothing is to be archived
pub others_stay : (commit : Option FollowingView) (archive : Option OthersStep) (d : Decision) (S : Sight) → archive ≡ None → d.others ≡ Same → IsOthersStep commit archive d S
others_stay None archive d S none same = subst (λ (o : Option OthersStep). IsOthersStep None o d S) (sym none) same
others_stay (Some c) archive d S none same = subst (λ (o : Option OthersStep). IsOthersStep (Some c) o d S) (sym none) same

-- an answer where nothing moves
pub quiet_carried : (is are : Told) (items : Trace) (S : Sight) → is ≡ are → AreOwn items → moved items ≡ [] → Carries (telling is) (adds are items) S
quiet_carried is are items S same own quiet = record { told = same; changes = refl; waits = refl; moves = sym quiet; commit = (refl, (own, quiet)); others = refl }

-- an answer where these moved
pub told_carried : (s : Step) (is are : Told) (ms : List Moved) (b : KeepingView) (S : Sight) (items : Trace) → IsTold s is Keep ms b → is ≡ are → StandsForKept b S.others S.rows S.trace → IsSound S.trace
    → AreRight items (shown S.trace) → AreOwn items → ms ≡ moved items → Carries s (adds are items) S
told_carried s is are ms b S items step same keeps sound right own moves = record {
  told = step.told ∙ same;
  changes = ap changes_of step.change;
  waits = step.waits;
  moves = step.moves ∙ moves;
  commit = step.commit S items are Keep keeps sound right own moves;
  others = others_stay s.commit s.others (adds are items) S step.others refl;
}

-- items at the moment that is seen
pub at_moment : (old new : Shown) (items : ℕ → Trace → Trace) (t : Table) (rs : List Row) (k : CountsView) (b : KeepingView) (now : Now) → Grows old new (items now.at) → (S : Sight) → IsSeen S t rs k b old now
    → Stands new (items S.moment S.trace ++ S.trace)
at_moment old new items t rs k b now grows S seen = subst (λ (at : ℕ). Stands new (items at S.trace ++ S.trace)) (sym seen.moment) (grows S.trace seen.stands)

-- a beginning, a loss or a going: its answer is given, and its items happen
pub taken_makes : (t : Table) (rs : List Row) (k : CountsView) (b : KeepingView) (old new : Shown) (now : Now) (answer : Trace → Result (Unit {0}) FloorRefusal) (items : ℕ → Trace → Trace)
    (taken : Result (Unit {0}) FloorRefusal) → ((S : Sight) → AreOwn (items S.moment S.trace) × (moved (items S.moment S.trace) ≡ [])) → ((T : Trace) → Stands old T → taken ≡ answer T) → Grows old new (items now.at)
    → (S : Sight) → IsSeen S t rs k b old now
    → Carries (telling (taken_told taken)) (adds (taken_told (answer S.trace)) (items S.moment S.trace)) S × Stands new (items S.moment S.trace ++ S.trace)
taken_makes t rs k b old new now answer items taken quiet is grows S seen =
    (quiet_carried _ _ (items S.moment S.trace) S (ap taken_told (is S.trace seen.stands)) (quiet S).0 (quiet S).1, at_moment old new items t rs k b now grows S seen)

-- a runner's request for an order: the order is the answer, and its items happen
pub next_makes : (t : Table) (rs : List Row) (k : CountsView) (b : KeepingView) (old new : Shown) (now : Now) (order : Order) → ((S : Sight) → AreOwn (next_items S.moment S.trace) × (moved (next_items S.moment S.trace) ≡ []))
    → ((T : Trace) → Stands old T → order ≡ next_order T) → Grows old new (λ T. next_items now.at T) → (S : Sight) → IsSeen S t rs k b old now
    → Carries (telling (told.Next order)) (adds (told.Next (next_order S.trace)) (next_items S.moment S.trace)) S × Stands new (next_items S.moment S.trace ++ S.trace)
next_makes t rs k b old new now order quiet is grows S seen =
    (quiet_carried _ _ (next_items S.moment S.trace) S (ap told.Next (is S.trace seen.stands)) (quiet S).0 (quiet S).1, at_moment old new (λ at T. next_items at T) t rs k b now grows S seen)

-- a reply to a live run is answered and recorded, with the steps that its end makes
recorded_makes : (t : Table) (rs : List Row) (k : CountsView) (b : KeepingView) (now : Now) (old new : Shown) (run : ℕ) (reply : RunReply) (recorded : Option ℕ) (ms ns : List Moved) (s : Step)
    → IsTold s (told.Answered (answered_by run recorded (happened_of ns))) Keep ns b → ((T : Trace) → Stands old T → Some recorded ≡ reply_recorded run T) → ms ≡ []
    → ((T : Trace) → Stands old T → ns ≡ ms ++ moved (steps_after (standing rs) now.at T (answered_items now.at run reply T)))
    → Grows old new (λ T. steps_after (standing rs) now.at T (answered_items now.at run reply T))
    → Makes t rs k b now old new (λ S. decide S (events.Answered run reply)) s
recorded_makes t rs k b now old new run reply recorded ms ns s step is none noted grows = λ S seen.
    let moves : ns ≡ moved (answered_all S run reply) =
    as_seen (λ (xs : List Row) (m : ℕ). ns ≡ moved (steps_after (standing xs) m S.trace (answered_items m run reply S.trace))) S rs now.at seen.rows seen.moment
    (noted S.trace seen.stands ∙ ap (λ (os : List Moved). os ++ moved (steps_after (standing rs) now.at S.trace (answered_items now.at run reply S.trace))) none) in
    let tells : told.Answered (answered_by run recorded (happened_of ns)) ≡ answered_told S run reply =
    ap (λ (o : Option (Option ℕ)). reply_told run reply (answer_of run o (happened_of ns))) (is S.trace seen.stands)
    ∙ ap (λ (xs : List Moved). reply_told run reply (answer_of run (reply_recorded run S.trace) (happened_of xs))) moves in (
      told_carried s _ (answered_told S run reply) ns b S (answered_all S run reply) step tells seen.keeping seen.stands.sound (answered_right S run reply seen.stands.sound) (answered_own S run reply) moves,
      as_seen (λ (xs : List Row) (m : ℕ). Stands new (steps_after (standing xs) m S.trace (answered_items m run reply S.trace) ++ S.trace)) S rs now.at seen.rows seen.moment (grows S.trace seen.stands),
    )

-- a reply to no live run is handed back
unknown_makes : (t : Table) (rs : List Row) (k : CountsView) (b : KeepingView) (now : Now) (old new : Shown) (run : ℕ) (reply : RunReply) (s : Step)
    → s ≡ telling (told.NoRun run reply) → ((T : Trace) → Stands old T → None ≡ reply_recorded run T)
    → Grows old new (λ T. steps_after (standing rs) now.at T (answered_items now.at run reply T))
    → Makes t rs k b now old new (λ S. decide S (events.Answered run reply)) s
unknown_makes t rs k b now old new run reply s step is grows = λ S seen.
    let nothing : answered_all S run reply ≡ [] = nothing_answered S run reply (sym (is S.trace seen.stands)) in
    let tells : told.NoRun run reply ≡ answered_told S run reply = ap (λ (o : Option (Option ℕ)). reply_told run reply (answer_of run o (happened (answered_all S run reply)))) (is S.trace seen.stands) in (
      subst (λ (x : Step). Carries x (adds (answered_told S run reply) (answered_all S run reply)) S) (sym step)
          (quiet_carried _ _ (answered_all S run reply) S tells (answered_own S run reply) (ap moved nothing)),
      as_seen (λ (xs : List Row) (m : ℕ). Stands new (steps_after (standing xs) m S.trace (answered_items m run reply S.trace) ++ S.trace)) S rs now.at seen.rows seen.moment (grows S.trace seen.stands),
    )

-- a reply
pub answered_makes : (t : Table) (rs : List Row) (k : CountsView) (b : KeepingView) (now : Now) (old new : Shown) (run : ℕ) (reply : RunReply) (o : Option (Option ℕ)) (ms ns : List Moved) (s : Step)
    → IsReplyTold s run reply o ns b → ((T : Trace) → Stands old T → o ≡ reply_recorded run T) → ms ≡ []
    → ((T : Trace) → Stands old T → ns ≡ ms ++ moved (steps_after (standing rs) now.at T (answered_items now.at run reply T)))
    → Grows old new (λ T. steps_after (standing rs) now.at T (answered_items now.at run reply T))
    → Makes t rs k b now old new (λ S. decide S (events.Answered run reply)) s
answered_makes t rs k b now old new run reply None ms ns s step is none noted grows = unknown_makes t rs k b now old new run reply s step is grows
answered_makes t rs k b now old new run reply (Some recorded) ms ns s step is none noted grows = recorded_makes t rs k b now old new run reply recorded ms ns s step is none noted grows

-- a reopening
pub reopened_makes : (t : Table) (rs : List Row) (k : CountsView) (b : KeepingView) (now : Now) (old new : Shown) (ms ns : List Moved) (s : Step)
    → IsTold s (told.Reopened (happened_of ns)) Clear ns b → ms ≡ [] → ((T : Trace) → Stands old T → ns ≡ ms ++ moved (abandon_items now.at T)) → Grows old new (λ T. abandon_items now.at T)
    → Makes t rs k b now old new (λ S. decide S events.Reopened) s
reopened_makes t rs k b now old new ms ns s step none noted grows = λ S seen.
    let items : Trace = abandon_items S.moment S.trace in
    let moves : ns ≡ moved items =
    subst (λ (m : ℕ). ns ≡ moved (abandon_items m S.trace)) (sym seen.moment)
    (noted S.trace seen.stands ∙ ap (λ (os : List Moved). os ++ moved (abandon_items now.at S.trace)) none) in
    let ends : moved items ≡ moved (abandoned_ends S.moment S.trace) = append-nil (moved (abandoned_ends S.moment S.trace)) in (
      record {
        told = step.told ∙ ap (λ (xs : List Moved). told.Reopened (happened_of xs)) (moves ∙ ends);
        changes = ap changes_of step.change;
        waits = step.waits;
        moves = step.moves ∙ moves;
        commit = step.commit S items (told.Reopened (happened (abandoned_ends S.moment S.trace))) Clear seen.keeping seen.stands.sound (abandoned_right S seen.stands.sound) (abandoned_own S) moves;
        others = others_stay s.commit s.others (reopened_decision S.moment S.trace) S step.others refl;
      },
      at_moment old new (λ at T. abandon_items at T) t rs k b now grows S seen,
    )
