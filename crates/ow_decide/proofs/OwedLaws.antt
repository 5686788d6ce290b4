-- Each child that is accepted, and each end of a composite, is the step that is owed.
use Rattle.std.proofs.Common.{◌++◌, Option, Some, None, [], ◌∷◌, length}
use Rattle.ow_records.specs.declared.outcomes.Ending.{Ending}
use Rattle.ow_records.specs.declared.outcomes.Ending.TheVariants.{Abandoned, Composed, Overran, Replied}
use Rattle.ow_tables.specs.Rows.{standing}
use Rattle.ow_keep.specs.Judged.{judged}
use Rattle.ow_keep.specs.Split.{Parts}
use Rattle.ow_floor.specs.Calls.{abandon_items, answered_items, begun_items, gone_items, lost_items, next_items, overrun_first}
use Rattle.ow_floor.specs.Trace.{Accepted, Drained, End, Ended, Item, Trace, open_items}
use Rattle.ow_trees.specs.Owed.{AreOwed, IsComposed, IsOwed}
use Rattle.ow_trees.proofs.Coming.{each_overrun, step_owed}
use Rattle.ow_trees.proofs.Stepping.{each_after, each_swept}
use Rattle.ow_http.specs.Request.{parts_of}
use Rattle.ow_http.specs.Steps.{◌>>=◌}
use Rattle.ow_decide.specs.declared.events.Event.{Event}
use Rattle.ow_decide.specs.declared.events.Event.TheVariants as events
use Rattle.ow_decide.specs.Asking.{request_done}
use Rattle.ow_decide.specs.Calling.{admitted_plan, call_plan}
use Rattle.ow_decide.specs.Chain.{IsEndBy}
use Rattle.ow_decide.specs.Decisions.{decide, swept_all}
use Rattle.ow_decide.specs.Deploying.{deployed}
use Rattle.ow_decide.specs.Opening.{opened_decision, parts_taken}
use Rattle.ow_decide.specs.Sight.{Sight}
use Rattle.ow_decide.proofs.DeployLaws.{deploy_adds}
use Rattle.ow_decide.proofs.AcceptLaws.{asked_admitted, called_admitted}
use Rattle.ow_decide.proofs.ChainLaws.{AreOfFloor, IsOfCall, asked_chain, called_chain, of_abandon, of_answered, of_begun, of_drain, of_gone, of_lost, of_next}
use Rattle.ow_decide.proofs.MadeLaws.{sweep_adds}
use Rattle.ow_decide.proofs.OfficeLaws.{office_chain}

module _ (S : Sight) where
  -- a call of the floor ends no composite by itself
  ended_owed : (e : End) (ending : Ending) (T : Trace) → IsEndBy S.moment ending e.run e.task → IsComposed (standing S.rows) S.moment e ending T
  ended_owed e (Replied reply) T by = tt
  ended_owed e Overran T by = tt
  ended_owed e Abandoned T by = tt
  ended_owed e (Composed response children) T by = absurd by

  item_owed : (item : Item) (T : Trace) → IsOfCall S item → IsOwed (standing S.rows) S.moment item T
  item_owed (Accepted a) T made = absurd made
  item_owed (Ended e) T made = ended_owed e e.ending T made.by
  item_owed item T made = tt

  floor_owed : (items T : Trace) → AreOfFloor S items → AreOwed (standing S.rows) S.moment items T
  floor_owed [] T made = tt
  floor_owed (item ∷ items) T made = (item_owed item (items ++ T) made.0.1, floor_owed items T made.1)

  opened_owed : (parts : Option Parts) → AreOwed (standing S.rows) S.moment (opened_decision S.moment parts).items S.trace
  opened_owed None = tt
  opened_owed (Some parts) = (tt, tt)

  late_owed : (T : Trace) → AreOwed (standing S.rows) S.moment (overrun_first S.moment T) T
  late_owed T = each_overrun (IsOwed (standing S.rows) S.moment) S.moment T (λ r a. tt)

  swept_owed : AreOwed (standing S.rows) S.moment (swept_all S) S.trace
  swept_owed = (
    tt,
    each_swept (IsOwed (standing S.rows) S.moment) (length (open_items S.trace)) (standing S.rows) S.moment S.trace (step_owed (standing S.rows) S.moment) late_owed,
  )

  pub decided_owed : (event : Event) → AreOwed (standing S.rows) S.moment (decide S event).items S.trace
  decided_owed (events.Opened rows) = opened_owed (parts_taken S.moment S.trace (judged rows))
  decided_owed (events.Asked r) = (asked_chain S (request_done S (parts_of r)) (asked_admitted S (parts_of r))).owed
  decided_owed (events.Called name params) = (called_chain S (call_plan S name params >>= admitted_plan S) (called_admitted S name params)).owed
  decided_owed (events.Fired trigger params note) = (office_chain S trigger params note).owed
  decided_owed (events.Deployed drafts) = deploy_adds (λ (items : Trace). AreOwed (standing S.rows) S.moment items S.trace) (deployed S drafts) tt
  decided_owed events.Next = floor_owed (next_items S.moment S.trace) S.trace (of_next S)
  decided_owed (events.Answered run reply) =
      each_after (IsOwed (standing S.rows) S.moment) (standing S.rows) S.moment (answered_items S.moment run reply S.trace) S.trace (step_owed (standing S.rows) S.moment)
      (floor_owed (answered_items S.moment run reply S.trace) S.trace (of_answered S run reply))
  decided_owed (events.Begun run) = floor_owed (begun_items S.moment run S.trace) S.trace (of_begun S run)
  decided_owed (events.Lost run) = floor_owed (lost_items S.moment run S.trace) S.trace (of_lost S run)
  decided_owed (events.Gone slot generation) = floor_owed (gone_items S.moment slot generation S.trace) S.trace (of_gone S slot generation)
  decided_owed events.Sweep = sweep_adds S (λ (items : Trace). AreOwed (standing S.rows) S.moment items S.trace) swept_owed (λ until. (tt, swept_owed))
  decided_owed (events.Collected id) = tt
  decided_owed events.Drain = floor_owed (Drained S.moment ∷ []) S.trace (of_drain S)
  decided_owed events.Reopened = floor_owed (abandon_items S.moment S.trace) S.trace (of_abandon S)
