-- What is decided accepts and fires at the moment, and what is held of it takes over nothing of an earlier run.
use Rattle.std.proofs.Common.{◌≡◌, ◌++◌, ◌∙◌, false, List, [], ◌∷◌, append_assoc, refl, sym, ap, subst}
use Rattle.std.proofs.lemmas.List.{append-nil}
use Rattle.ow_records.specs.declared.record.Record.{Record}
use Rattle.ow_floor.specs.Calls.{moved}
use Rattle.ow_floor.specs.Trace.{Accepted, Ended, Fired, Item, Trace, record_of, records, records_after}
use Rattle.ow_commits.specs.Keeping.{AreOwn}
use Rattle.ow_counts.specs.View.{AreNotedAt, AreUpTo, IsNotedAt}
use Rattle.ow_counts.proofs.Moving.{up_items}
use Rattle.ow_http.specs.Request.{parts_of}
use Rattle.ow_http.specs.Steps.{◌>>=◌}
use Rattle.ow_decide.specs.declared.events.Event.{Event}
use Rattle.ow_decide.specs.declared.events.Event.TheVariants as events
use Rattle.ow_decide.specs.Asking.{ask_decision, request_done}
use Rattle.ow_decide.specs.Calling.{admitted_plan, call_plan, called_decision}
use Rattle.ow_decide.specs.Chain.{AreSteps, IsStep}
use Rattle.ow_decide.specs.Decision.{Decision, Same, held}
use Rattle.ow_decide.specs.Decisions.{decide, is_opening, wants_memory}
use Rattle.ow_decide.specs.Deploying.{deploy_decision, deployed}
use Rattle.ow_decide.specs.Sight.{Sight}
use Rattle.ow_decide.proofs.AcceptLaws.{asked_admitted, called_admitted}
use Rattle.ow_decide.proofs.ArchiveLaws.{asked_same, called_same, deployed_same, held_same, held_sweep}
use Rattle.ow_decide.proofs.ChainLaws.{asked_chain, by_decision, called_chain, decided_steps}
use Rattle.ow_decide.proofs.DeployLaws.{deploy_adds}
use Rattle.ow_decide.proofs.MadeLaws.{abandoned_own, answered_own, begun_quiet, gone_quiet, lost_quiet, next_quiet, swept_own}
use Rattle.ow_decide.specs.OfficeFiring.{office_shot}
use Rattle.ow_decide.proofs.OfficeLaws.{office_chain, office_held}

-- ---- records

records_at : (item : Item) (old new : List Record) → records_after item (old ++ new) ≡ old ++ records_after item new
records_at (Ended e) old new = append_assoc old new (record_of e ∷ [])
records_at (Fired r) old new = append_assoc old new (r ∷ [])
records_at item old new = refl

-- the records of items come after those of the trace
pub records_more : (items T : Trace) → records (items ++ T) ≡ records T ++ records items
records_more [] T = sym (append-nil (records T))
records_more (item ∷ items) T = ap (records_after item) (records_more items T) ∙ records_at item (records T) (records items)

-- ---- moments

noted_step : (S : Sight) (item : Item) (T : Trace) → IsStep S item T → IsNotedAt S.moment item
noted_step S (Accepted a) T step = step.at
noted_step S (Fired r) T step = step.at
noted_step S item T step = tt

-- a chain accepts and fires at the moment
pub steps_noted : (S : Sight) (items : Trace) → AreSteps S items → AreNotedAt S.moment items
steps_noted S [] steps = tt
steps_noted S (item ∷ items) steps = (noted_step S item (items ++ S.trace) steps.0, steps_noted S items steps.1)

pub decided_noted : (S : Sight) (event : Event) → is_opening event ≡ false → AreNotedAt S.moment (decide S event).items
decided_noted S event other = steps_noted S (decide S event).items (decided_steps S event other)

same_own : (d : Decision) → d.others ≡ Same → AreOwn d.items → AreOwn (held d)
same_own d same own = subst AreOwn (sym (held_same d same)) own

-- nothing that is held takes over anything of an earlier run, or archives anything
pub decided_own : (S : Sight) (event : Event) → is_opening event ≡ false → AreOwn (held (decide S event))
decided_own S (events.Opened rows) other = cc
decided_own S (events.Asked r) other =
    same_own (ask_decision (request_done S (parts_of r))) (asked_same (request_done S (parts_of r))) (asked_chain S (request_done S (parts_of r)) (asked_admitted S (parts_of r))).own
decided_own S (events.Called name params) other =
    let planned = call_plan S name params >>= admitted_plan S in
    same_own (called_decision S planned) (called_same S planned) (called_chain S planned (called_admitted S name params)).own
decided_own S (events.Fired trigger params note) other =
    subst AreOwn (sym (office_held S.others note (office_shot S trigger params note))) (office_chain S trigger params note).own
decided_own S (events.Deployed drafts) other = same_own (deploy_decision (deployed S drafts)) (deployed_same (deployed S drafts)) (deploy_adds AreOwn (deployed S drafts) tt)
decided_own S events.Next other = (next_quiet S).0
decided_own S (events.Answered run reply) other = answered_own S run reply
decided_own S (events.Begun run) other = (begun_quiet S run).0
decided_own S (events.Lost run) other = (lost_quiet S run).0
decided_own S (events.Gone slot generation) other = (gone_quiet S slot generation).0
decided_own S events.Sweep other = subst AreOwn (sym (held_sweep S)) (swept_own S)
decided_own S (events.Collected id) other = tt
decided_own S events.Drain other = (tt, tt)
decided_own S events.Reopened other = abandoned_own S

-- nothing is accepted or fired after the moment
pub decided_up_to : (S : Sight) (event : Event) → AreUpTo S.moment S.trace → AreUpTo S.moment ((decide S event).items ++ S.trace)
decided_up_to S event up =
    by_decision S (λ (items : Trace). AreUpTo S.moment (items ++ S.trace)) (λ items steps. up_items S.moment items S.trace up (steps_noted S items steps)) (λ counts rs. up) event

-- at an event that takes no memory nothing moves
pub decided_quiet : (S : Sight) (event : Event) → wants_memory event ≡ false → moved (decide S event).items ≡ []
decided_quiet S (events.Begun run) quiet = (begun_quiet S run).1
decided_quiet S (events.Lost run) quiet = (lost_quiet S run).1
decided_quiet S (events.Gone slot generation) quiet = (gone_quiet S slot generation).1
decided_quiet S event quiet = cc
