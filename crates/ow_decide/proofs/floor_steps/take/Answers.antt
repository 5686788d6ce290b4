use Rattle.std.proofs.Common.{List, sym, subst}
use Rattle.ow_entity.specs.declared.rows.Row.{Row}
use Rattle.ow_floor.specs.Calls.{begun_answer, begun_items, gone_answer, gone_items, lost_answer, lost_items}
use Rattle.ow_decide.specs.Decisions.{decide, taken_told}
use Rattle.ow_decide.specs.Making.{Makes, telling}
use Rattle.ow_decide.specs.declared.events.Event.{Event}
use Rattle.ow_tenant.specs.Table.{Table}
use Rattle.ow_counts.specs.View.{CountsView}
use Rattle.ow_commits.specs.Keeping.{KeepingView}
use Rattle.ow_decide.proofs.MadeLaws.{begun_quiet, gone_quiet, lost_quiet}
use Rattle.ow_decide.proofs.FloorLaws.{taken_makes}
use Rattle.ow_decide.proofs.floor_steps.take.Goals as goal

pub returns-in-Begun-clause-ok : goal.returns-in-Begun-clause-ok
returns-in-Begun-clause-ok c =
    let run = c.in-Begun.run' in
    subst (λ (e : Event). (t : Table) (rs : List Row) (k : CountsView) (b : KeepingView) → Makes t rs k b c.args.now c.args.floor.now.now c.begun.new.self.now (λ S. decide S e) (telling (taken_told c.begun.result)))
    (sym c.in-Begun.is)
    (λ t rs k b. taken_makes t rs k b c.args.floor.now.now c.begun.new.self.now c.args.now (begun_answer run) (λ at T. begun_items at run T) c.begun.result (λ S. begun_quiet S run) c.begun.ensures.told c.begun.ensures.grows)

pub returns-in-Lost-clause-ok : goal.returns-in-Lost-clause-ok
returns-in-Lost-clause-ok c =
    let run = c.in-Lost.run' in
    subst (λ (e : Event). (t : Table) (rs : List Row) (k : CountsView) (b : KeepingView) → Makes t rs k b c.args.now c.args.floor.now.now c.lost.new.self.now (λ S. decide S e) (telling (taken_told c.lost.result)))
    (sym c.in-Lost.is)
    (λ t rs k b. taken_makes t rs k b c.args.floor.now.now c.lost.new.self.now c.args.now (lost_answer run) (λ at T. lost_items at run T) c.lost.result (λ S. lost_quiet S run) c.lost.ensures.told c.lost.ensures.grows)

pub returns-in-Gone-clause-ok : goal.returns-in-Gone-clause-ok
returns-in-Gone-clause-ok c =
    let slot = c.in-Gone.slot in
    let generation = c.in-Gone.generation in
    subst (λ (e : Event). (t : Table) (rs : List Row) (k : CountsView) (b : KeepingView) → Makes t rs k b c.args.now c.args.floor.now.now c.gone.new.self.now (λ S. decide S e) (telling (taken_told c.gone.result)))
    (sym c.in-Gone.is)
    (λ t rs k b. taken_makes t rs k b c.args.floor.now.now c.gone.new.self.now c.args.now (gone_answer slot generation) (λ at T. gone_items at slot generation T) c.gone.result (λ S. gone_quiet S slot generation) c.gone.ensures.told c.gone.ensures.grows)
