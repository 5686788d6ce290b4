use Rattle.std.proofs.Common.{ap, ◌∙◌}
use Rattle.ow_serve.proofs.Whole.{one_entry, opened_serves, opens_none, opens_so, over_allowed, over_none, unserved_by}
use Rattle.ow_serve.proofs.Unopened.{why_unopened}
use Rattle.ow_serve.proofs.service.serve.Goals as goal

pub new-requires-clause-one : goal.new-requires-clause-one
new-requires-clause-one g c = one_entry c.args.tenants c.in-Ok.ensures.opens.loaded c.now-opened.result _ (ap (λ l. l.entries) c.in-Ok.ensures.opens.ledger)

pub returns-in-Ok-new-clause-serves : goal.returns-in-Ok-new-clause-serves
returns-in-Ok-new-clause-serves g c =
    let h = c.in-Ok-new.service in
    let first = c.in-Ok-new.ensures.first in
    let clock = c.in-Ok-new.ensures.clock in
    opened_serves g.K.Link.left g.K.Link.taken g.R.Runner.gives g.R.Runner.tally c.args.runners.items (g.C.Clock.tells h.clock.value) (g.C.Clock.tells c.args.clock.value) h.opened c.now-opened.result h.notes.notes first.0
    _ _ _ _ _ _ _ (ap (λ a. g.C.Clock.tells a.value) clock.0) clock.1 first.2 (rw c.deref.ensures at c.now-opened.ensures) c.run.ensures.serves

pub returns-clause-serves : goal.returns-clause-serves
returns-clause-serves g c =
    unserved_by _ _ _ _ _ c.in-Err.refusal.why _ _ _ _ (c.nothing-in-Err.ensures.end ∙ c.unopened.ensures) c.nothing-in-Err.ensures.endings

pub returns-in-Ok-new-clause-allowed : goal.returns-in-Ok-new-clause-allowed
returns-in-Ok-new-clause-allowed g c = over_allowed _ c.in-Ok.ensures.opens.loaded c.run.result.end c.in-Ok.ensures.opens.told c.in-Ok.ensures.opens.allowed

pub returns-clause-allowed : goal.returns-clause-allowed
returns-clause-allowed g c = over_none _ c.in-Err.refusal.why _ (c.nothing-in-Err.ensures.end ∙ c.unopened.ensures)

pub returns-in-Ok-new-clause-opens : goal.returns-in-Ok-new-clause-opens
returns-in-Ok-new-clause-opens g c =
    opens_so _ _ c.args.tenants c.in-Ok.ensures.opens.loaded c.now-opened.result _ c.in-Ok-new.service.notes.notes c.run.result.end c.run.result.book (rw c.deref.ensures at c.now-opened.ensures) (ap (λ l. l.entries) c.in-Ok.ensures.opens.ledger)
    c.in-Ok.ensures.opens.told c.in-Ok.ensures.opens.allowed c.in-Ok-new.ensures.first c.run.ensures.begins

pub returns-clause-opens : goal.returns-clause-opens
returns-clause-opens g c = opens_none _ _ c.args.tenants c.in-Err.refusal.why _ _ (c.nothing-in-Err.ensures.end ∙ c.unopened.ensures)

pub returns-clause-unopened : goal.returns-clause-unopened
returns-clause-unopened g c =
    let kept = c.in-Err.ensures.unopened in
    why_unopened g.P.Keeper.telling c.args.store c.in-Err.refusal.store c.in-Err.refusal.why _ _ (c.nothing-in-Err.ensures.end ∙ c.unopened.ensures) c.nothing-in-Err.ensures.store kept.cause kept.rows_stay kept.old_rows_stay
