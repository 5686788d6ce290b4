use Rattle.std.proofs.Common.{◌∙◌, [], ◌∷◌, ℕ, List, subst}
use Rattle.ow_traits.specs.declared.prewarms.Prewarm.{Prewarm}
use Rattle.ow_floor.specs.Laws.{Stands}
use Rattle.ow_floor.specs.Trace.{Opened, Resumed}
use Rattle.ow_tenant.specs.Tenants.{pool_of}
use Rattle.ow_hall.proofs.opening.floor_over.Goals as goal

pub returns-clause-stands : goal.returns-clause-stands
returns-clause-stands c =
    let counts = c.args.counts.items in
    let rs = c.args.records.items in
    subst (λ (ws : List Prewarm). Stands c.resume.new.self.now (Resumed counts rs ∷ Opened (pool_of c.args.tenants.now) ws ∷ [])) (c.in_ok-wants.ensures ∙ c.wants.ensures)
    (subst (λ (pool : ℕ). Stands c.resume.new.self.now (Resumed counts rs ∷ Opened pool c.in_ok-wants.wants ∷ [])) c.pool.ensures
    (c.in_ok-resume.ensures.ok (Opened c.pool.result c.in_ok-wants.wants ∷ []) c.in_ok-floor.ensures.stands))
