use Rattle.std.proofs.Common.{ℕ, ◌≤◌, ◌∷◌, subst}
use Rattle.ow_tenant.specs.Notes.{Notes, fired, latest}
use Rattle.ow_counts.specs.View.{StandsFor}
use Rattle.ow_counts.proofs.moves.note_fire.Goals as goal

pub returns-clause-notes : goal.returns-clause-notes
returns-clause-notes c =
    subst (λ (at : ℕ). (ns : Notes) → latest ns ≤ at → StandsFor c.args.counts.now ns → StandsFor c.fired.new.self (fired c.args.fire.now.namespace at ∷ ns)) c.start.ensures c.fired.ensures.notes
