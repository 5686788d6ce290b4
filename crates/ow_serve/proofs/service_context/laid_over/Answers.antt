use Rattle.std.proofs.Common.{Ok, ap, sym, ◌∙◌}
use Rattle.ow_serve.proofs.Whole.{opens_laid}
use Rattle.ow_serve.proofs.service_context.laid_over.Goals as goal

pub returns-clause-first : goal.returns-clause-first
returns-clause-first g c =
    opens_laid c.opening-noted.result c.in_ok-issuer.notes c.args.hall.ledger.entries _ c.opening-noted.ensures
    (c.in_ok-desk.ensures.1 ∙ ap (λ n. Ok n) (sym (ap (λ x. x.1) c.in_ok-issuer.ensures.0))) (ap (λ h. h.ledger.entries) c.of-desk.ensures.hall)
