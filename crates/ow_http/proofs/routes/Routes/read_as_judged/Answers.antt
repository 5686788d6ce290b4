use Rattle.std.proofs.Common.{ap, inl, inr, Err}
use Rattle.ow_http.proofs.routes.Routes.read_as_judged.Goals as goal

pub returns-in-Err-clause-headless : goal.returns-in-Err-clause-headless
returns-in-Err-clause-headless c =
    λ _. elim c.in-Err.ensures.only [
      | inl e ↦ inl (e, c.in-Err.ensures.bad (ap Err e))
      | inr e ↦ inr (inl (e, c.in-Err.ensures.cut (ap Err e)))
    ]
