use Rattle.std.proofs.Common.{inl, inr, refl}
use Rattle.ow_office.proofs.deploy.deploy_in.Goals as goal

pub returns-in-Err-clause-deploys : goal.returns-in-Err-clause-deploys
returns-in-Err-clause-deploys g c = inl (c.in-Err.ensures.err, refl, refl)

pub returns-in-Ok-put-clause-deploys : goal.returns-in-Ok-put-clause-deploys
returns-in-Ok-put-clause-deploys g c =
    let put = c.in-Ok-put.ensures in inr (c.in-Ok.drafts, put.0, c.in-Ok.ensures.ok, put.1, inl (c.in-Ok-put.counts, put.2, c.write_line.ensures))

pub returns-in-Err-put-clause-deploys : goal.returns-in-Err-put-clause-deploys
returns-in-Err-put-clause-deploys g c =
    let put = c.in-Err-put.ensures in inr (c.in-Ok.drafts, put.0, c.in-Ok.ensures.ok, put.1, inr (put.2, refl))
