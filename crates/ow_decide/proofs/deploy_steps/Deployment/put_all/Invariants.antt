use Rattle.std.proofs.Common.{◌≡◌, ◌+◌, drop}
use Rattle.ow_decide.specs.Deploying.{put_drafts}
use Rattle.ow_decide.specs.Deployment.{StaysGathered}
use Rattle.ow_decide.proofs.deploy_steps.Deployment.put_all.Given as goal

-- what is put so far, and what is left to be put, is the whole
abbrev pub invariant-loop-draft : goal.invariant-loop-draft
invariant-loop-draft l = record {
  put : put_drafts l.tenants 1 l.drafts l.initial.self.progress ≡ put_drafts l.tenants (l.place + 1) (drop l.draft-index l.drafts) l.self.progress;
  commit : StaysGathered l.initial.self l.self;
}
