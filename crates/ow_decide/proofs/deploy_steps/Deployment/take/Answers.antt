use Rattle.std.proofs.Common.{refl}
use Rattle.ow_decide.proofs.GatherLaws.{gathered_taken}
use Rattle.ow_decide.proofs.deploy_steps.Deployment.take.Goals as goal

pub returns-in-Ok-clause-commit : goal.returns-in-Ok-clause-commit
returns-in-Ok-clause-commit c =
    gathered_taken c.args.self.now c.gather.new.self _ c.args.ready c.requires.puts c.in-Ok.ensures.rows c.in-Ok.ensures.commit c.self.view_is _ c.apply.ensures.rows refl refl
