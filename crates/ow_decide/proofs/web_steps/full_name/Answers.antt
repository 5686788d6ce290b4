use Rattle.std.proofs.Common.{◌≡◌, ◌≢◌, Ok, Err, Result, MatchResult, option_copied, subst}
use Rattle.ow_names.specs.declared.full.FullName.{FullName}
use Rattle.ow_names.specs.declared.refusal.NameRefusal.{NameRefusal}
use Rattle.ow_names.specs.declared.refusal.NameRefusal.TheVariants.{NoMemory}
use Rattle.ow_decide.proofs.WebLaws.{within_so}
use Rattle.ow_decide.proofs.web_steps.full_name.Goals as goal

pub returns : goal.returns
returns c = subst (λ (r : Result FullName NameRefusal). MatchResult c.named_in.result (λ n. r ≡ Ok n) (λ e. e ≢ NoMemory → r ≡ Err e))
    (within_so _ c.args.namespace.now (option_copied c.args.package) c.args.name.now c.in_ok-here.ensures.ok) c.named_in.ensures
