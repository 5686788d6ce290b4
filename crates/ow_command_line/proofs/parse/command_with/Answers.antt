use Rattle.std.proofs.Common.{[], ℕ, List, Bor, ◌≡◌, ◌∙◌, ap₂, get_or, rules}
use Rattle.clap.specs.Words.{rule_of, with_rule}
use Rattle.ow_command_line.specs.Parse.{option_rule}
use Rattle.ow_command_line.proofs.Apps.{app_with-more}
use Rattle.ow_command_line.proofs.parse.command_with.Goals as goal

pub loop-name-preserved : goal.loop-name-preserved
loop-name-preserved c =
    let names = c.args.names.now in
    let i = c.loop-name.name-index in
    let none : Bor (List ℕ) = record { ref_ptr = (0, 0); now = [] } in
    let rule_is : rule_of c.long.result ≡ option_rule (get_or names i none).now = search rules in
    c.in_ok-command.ensures.shape (search rules) ∙ ap₂ with_rule c.loop-name.invariant rule_is
    ∙ app_with-more (λ name. name.now) names i none c.loop-name-test.true
