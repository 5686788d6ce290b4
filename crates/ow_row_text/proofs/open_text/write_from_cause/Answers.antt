use Rattle.std.proofs.Common.{◌++◌, ap, ◌∙◌}
use Rattle.ow_value.specs.Value.{members_of}
use Rattle.ow_value.specs.Text.{members_tokens}
use Rattle.ow_row_text.specs.Tokens.{cause_tokens, from_form}
use Rattle.ow_row_text.proofs.Chain.{caused, two, then_ok}
use Rattle.ow_row_text.proofs.open_text.write_from_cause.Goals as goal

pub returns-clause-ok : goal.returns-clause-ok
returns-clause-ok c =
    let u = c.args.activation.now in
    let t = c.args.out.now.tokens in
    then_ok c.write_from_form.result
    (λ last. two t (cause_tokens u.cause) (members_tokens (members_of (from_form u))) c.in_ok-put_cause.ensures.ok last ∙ ap (λ w. t ++ w) (caused u.cause (from_form u)))
    c.write_from_form.ensures.ok
