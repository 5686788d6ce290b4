use Rattle.std.proofs.Common.{◌∷◌, [], ◌++◌, List, codes, decimal, ap, ◌∙◌}
use Rattle.json.specs.Token.{Token, key, number}
use Rattle.ow_value.specs.Value.{members_of}
use Rattle.ow_value.specs.Text.{members_tokens}
use Rattle.ow_row_text.specs.Tokens.{binding_tokens, from_cause}
use Rattle.ow_row_text.proofs.Chain.{bound, three, then_ok}
use Rattle.ow_row_text.proofs.open_text.write_from_at.Goals as goal

pub returns-clause-ok : goal.returns-clause-ok
returns-clause-ok c =
    let u = c.args.activation.now in
    let t = c.args.out.now.tokens in
    let at : List Token = key (codes "at") ∷ number (decimal u.at) ∷ [] in
    then_ok c.write_from_cause.result
    (λ last. three t at (binding_tokens u.binding) (members_tokens (members_of (from_cause u))) c.in_ok-put_number.ensures.ok c.in_ok-put_binding.ensures.ok last ∙ ap (λ w. t ++ (at ++ w)) (bound u.binding (from_cause u)))
    c.write_from_cause.ensures.ok
