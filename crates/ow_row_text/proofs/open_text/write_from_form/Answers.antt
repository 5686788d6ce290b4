use Rattle.std.proofs.Common.{◌≡◌, ◌∷◌, [], ◌++◌, codes, rules}
use Rattle.json.specs.Token.{key, string}
use Rattle.ow_value.specs.Value.{members_of}
use Rattle.ow_value.specs.Text.{members_tokens}
use Rattle.ow_records.specs.Form.{form_text}
use Rattle.ow_records.specs.Notes.{kind_text}
use Rattle.ow_row_text.specs.Tokens.{from_limits}
use Rattle.ow_row_text.proofs.Chain.{three, then_ok}
use Rattle.ow_row_text.proofs.open_text.write_from_form.Goals as goal

pub returns-clause-ok : goal.returns-clause-ok
returns-clause-ok c =
    let u = c.args.activation.now in
    let form : c.put_text.new.out.tokens ≡ c.args.out.now.tokens ++ key (codes "form") ∷ string (form_text u.form) ∷ [] = search rules in
    let kind : c.put_text-2.new.out.tokens ≡ c.put_text.new.out.tokens ++ key (codes "kind") ∷ string (kind_text u.kind) ∷ [] = search rules in
    then_ok c.write_from_limits.result
    (λ last. three c.args.out.now.tokens (key (codes "form") ∷ string (form_text u.form) ∷ []) (key (codes "kind") ∷ string (kind_text u.kind) ∷ []) (members_tokens (members_of (from_limits u))) form kind last)
    c.write_from_limits.ensures.ok
