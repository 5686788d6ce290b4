use Rattle.std.proofs.Common.{◌≡◌, ◌∷◌, [], ◌++◌, codes, rules}
use Rattle.json.specs.Token.{begin_object, key, string}
use Rattle.ow_value.specs.Value.{members_of}
use Rattle.ow_value.specs.Text.{members_tokens, value_tokens}
use Rattle.ow_records.specs.Id.{id_text}
use Rattle.ow_row_text.specs.Item.{open_value}
use Rattle.ow_row_text.specs.Tokens.{from_at}
use Rattle.ow_row_text.proofs.Chain.{three}
use Rattle.ow_row_text.proofs.open_text.open_text.Goals as goal

pub returns : goal.returns
returns c =
    let u = c.args.activation.now in
    let id : c.put_text.new.out.tokens ≡ c.begin_object.new.self.tokens ++ key (codes "activationId") ∷ string (id_text u.id) ∷ [] = search rules in
    let start : c.begin_object.new.self.tokens ≡ [] ++ begin_object ∷ [] = search rules in
    let whole : c.write_from_at.new.out.tokens ≡ value_tokens (open_value u) =
    three [] (begin_object ∷ []) (key (codes "activationId") ∷ string (id_text u.id) ∷ []) (members_tokens (members_of (from_at u))) start id c.in_ok-write_from_at.ensures.ok in
    c.written_text.ensures (open_value u) whole
