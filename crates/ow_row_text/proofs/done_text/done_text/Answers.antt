use Rattle.std.proofs.Common.{◌≡◌, ◌∷◌, [], ◌++◌, codes, rules}
use Rattle.json.specs.Token.{begin_object, key, string}
use Rattle.ow_value.specs.Value.{members_of}
use Rattle.ow_value.specs.Text.{members_tokens, value_tokens}
use Rattle.ow_records.specs.Id.{id_text}
use Rattle.ow_records.specs.Written.{record_value}
use Rattle.ow_row_text.specs.Tokens.{from_notes}
use Rattle.ow_row_text.proofs.Chain.{three}
use Rattle.ow_row_text.proofs.done_text.done_text.Goals as goal

pub returns : goal.returns
returns c =
    let r = c.args.ended.now in
    let id : c.put_text.new.out.tokens ≡ c.begin_object.new.self.tokens ++ key (codes "activationId") ∷ string (id_text r.id) ∷ [] = search rules in
    let start : c.begin_object.new.self.tokens ≡ [] ++ begin_object ∷ [] = search rules in
    let whole : c.write_from_notes.new.out.tokens ≡ value_tokens (record_value r) =
    three [] (begin_object ∷ []) (key (codes "activationId") ∷ string (id_text r.id) ∷ []) (members_tokens (members_of (from_notes r))) start id c.in_ok-write_from_notes.ensures.ok in
    c.written_text.ensures (record_value r) whole
