use Rattle.std.proofs.Common.{◌≡◌, ◌∷◌, [], ◌++◌, codes, decimal, rules}
use Rattle.json.specs.Token.{begin_object, end_object, key, number}
use Rattle.ow_value.specs.Text.{value_tokens}
use Rattle.ow_row_text.specs.Item.{archive_value}
use Rattle.ow_row_text.proofs.Chain.{four}
use Rattle.ow_row_text.proofs.archive_text.archive_text.Goals as goal

pub returns : goal.returns
returns c =
    let a = c.args.archive in
    let start : c.begin_object.new.self.tokens ≡ [] ++ begin_object ∷ [] = search rules in
    let first : c.put_number.new.out.tokens ≡ c.begin_object.new.self.tokens ++ key (codes "last") ∷ number (decimal a.last) ∷ [] = search rules in
    let second : c.put_number-2.new.out.tokens ≡ c.put_number.new.out.tokens ++ key (codes "number") ∷ number (decimal a.number) ∷ [] = search rules in
    let whole : c.end_object.new.self.tokens ≡ value_tokens (archive_value a) =
    four [] (begin_object ∷ []) (key (codes "last") ∷ number (decimal a.last) ∷ []) (key (codes "number") ∷ number (decimal a.number) ∷ []) (end_object ∷ []) start first second c.in_ok-end_object.ensures.ok in
    c.written_text.ensures (archive_value a) whole
