use Rattle.std.proofs.Common.{◌≡◌, ◌∙◌, ◌++◌, ap, sym, subst, IsUtf8, IfOk, rules}
use Rattle.json.specs.Print.{print}
use Rattle.serde_json.proofs.Texts.{print-outline}
use Rattle.ow_value.specs.Text.{compact, data_of}
use Rattle.ow_value.proofs.writer.written_text.Goals as goal

pub from_utf8_unchecked-text-requires : goal.from_utf8_unchecked-text-requires
from_utf8_unchecked-text-requires c =
    let bytes : c.into_inner.result.items ≡ print c.args.out.tokens = c.into_inner.ensures.items ∙ ap (λ b. b ++ print c.args.out.tokens) c.requires in
    subst IsUtf8 (sym bytes) c.into_inner.ensures.utf8

pub returns : goal.returns
returns c = λ v same.
    let bytes : c.into_inner.result.items ≡ print c.args.out.tokens = c.into_inner.ensures.items ∙ ap (λ b. b ++ print c.args.out.tokens) c.requires in
    let written : c.into_inner.result.items ≡ compact v = bytes ∙ ap print same ∙ print-outline (data_of v) in
    let shown : IfOk c.from_string.result (λ s. s ≡ compact v) = search (written, rules) in
    shown
