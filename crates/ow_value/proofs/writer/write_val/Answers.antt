use Rattle.std.proofs.Common.{◌≡◌, ◌∙◌, ap, rules}
use Rattle.json.specs.Print.{print}
use Rattle.serde_json.proofs.Texts.{print-outline}
use Rattle.ow_value.specs.Text.{compact, data_of, value_tokens}
use Rattle.ow_value.specs.Read.{reading}
use Rattle.ow_value.specs.View.{view}
use Rattle.ow_value.proofs.Back.{reading-compact}
use Rattle.ow_value.proofs.writer.write_val.Goals as goal

pub returns : goal.returns
returns c =
    let written : c.into_inner.result.items ≡ print (value_tokens (view c.args.v.now)) = search rules in
    let same : c.into_inner.result.items ≡ compact (view c.args.v.now) = written ∙ print-outline (data_of (view c.args.v.now)) in
    record { text = same; reads_back = λ limit d m. ap (reading limit) same ∙ reading-compact (view c.args.v.now) limit c.known.ensures d m }
