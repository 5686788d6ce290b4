use Rattle.std.proofs.Common.{◌≡◌, Option, sym, ap, ◌∙◌}
use Rattle.ow_value.specs.Value.{Pairs, object, members_of}
use Rattle.ow_value.specs.View.{view}
use Rattle.ow_value.specs.declared.val.Val.{Val}
use Rattle.ow_value.specs.declared.val.Val.TheVariants.{Object}
use Rattle.ow_records.specs.RecordIn.{head_in, record_from, record_with, texts_in, told_in}
use Rattle.ow_records.specs.declared.record.Record.{Record}
use Rattle.ow_records.specs.declared.record_in.Head.{Head}
use Rattle.ow_records.specs.declared.record_in.Texts.{Texts}
use Rattle.ow_records.specs.declared.record_in.Told.{Told}
use Rattle.ow_records.proofs.record_in.read_fields.Goals as goal

by_parts : (v : Val) (ps : Pairs) (h : Option Head) (t : Option Texts) (d : Option Told) (r : Option Record) → v ≡ Object ps
    → h ≡ head_in (object (members_of ps)) → t ≡ texts_in (object (members_of ps)) → d ≡ told_in (object (members_of ps)) → r ≡ record_with h t d → r ≡ record_from (view v)
unfolding record_from
by_parts v ps h t d r e a b c f =
    f ∙ (λ i. record_with (a i) (b i) (c i)) ∙ ap (λ w. record_with (head_in (view w)) (texts_in (view w)) (told_in (view w))) (sym e)

pub returns : goal.returns
returns c =
    by_parts c.args.value.now c.in-Object.fields c.head_in.result c.in_ok-texts.texts c.in_ok-told.told c.record_with.result
    c.in-Object.is c.head_in.ensures c.in_ok-texts.ensures c.in_ok-told.ensures c.record_with.ensures
