use Rattle.std.proofs.Common.{◌∙◌, ap, sym, string_bytes}
use Rattle.ow_command_line.specs.Plain.{behind}
use Rattle.ow_command_line.proofs.Values.{has_values-end, has_values-next, has_values-none}
use Rattle.ow_command_line.proofs.plain.has_values.Goals as goal

pub returns-in-None : goal.returns-in-None
returns-in-None c =
    let text = ap (λ t. behind t c.loop-word.waits) c.as_str.ensures.value in
    sym (c.loop-word.invariant ∙ has_values-none string_bytes c.args.words.now c.loop-word.word-index c.word-item.result c.loop-word.waits c.loop-word-test.true c.word-item.is
    (sym text ∙ sym c.in-None.ensures))

pub loop-word-preserved : goal.loop-word-preserved
loop-word-preserved c =
    let text = ap (λ t. behind t c.loop-word.waits) c.as_str.ensures.value in
    c.loop-word.invariant ∙ has_values-next string_bytes c.args.words.now c.loop-word.word-index c.word-item.result c.loop-word.waits c.in-Some.next c.loop-word-test.true c.word-item.is
    (sym text ∙ sym c.in-Some.ensures)

pub returns : goal.returns
returns c = sym (c.loop-word.invariant ∙ has_values-end string_bytes c.args.words.now c.loop-word.word-index c.loop-word.waits c.loop-word-test.false)
