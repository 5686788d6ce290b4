use Rattle.std.proofs.Common.{◌≡◌, ◌∙◌, ap, string_bytes, map, cond, ◌++◌, ◌∷◌, [], arith, false}
use Rattle.std.proofs.lemmas.Grind.{common_steps}
use Rattle.ow_command_line.specs.Words.{is_plain, leaves_open, option_words, plain_words}
use Rattle.ow_command_line.proofs.Parting.{options_all, options_on, plain_all, plain_on}
use Rattle.ow_command_line.proofs.drill.part.Goals as goal

pub loop-word-preserved : goal.loop-word-preserved
loop-word-preserved c =
    let words = map string_bytes c.args.words.now in
    let same : string_bytes c.in_ok-copied.copied ≡ string_bytes c.word-item.result = grind (arith, common_steps, c.in_ok-copied.ensures.cases) in
    let is = c.is_plain-plain.ensures ∙ ap (λ t. is_plain t c.loop-word.waits) c.as_str.ensures.value in
    let opens = c.leaves_open-waits.ensures ∙ ap (λ t. leaves_open t c.loop-word.waits) c.as_str-in-loop-word.ensures.value in
    let plain = map string_bytes c.loop-word.parted.plain.items in
    let options = map string_bytes c.loop-word.parted.options.items in
    record {
      plain = plain_on string_bytes (plain_words words false) plain _ c.args.words.now c.loop-word.word-index c.word-item.result c.loop-word.waits c.is_plain-plain.result c.leaves_open-waits.result
          c.loop-word-test.true c.word-item.is is opens (c.in_ok-put.ensures.plain ∙ ap (λ w. cond c.is_plain-plain.result (plain ++ w ∷ []) plain) same) c.loop-word.invariant.plain;
      options = options_on string_bytes (option_words words false) options _ c.args.words.now c.loop-word.word-index c.word-item.result c.loop-word.waits c.is_plain-plain.result c.leaves_open-waits.result
          c.loop-word-test.true c.word-item.is is opens (c.in_ok-put.ensures.options ∙ ap (λ w. cond c.is_plain-plain.result options (options ++ w ∷ [])) same) c.loop-word.invariant.options;
    }

pub returns : goal.returns
returns c =
    let words = map string_bytes c.args.words.now in
    record {
      plain = plain_all string_bytes (plain_words words false) _ c.args.words.now c.loop-word.word-index c.loop-word.waits c.loop-word-test.false c.loop-word.invariant.plain;
      options = options_all string_bytes (option_words words false) _ c.args.words.now c.loop-word.word-index c.loop-word.waits c.loop-word-test.false c.loop-word.invariant.options;
    }
