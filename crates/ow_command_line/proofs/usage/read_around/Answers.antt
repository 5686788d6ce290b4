use Rattle.std.proofs.Common.{◌≡◌, ◌+◌, ◌++◌, ◌∙◌, ap, ap₂, cond, is_some, map, None, Option, string_bytes, subst, sym, take, drop, false, true}
use Rattle.std.specs.List.{drop-map, take-map}
use Rattle.ow_command_line.specs.Words.{IsReading, given_from, usage_from}
use Rattle.ow_command_line.specs.declared.command.Command.{Command}
use Rattle.ow_command_line.specs.Plain.{has_values}
use Rattle.ow_command_line.proofs.Values.{given_where}
use Rattle.ow_command_line.proofs.usage.read_around.Goals as goal

pub returns-then-not-has_values : goal.returns-then-not-has_values
returns-then-not-has_values c = λ bad.
    let words = map string_bytes c.args.words.now in
    let i = c.args.place in
    let wrong : is_some (given_from (take i words) None) ≡ false =
    ap (λ ws. is_some (given_from ws None)) (take-map string_bytes i c.args.words.now)
    ∙ (given_where (map string_bytes (take i c.args.words.now)) ∙ sym c.if-not-has_values.ensures) in
    ap (λ b. cond b (usage_from true (take i words ++ drop (i + 1) words)) None) wrong

pub returns : goal.returns
returns c =
    let words = map string_bytes c.args.words.now in
    let i = c.args.place in
    let right : is_some (given_from (take i words) None) ≡ true =
    ap (λ ws. is_some (given_from ws None)) (take-map string_bytes i c.args.words.now)
    ∙ (given_where (map string_bytes (take i c.args.words.now)) ∙ sym c.if-not-has_values.ensures) in
    let rest : map string_bytes c.as_slice.result.now ≡ take i words ++ drop (i + 1) words =
    ap (λ xs. map string_bytes xs) c.as_slice.ensures.value
    ∙ (c.in_ok-rest.ensures ∙ sym (ap₂ (λ a b. a ++ b) (take-map string_bytes i c.args.words.now) (drop-map string_bytes (i + 1) c.args.words.now))) in
    subst (λ (o : Option Command). IsReading o c.usage_from.result)
    (ap (usage_from true) rest ∙ sym (ap (λ b. cond b (usage_from true (take i words ++ drop (i + 1) words)) None) right)) c.usage_from.ensures
