use Rattle.std.proofs.Common.{◌≡◌, ◌∙◌, ap, cond, is_some, map, string_bytes, subst, sym, None, Option, true, false}
use Rattle.std.specs.List.{position}
use Rattle.ow_command_line.specs.Words.{IsReading, given_from, is_csv, usage_at, usage_from}
use Rattle.ow_command_line.specs.declared.command.Command.{Command}
use Rattle.ow_command_line.proofs.Places.{position_of_texts}
use Rattle.ow_command_line.proofs.Values.{given_where}
use Rattle.ow_command_line.proofs.usage.read_usage.Goals as goal

pub returns-then-has_values : goal.returns-then-has_values
returns-then-has_values c =
    let words = map string_bytes c.args.words.now in
    let all = given_where words ∙ sym c.if-has_values.ensures in
    subst (λ (o : Option Command). IsReading o c.usage_from.result) (sym (ap (λ b. cond b (usage_from false words) (usage_at (position is_csv words) words)) all)) c.usage_from.ensures

pub returns-in-None : goal.returns-in-None
returns-in-None c =
    let words = map string_bytes c.args.words.now in
    let some = given_where words ∙ sym c.if-has_values.ensures in
    let place = position_of_texts is_csv string_bytes c.args.words.now ∙ sym c.csv_place.ensures.value ∙ c.in-None.is in
    subst (λ (o : Option Command). IsReading o c.usage_from-in-None.result)
    (sym (ap (λ b. cond b (usage_from false words) (usage_at (position is_csv words) words)) some ∙ ap (λ p. usage_at p words) place)) c.usage_from-in-None.ensures

pub returns-in-Some : goal.returns-in-Some
returns-in-Some c =
    let words = map string_bytes c.args.words.now in
    let some = given_where words ∙ sym c.if-has_values.ensures in
    let place = position_of_texts is_csv string_bytes c.args.words.now ∙ sym c.csv_place.ensures.value ∙ c.in-Some.is in
    subst (λ (o : Option Command). IsReading o c.read_around.result)
    (sym (ap (λ b. cond b (usage_from false words) (usage_at (position is_csv words) words)) some ∙ ap (λ p. usage_at p words) place)) c.read_around.ensures
