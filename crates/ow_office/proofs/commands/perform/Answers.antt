use Rattle.std.proofs.Common.{Err, ap, inr, map, refl, string_bytes, sym, ◌∙◌}
use Rattle.std.proofs.lemmas.Bool.{false≢true}
use Rattle.ow_office.specs.declared.words.TheConstants.{HELP, VERSION}
use Rattle.ow_office.specs.Words.{opens_store, reads_input, writes_output}
use Rattle.ow_office.proofs.Asking.{asks_none, command_is, day_not_bad, day_not_passed, no_sink, no_source, no_store, serve_not_bad, serve_not_write, text_not_passed, unread_bad, unread_refused, unread_told, usage_not_bad, usage_not_passed, usage_not_read, usage_not_table, words_not_passed}
use Rattle.ow_office.proofs.commands.perform.Goals as goal

pub returns-in-Ok-Day-clause-told : goal.returns-in-Ok-Day-clause-told
returns-in-Ok-Day-clause-told g c = let asked = rw c.in-Ok-Day.field-0-is at c.in-Ok-Day.ensures.asked in rw asked c.do_day.ensures.told

pub returns-in-Ok-Day-clause-unnamed : goal.returns-in-Ok-Day-clause-unnamed
returns-in-Ok-Day-clause-unnamed g c = let asked = rw c.in-Ok-Day.field-0-is at c.in-Ok-Day.ensures.asked in rw asked c.do_day.ensures.unnamed

pub returns-in-Ok-Day-clause-untouched : goal.returns-in-Ok-Day-clause-untouched
returns-in-Ok-Day-clause-untouched g c = let asked = rw c.in-Ok-Day.field-0-is at c.in-Ok-Day.ensures.asked in λ not. absurd (false≢true (sym not ∙ ap opens_store asked))

pub returns-in-Ok-Day-clause-idle : goal.returns-in-Ok-Day-clause-idle
returns-in-Ok-Day-clause-idle g c = let asked = rw c.in-Ok-Day.field-0-is at c.in-Ok-Day.ensures.asked in λ not. absurd (false≢true (sym not ∙ ap reads_input asked))

pub returns-in-Ok-Day-clause-silent : goal.returns-in-Ok-Day-clause-silent
returns-in-Ok-Day-clause-silent g c = let asked = rw c.in-Ok-Day.field-0-is at c.in-Ok-Day.ensures.asked in λ not. absurd (false≢true (sym not ∙ ap writes_output asked))

pub returns-in-Ok-Day-clause-refused : goal.returns-in-Ok-Day-clause-refused
returns-in-Ok-Day-clause-refused g c = let asked = rw c.in-Ok-Day.field-0-is at c.in-Ok-Day.ensures.asked in λ none. absurd (asks_none _ _ asked none)

pub returns-in-Ok-Day-clause-words : goal.returns-in-Ok-Day-clause-words
returns-in-Ok-Day-clause-words g c = λ bad. absurd (day_not_bad c.do_day.result.0 c.do_day.ensures.ends bad)

pub returns-in-Ok-Day-clause-passed : goal.returns-in-Ok-Day-clause-passed
returns-in-Ok-Day-clause-passed g c = λ served t is. absurd (day_not_passed c.do_day.result.0 c.do_day.ensures.ends served t is)

pub returns-in-Ok-Serve-clause-told : goal.returns-in-Ok-Serve-clause-told
returns-in-Ok-Serve-clause-told g c = let asked = rw c.in-Ok-Serve.field-0-is at c.in-Ok-Serve.ensures.asked in rw asked (c.pass_on.ensures.told _ _ _)

pub returns-in-Ok-Serve-clause-words : goal.returns-in-Ok-Serve-clause-words
returns-in-Ok-Serve-clause-words g c =
    let told = c.pass_on.ensures.told no_source no_sink no_store in λ bad. absurd (serve_not_bad _ told.want _ _ c.pass_on.result told.over bad)

pub returns-in-Ok-Serve-clause-write : goal.returns-in-Ok-Serve-clause-write
returns-in-Ok-Serve-clause-write g c =
    let told = c.pass_on.ensures.told no_source no_sink no_store in λ bad. absurd (serve_not_write _ told.want _ _ c.pass_on.result told.over bad)

pub returns-in-Ok-Serve-clause-refused : goal.returns-in-Ok-Serve-clause-refused
returns-in-Ok-Serve-clause-refused g c = let asked = rw c.in-Ok-Serve.field-0-is at c.in-Ok-Serve.ensures.asked in λ none. absurd (asks_none _ _ asked none)

pub returns-in-Ok-Serve-clause-passed : goal.returns-in-Ok-Serve-clause-passed
returns-in-Ok-Serve-clause-passed g c = let asked = rw c.in-Ok-Serve.field-0-is at c.in-Ok-Serve.ensures.asked in λ served t is.
    let own = c.pass_on.ensures.own served t is in
    (rw own.0 (command_is _ _ asked), own.1, own.2)

pub returns-in-Ok-Serve-clause-unnamed : goal.returns-in-Ok-Serve-clause-unnamed
returns-in-Ok-Serve-clause-unnamed g c = let asked = rw c.in-Ok-Serve.field-0-is at c.in-Ok-Serve.ensures.asked in rw asked c.pass_on.ensures.unnamed

pub returns-in-Ok-Usage-clause-told : goal.returns-in-Ok-Usage-clause-told
returns-in-Ok-Usage-clause-told g c =
    let asked = rw c.in-Ok-Usage.field-0-is at c.in-Ok-Usage.ensures.asked in rw asked (record { writes = c.do_usage.ensures.writes; stays = c.do_usage.ensures.stays; others = refl })

pub returns-in-Ok-Usage-clause-untouched : goal.returns-in-Ok-Usage-clause-untouched
returns-in-Ok-Usage-clause-untouched g c = let asked = rw c.in-Ok-Usage.field-0-is at c.in-Ok-Usage.ensures.asked in λ not. absurd (false≢true (sym not ∙ ap opens_store asked))

pub returns-in-Ok-Usage-clause-silent : goal.returns-in-Ok-Usage-clause-silent
returns-in-Ok-Usage-clause-silent g c = let asked = rw c.in-Ok-Usage.field-0-is at c.in-Ok-Usage.ensures.asked in λ not. absurd (false≢true (sym not ∙ ap writes_output asked))

pub returns-in-Ok-Usage-clause-refused : goal.returns-in-Ok-Usage-clause-refused
returns-in-Ok-Usage-clause-refused g c = let asked = rw c.in-Ok-Usage.field-0-is at c.in-Ok-Usage.ensures.asked in λ none. absurd (asks_none _ _ asked none)

pub returns-in-Ok-Usage-clause-words : goal.returns-in-Ok-Usage-clause-words
returns-in-Ok-Usage-clause-words g c = λ bad. absurd (usage_not_bad _ _ _ _ (g.P.Keeper.telling c.do_usage.result.1) _ _ c.do_usage.result.0 c.do_usage.ensures.writes bad)

pub returns-in-Ok-Usage-clause-read : goal.returns-in-Ok-Usage-clause-read
returns-in-Ok-Usage-clause-read g c = λ bad. absurd (usage_not_read _ _ _ _ (g.P.Keeper.telling c.do_usage.result.1) _ _ c.do_usage.result.0 c.do_usage.ensures.writes bad)

pub returns-in-Ok-Usage-clause-bad_table : goal.returns-in-Ok-Usage-clause-bad_table
returns-in-Ok-Usage-clause-bad_table g c = λ row bad. absurd (usage_not_table _ _ _ _ (g.P.Keeper.telling c.do_usage.result.1) _ _ c.do_usage.result.0 c.do_usage.ensures.writes row bad)

pub returns-in-Ok-Usage-clause-passed : goal.returns-in-Ok-Usage-clause-passed
returns-in-Ok-Usage-clause-passed g c = λ served t is. absurd (usage_not_passed _ _ _ _ (g.P.Keeper.telling c.do_usage.result.1) _ _ c.do_usage.result.0 c.do_usage.ensures.writes served t is)

pub returns-in-Ok-Drill-clause-told : goal.returns-in-Ok-Drill-clause-told
returns-in-Ok-Drill-clause-told g c = let asked = rw c.in-Ok-Drill.field-0-is at c.in-Ok-Drill.ensures.asked in rw asked (c.do_drill.ensures.told _)

pub returns-in-Ok-Drill-clause-unnamed : goal.returns-in-Ok-Drill-clause-unnamed
returns-in-Ok-Drill-clause-unnamed g c = let asked = rw c.in-Ok-Drill.field-0-is at c.in-Ok-Drill.ensures.asked in rw asked c.do_drill.ensures.unnamed

pub returns-in-Ok-Drill-clause-untouched : goal.returns-in-Ok-Drill-clause-untouched
returns-in-Ok-Drill-clause-untouched g c = let asked = rw c.in-Ok-Drill.field-0-is at c.in-Ok-Drill.ensures.asked in λ not. absurd (false≢true (sym not ∙ ap opens_store asked))

pub returns-in-Ok-Drill-clause-silent : goal.returns-in-Ok-Drill-clause-silent
returns-in-Ok-Drill-clause-silent g c = let asked = rw c.in-Ok-Drill.field-0-is at c.in-Ok-Drill.ensures.asked in λ not. absurd (false≢true (sym not ∙ ap writes_output asked))

pub returns-in-Ok-Drill-clause-refused : goal.returns-in-Ok-Drill-clause-refused
returns-in-Ok-Drill-clause-refused g c = let asked = rw c.in-Ok-Drill.field-0-is at c.in-Ok-Drill.ensures.asked in λ none. absurd (asks_none _ _ asked none)

pub returns-in-Ok-Drill-clause-words : goal.returns-in-Ok-Drill-clause-words
returns-in-Ok-Drill-clause-words g c = λ bad. absurd (day_not_bad c.do_drill.result.0 c.do_drill.ensures.ends bad)

pub returns-in-Ok-Drill-clause-read : goal.returns-in-Ok-Drill-clause-read
returns-in-Ok-Drill-clause-read g c = λ bad. let r = c.do_drill.ensures.read bad in inr (r.0, r.1, refl, r.2)

pub returns-in-Ok-Drill-clause-bad_table : goal.returns-in-Ok-Drill-clause-bad_table
returns-in-Ok-Drill-clause-bad_table g c = λ row bad. let r = c.do_drill.ensures.bad_table row bad in (r.0, refl, r.1)

pub returns-in-Ok-Drill-clause-unbegun : goal.returns-in-Ok-Drill-clause-unbegun
returns-in-Ok-Drill-clause-unbegun g c = λ fault. (refl, c.do_drill.ensures.unbegun fault)

pub returns-in-Ok-Drill-clause-passed : goal.returns-in-Ok-Drill-clause-passed
returns-in-Ok-Drill-clause-passed g c = λ served t is. absurd (day_not_passed c.do_drill.result.0 c.do_drill.ensures.ends served t is)

pub returns-in-Ok-Deploy-clause-told : goal.returns-in-Ok-Deploy-clause-told
returns-in-Ok-Deploy-clause-told g c = let asked = rw c.in-Ok-Deploy.field-0-is at c.in-Ok-Deploy.ensures.asked in rw asked c.do_deploy.ensures.told

pub returns-in-Ok-Deploy-clause-unnamed : goal.returns-in-Ok-Deploy-clause-unnamed
returns-in-Ok-Deploy-clause-unnamed g c = let asked = rw c.in-Ok-Deploy.field-0-is at c.in-Ok-Deploy.ensures.asked in rw asked c.do_deploy.ensures.unnamed

pub returns-in-Ok-Deploy-clause-untouched : goal.returns-in-Ok-Deploy-clause-untouched
returns-in-Ok-Deploy-clause-untouched g c = let asked = rw c.in-Ok-Deploy.field-0-is at c.in-Ok-Deploy.ensures.asked in λ not. absurd (false≢true (sym not ∙ ap opens_store asked))

pub returns-in-Ok-Deploy-clause-idle : goal.returns-in-Ok-Deploy-clause-idle
returns-in-Ok-Deploy-clause-idle g c = let asked = rw c.in-Ok-Deploy.field-0-is at c.in-Ok-Deploy.ensures.asked in λ not. absurd (false≢true (sym not ∙ ap reads_input asked))

pub returns-in-Ok-Deploy-clause-silent : goal.returns-in-Ok-Deploy-clause-silent
returns-in-Ok-Deploy-clause-silent g c = let asked = rw c.in-Ok-Deploy.field-0-is at c.in-Ok-Deploy.ensures.asked in λ not. absurd (false≢true (sym not ∙ ap writes_output asked))

pub returns-in-Ok-Deploy-clause-refused : goal.returns-in-Ok-Deploy-clause-refused
returns-in-Ok-Deploy-clause-refused g c = let asked = rw c.in-Ok-Deploy.field-0-is at c.in-Ok-Deploy.ensures.asked in λ none. absurd (asks_none _ _ asked none)

pub returns-in-Ok-Deploy-clause-words : goal.returns-in-Ok-Deploy-clause-words
returns-in-Ok-Deploy-clause-words g c = λ bad. absurd (day_not_bad c.do_deploy.result.0 c.do_deploy.ensures.ends bad)

pub returns-in-Ok-Deploy-clause-passed : goal.returns-in-Ok-Deploy-clause-passed
returns-in-Ok-Deploy-clause-passed g c = λ served t is. absurd (day_not_passed c.do_deploy.result.0 c.do_deploy.ensures.ends served t is)

pub returns-in-Ok-Help-clause-told : goal.returns-in-Ok-Help-clause-told
returns-in-Ok-Help-clause-told g c = let asked = rw c.in-Ok-Help.field-0-is at c.in-Ok-Help.ensures.asked in rw asked (c.write_text.ensures.told _ _ _)

pub returns-in-Ok-Help-clause-refused : goal.returns-in-Ok-Help-clause-refused
returns-in-Ok-Help-clause-refused g c = let asked = rw c.in-Ok-Help.field-0-is at c.in-Ok-Help.ensures.asked in λ none. absurd (asks_none _ _ asked none)

pub returns-in-Ok-Help-clause-silent : goal.returns-in-Ok-Help-clause-silent
returns-in-Ok-Help-clause-silent g c = let asked = rw c.in-Ok-Help.field-0-is at c.in-Ok-Help.ensures.asked in λ not. absurd (false≢true (sym not ∙ ap writes_output asked))

pub returns-in-Ok-Help-clause-passed : goal.returns-in-Ok-Help-clause-passed
returns-in-Ok-Help-clause-passed g c = λ served t is. absurd (text_not_passed _ _ _ c.write_text.result c.write_text.ensures.wrote served t is)

pub returns-in-Ok-Version-clause-told : goal.returns-in-Ok-Version-clause-told
returns-in-Ok-Version-clause-told g c = let asked = rw c.in-Ok-Version.field-0-is at c.in-Ok-Version.ensures.asked in rw asked (c.write_text-in-Ok-Version.ensures.told _ _ _)

pub returns-in-Ok-Version-clause-refused : goal.returns-in-Ok-Version-clause-refused
returns-in-Ok-Version-clause-refused g c = let asked = rw c.in-Ok-Version.field-0-is at c.in-Ok-Version.ensures.asked in λ none. absurd (asks_none _ _ asked none)

pub returns-in-Ok-Version-clause-silent : goal.returns-in-Ok-Version-clause-silent
returns-in-Ok-Version-clause-silent g c = let asked = rw c.in-Ok-Version.field-0-is at c.in-Ok-Version.ensures.asked in λ not. absurd (false≢true (sym not ∙ ap writes_output asked))

pub returns-in-Ok-Version-clause-passed : goal.returns-in-Ok-Version-clause-passed
returns-in-Ok-Version-clause-passed g c = λ served t is. absurd (text_not_passed _ _ _ c.write_text-in-Ok-Version.result c.write_text-in-Ok-Version.ensures.wrote served t is)

pub returns-in-Err-clause-told : goal.returns-in-Err-clause-told
returns-in-Err-clause-told g c = rw c.unread_words.ensures (unread_told HELP.now VERSION.now (map string_bytes c.args.words.now) _ c.in-Err.refusal c.in-Err.ensures.asked (λ e. c.in-Err.ensures.memory (ap Err e)))

pub returns-in-Err-clause-words : goal.returns-in-Err-clause-words
returns-in-Err-clause-words g c = λ bad. c.in-Err.ensures.asked (unread_bad c.in-Err.refusal (sym c.unread_words.ensures ∙ bad))

pub returns-in-Err-clause-refused : goal.returns-in-Err-clause-refused
returns-in-Err-clause-refused g c = λ none. rw c.unread_words.ensures (unread_refused (map string_bytes c.args.words.now) c.in-Err.refusal (λ e. c.in-Err.ensures.memory (ap Err e)))

pub returns-in-Err-clause-passed : goal.returns-in-Err-clause-passed
returns-in-Err-clause-passed g c = λ served t is. absurd (words_not_passed c.in-Err.refusal served t (sym c.unread_words.ensures ∙ is))
