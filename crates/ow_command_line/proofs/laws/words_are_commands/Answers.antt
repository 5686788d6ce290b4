use Rattle.ow_command_line.proofs.Worked.{refuses_words, takes_words}
use Rattle.ow_command_line.proofs.laws.words_are_commands.Goals as goal

pub returns-clause-taken : goal.returns-clause-taken
returns-clause-taken c = takes_words

pub returns-clause-refused : goal.returns-clause-refused
returns-clause-refused c = refuses_words
