use Rattle.ow_restart_laws.proofs.BookLaws.{all_rows_last}
use Rattle.ow_restart_laws.proofs.KeptLaws.{kept_lasts}
use Rattle.ow_restart_laws.proofs.OthersLaws.{others_last}
use Rattle.ow_restart_laws.proofs.TraceLaws.{traces_last}
use Rattle.ow_restart_laws.proofs.laws.what_lasts_goes_on.Goals as goal

pub returns-clause-rows : goal.returns-clause-rows
returns-clause-rows c = all_rows_last

pub returns-clause-traces : goal.returns-clause-traces
returns-clause-traces c = traces_last

pub returns-clause-others : goal.returns-clause-others
returns-clause-others c = others_last

pub returns-clause-kept : goal.returns-clause-kept
returns-clause-kept c = kept_lasts
