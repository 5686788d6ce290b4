use Rattle.std.proofs.Common.{Option, ap, sym}
use Rattle.std.specs.Prelude.{unwrap_or}
use Rattle.ow_row_text.specs.declared.item.Archive.{Archive}
use Rattle.ow_commits.specs.Kept.{no_archive}
use Rattle.ow_commits.proofs.keeping.archive_of.Goals as goal

pub returns-in-Some : goal.returns-in-Some
returns-in-Some c = ap (λ (o : Option Archive). unwrap_or o no_archive) (sym c.in-Some.is)

pub returns-in-None : goal.returns-in-None
returns-in-None c = ap (λ (o : Option Archive). unwrap_or o no_archive) (sym c.in-None.is)
