use Rattle.std.proofs.Common.{◌≡◌, drop}
use Rattle.ow_commits.specs.Archiving.{last_end}
use Rattle.ow_commits.proofs.archiving.last_end.Given as goal

-- with what is left it is the whole
abbrev pub invariant-loop-ended : goal.invariant-loop-ended
invariant-loop-ended l = last_end l.greatest (drop l.ended-index l.due) ≡ last_end l.last l.due
