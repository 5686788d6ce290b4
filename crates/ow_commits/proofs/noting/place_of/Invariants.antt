use Rattle.std.proofs.Common.{◌≡◌, ◌+◌, drop}
use Rattle.ow_commits.specs.Noting.{place_of}
use Rattle.ow_commits.proofs.noting.place_of.Given as goal

-- as many notes were passed, none of which has the key
abbrev pub invariant-loop-kept : goal.invariant-loop-kept
invariant-loop-kept l = record {
  passed : l.place ≡ l.kept-index;
  left : l.place + place_of l.note (drop l.kept-index l.notes) ≡ place_of l.note l.notes;
}
