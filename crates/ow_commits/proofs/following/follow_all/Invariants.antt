use Rattle.std.proofs.Common.{◌≡◌, ◌++◌, drop}
use Rattle.std.specs.List.{flat_map}
use Rattle.ow_commits.specs.Commits.{changes_of}
use Rattle.ow_commits.proofs.Moving.{FollowsFrom, KnownFrom}
use Rattle.ow_commits.proofs.following.follow_all.Given as goal

-- what was gathered, and what is left to be, is the whole
abbrev pub invariant-loop-moved : goal.invariant-loop-moved
invariant-loop-moved l = record {
  changes : l.gathered.changes.items ++ flat_map changes_of (drop l.moved-index l.moves) ≡ l.initial.gathered.changes.items ++ flat_map changes_of l.moves;
  follows : FollowsFrom (drop l.moved-index l.moves) l.moves l.gathered.bytes l.opens.items l.initial.gathered.bytes l.initial.opens.items;
  known : KnownFrom (drop l.moved-index l.moves) l.moves;
}
