use Rattle.ow_day.specs.Search.{IsSearched}
use Rattle.ow_day.proofs.search.go_over.Given as goal

abbrev pub invariant-loop-search : goal.invariant-loop-search
invariant-loop-search l = IsSearched l.bytes l.search

abbrev pub decreases-loop-search : goal.decreases-loop-search
decreases-loop-search l = l.search.left
