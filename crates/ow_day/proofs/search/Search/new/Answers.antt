use Rattle.ow_day.proofs.Searching.{nothing_searched}
use Rattle.ow_day.proofs.search.Search.new.Goals as goal

pub returns : goal.returns
returns c = nothing_searched
