use Rattle.ow_day.proofs.Searching.{whole_searched}
use Rattle.ow_day.proofs.search.searched_whole.Goals as goal

pub returns : goal.returns
returns c = whole_searched c.args.bytes.now c.requires
