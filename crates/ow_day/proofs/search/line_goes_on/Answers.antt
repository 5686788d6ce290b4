use Rattle.std.proofs.lemmas.Bool.{leb-true}
use Rattle.ow_day.proofs.Searching.{line_awaited, none_behind, rest_searched}
use Rattle.ow_day.proofs.search.line_goes_on.Goals as goal

pub returns-clause-cut : goal.returns-clause-cut
returns-clause-cut c = λ told.
    let none = none_behind c.args.bytes.now c.args.search c.requires.searched c.requires.none in
    line_awaited c.args.bytes.now c.args.search c.requires.searched none c.requires.left (leb-true _ _ told)

pub returns-clause-search : goal.returns-clause-search
returns-clause-search c = rest_searched c.args.bytes.now c.args.search c.requires.searched (none_behind c.args.bytes.now c.args.search c.requires.searched c.requires.none)
