use Rattle.std.proofs.Common.{◌≡◌, Some, None, arith, sym}
use Rattle.std.proofs.lemmas.List.{take_rest}
use Rattle.ow_day.proofs.Searching.{place_in}
use Rattle.ow_day.proofs.search.search_on.Goals as goal

pub searched_whole-requires : goal.searched_whole-requires
searched_whole-requires c =
    let line : c.args.search.line ≡ 0 = omega arith in
    let none = rw (take_rest c.args.bytes.now c.args.search.searched) at c.in-None.ensures in
    sym (place_in c.args.bytes.now c.args.search None c.requires line none)

pub returns-in-Some-clause-place : goal.returns-in-Some-clause-place
returns-in-Some-clause-place c =
    let line : c.args.search.line ≡ 0 = omega arith in
    let some = rw (take_rest c.args.bytes.now c.args.search.searched) at c.in-Some.ensures in
    place_in c.args.bytes.now c.args.search (Some c.in-Some.place) c.requires line some

pub returns-in-None-clause-place : goal.returns-in-None-clause-place
returns-in-None-clause-place c =
    let line : c.args.search.line ≡ 0 = omega arith in
    let none = rw (take_rest c.args.bytes.now c.args.search.searched) at c.in-None.ensures in
    place_in c.args.bytes.now c.args.search None c.requires line none
