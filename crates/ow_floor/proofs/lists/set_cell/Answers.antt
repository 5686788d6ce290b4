use Rattle.std.proofs.Common.{min}
use Rattle.std.proofs.Math.Nat.{min-le_left, min-le_right}
use Rattle.ow_floor.proofs.Going.{gone_less, gone_set_behind}
use Rattle.ow_floor.proofs.lists.set_cell.Goals as goal

pub further-requires : goal.further-requires
further-requires g c =
    rw (c.items.ensures, c.set.ensures.now, c.min.ensures)
    (gone_set_behind (min c.args.gone c.args.place) c.args.place c.args.cells.now.now c.args.cell (min-le_right c.args.gone c.args.place)
    (gone_less (min c.args.gone c.args.place) c.args.gone c.args.cells.now.now (min-le_left c.args.gone c.args.place) c.requires.gone))
