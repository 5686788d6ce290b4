use Rattle.std.proofs.Common.{rules, take}
use Rattle.ow_day.proofs.Reading.{ends_at_none, gives_piece, length_piece}
use Rattle.ow_day.proofs.input.read_behind.Goals as goal

pub returns-clause-told : goal.returns-clause-told
returns-clause-told g c = (
  take c.in-Ok.n c.read_some.new.room,
  length_piece c.read_some.new.room c.in-Ok.n c.args.space c.in-Ok.ensures.count (search rules),
  c.in-Ok.ensures.count,
  rw (← c.reserve.ensures.items) c.in_ok-append.ensures.ok,
  gives_piece _ _ c.read_some.new.room c.in-Ok.n c.in-Ok.ensures.told,
  ends_at_none _ _ c.read_some.new.room c.in-Ok.n c.in-Ok.ensures.told,
)
