use Rattle.std.proofs.Common.{◌≡◌, ◌≤◌, ◌-◌, length}
use Rattle.ow_tenant.specs.Reading.{HasRead}
use Rattle.ow_office.proofs.input.read_input.Given as goal

abbrev pub invariant-loop-text : goal.invariant-loop-text
invariant-loop-text g l = record {
  read : HasRead (g.S.Source.left l.fn.source) (g.S.Source.left l.source) l.text.items;
  most : length l.text.items ≤ 4194305;
  room : length l.room.items ≡ 65536;
  later : g.S.Source.faults l.fn.source ≤ g.S.Source.faults l.source;
}

abbrev pub decreases-loop-text : goal.decreases-loop-text
decreases-loop-text g l = 4194305 - length l.text.items
