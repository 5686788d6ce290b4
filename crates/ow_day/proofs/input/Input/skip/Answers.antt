use Rattle.std.proofs.Common.{◌≤◌, ◌+◌, arith, drop, length, length-drop}
use Rattle.ow_day.proofs.input.Input.skip.Goals as goal

pub invariant_of-self : goal.invariant_of-self
invariant_of-self c =
    let some = rw (← c.self.view_is) at c.requires in
    let within : c.self.inside.start + c.args.n ≤ length c.self.inside.bytes.items = omega (arith, some, c.self.invariant.within, length-drop c.self.inside.start c.self.inside.bytes.items) in
    record {
      within = within;
      searched = c.new-self-inside.ensures (drop (c.self.inside.start + c.args.n) c.self.inside.bytes.items);
      read = omega (arith, c.self.invariant.read);
      most = c.self.invariant.most;
      piece = c.self.invariant.piece;
    }
