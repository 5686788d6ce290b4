use Rattle.std.proofs.Common.{◌≡◌, drop}
use Rattle.ow_entity.specs.Exec.{components_of}
use Rattle.ow_tables.specs.Sequences.{looked_at}
use Rattle.ow_tables.proofs.sequences.looked_at.Given as goal

abbrev pub invariant-loop-component : goal.invariant-loop-component
invariant-loop-component g l =
    looked_at (g.T.Lookup.found l.rows) l.goal (drop l.component-index l.component-items) (record { seen = l.seen.rows; queue = l.queue.items })
    ≡ looked_at (g.T.Lookup.found l.rows) l.goal (components_of l.exec) (record { seen = l.fn.seen.rows; queue = l.fn.queue.items })
