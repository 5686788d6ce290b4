use Rattle.std.proofs.Common.{◌≡◌, ◌-◌}
use Rattle.ow_tables.specs.Sequences.{leads}
use Rattle.ow_tables.proofs.sequences.leads.Given as goal

abbrev pub invariant-loop-k : goal.invariant-loop-k
invariant-loop-k g l =
    leads (g.T.Lookup.found l.rows) l.goal (l.most - l.k) l.k (record { seen = l.seen.rows; queue = l.queue.items })
    ≡ leads (g.T.Lookup.found l.rows) l.goal l.most 0 (record { seen = l.fn.seen.rows; queue = l.fn.queue.items })
