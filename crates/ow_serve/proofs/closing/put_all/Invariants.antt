use Rattle.std.proofs.Common.{◌≡◌, ◌++◌, length, map}
use Rattle.ow_serve.specs.Peers.{endings_in}
use Rattle.ow_serve.proofs.closing.put_all.Given as goal

abbrev pub invariant-loop-done : goal.invariant-loop-done
invariant-loop-done g l = record {
  receipts : map (λ r. r.notes) l.receipts.items ++ map (λ d. d.notes.notes) l.dones.items ≡ map (λ r. r.notes) l.fn.receipts.items ++ map (λ d. d.notes.notes) l.fn.dones.items;
  endings : l.endings.items ++ endings_in (map (λ d. d.ending) l.dones.items) ≡ l.fn.endings.items ++ endings_in (map (λ d. d.ending) l.fn.dones.items);
}

abbrev pub decreases-loop-done : goal.decreases-loop-done
decreases-loop-done g l = length l.dones.items
