use Rattle.std.proofs.Common.{◌≡◌, length, take}
use Rattle.ow_records.proofs.records.Records.cut.Given as goal

abbrev pub invariant-loop-self : goal.invariant-loop-self
invariant-loop-self l = take l.count l.self.items ≡ take l.count l.initial.self.items

abbrev pub decreases-loop-self : goal.decreases-loop-self
decreases-loop-self l = length l.self.items
