use Rattle.std.proofs.Common.{length, List, ℕ}
use Rattle.std.specs.List.{AllByRecursion}
use Rattle.ow_names.specs.Name.{IsName}
use Rattle.ow_tenant.specs.declared.entries.Holder.{Holder}
use Rattle.ow_tenant.proofs.known.known_homes.Given as goal

abbrev pub invariant-loop-rest : goal.invariant-loop-rest
invariant-loop-rest l = AllByRecursion (λ (e : List ℕ × Holder). IsName e.1.home) l.rest → AllByRecursion (λ (e : List ℕ × Holder). IsName e.1.home) l.entries

abbrev pub decreases-loop-rest : goal.decreases-loop-rest
decreases-loop-rest l = length l.rest
