use Rattle.std.proofs.Common.{◌≡◌}
use Rattle.ow_worker_tests.proofs.office.call_often.Given as goal

-- the office table stays
abbrev pub invariant-loop : goal.invariant-loop
invariant-loop l = l.hall.tenants ≡ l.initial.hall.tenants
