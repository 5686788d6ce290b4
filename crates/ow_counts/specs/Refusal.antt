-- By what number a client knows each refusal.
use Rattle.std.specs.Prelude.{ℕ}
use Rattle.ow_tenant.specs.Refusal.{window_number}
use Rattle.ow_counts.specs.declared.refusal.LimitRefusal.{LimitRefusal}
use Rattle.ow_counts.specs.declared.refusal.LimitRefusal.TheVariants.{OfficeBusy, OfNamespace}

abbrev pub limit_number : LimitRefusal → ℕ
limit_number OfficeBusy = 46
limit_number (OfNamespace refusal) = window_number refusal
