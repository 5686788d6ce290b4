-- By what number a client knows each refusal.
use Rattle.std.specs.Prelude.{ℕ}
use Rattle.ow_tenant.specs.declared.refusal.TenantRefusal.{TenantRefusal}
use Rattle.ow_tenant.specs.declared.refusal.TenantRefusal.TheVariants.{BadRow, ReadFault, NoMemory, UnknownKey, NotGranted}
use Rattle.ow_tenant.specs.declared.refusal.WindowRefusal.{WindowRefusal}
use Rattle.ow_tenant.specs.declared.refusal.WindowRefusal.TheVariants.{MinuteLimit, ConcurrentLimit, FireLimit}

abbrev pub tenant_number : TenantRefusal → ℕ
tenant_number (BadRow row) = 22
tenant_number UnknownKey = 23
tenant_number NotGranted = 24
tenant_number ReadFault = 0
tenant_number NoMemory = 0

abbrev pub window_number : WindowRefusal → ℕ
window_number (MinuteLimit count allowed) = 25
window_number (ConcurrentLimit count allowed) = 26
window_number (FireLimit count allowed) = 27
