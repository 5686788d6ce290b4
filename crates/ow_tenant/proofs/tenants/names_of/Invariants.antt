use Rattle.std.proofs.Common.{◌≡◌, map, take}
use Rattle.ow_value.specs.View.{views}
use Rattle.ow_tenant.specs.Tenants.{name_value}
use Rattle.ow_tenant.proofs.tenants.names_of.Given as goal

abbrev pub invariant-loop-entry : goal.invariant-loop-entry
invariant-loop-entry l = views l.names.items ≡ map name_value (take l.entry-index l.rights)
