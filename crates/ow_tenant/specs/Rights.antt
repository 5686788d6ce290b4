-- What a key may do in a namespace.
use Rattle.std.specs.Prelude.{Bool, true, false, Option, Some, None}
use Rattle.ow_tenant.specs.declared.rights.Right.{Right}
use Rattle.ow_tenant.specs.declared.rights.Right.TheVariants.{Read, Write, Invoke}
use Rattle.ow_tenant.specs.declared.rights.Rights.{Rights}

abbrev pub no_rights : Rights
no_rights = record { read = false; write = false; invoke = false }

abbrev pub all_rights : Rights
all_rights = record { read = true; write = true; invoke = true }

-- these rights and one more
abbrev pub with_right : Right → Rights → Rights
with_right Read r = record { read = true; write = r.write; invoke = r.invoke }
with_right Write r = record { read = r.read; write = true; invoke = r.invoke }
with_right Invoke r = record { read = r.read; write = r.write; invoke = true }

-- whether a right is among them
abbrev pub has_right : Right → Rights → Bool
has_right Read r = r.read
has_right Write r = r.write
has_right Invoke r = r.invoke

-- the given rights, or none
abbrev pub rights_or_none : Option Rights → Rights
rights_or_none None = no_rights
rights_or_none (Some r) = r
