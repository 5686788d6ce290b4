-- How much a namespace may ask for where the office table says nothing else.
use Rattle.ow_tenant.specs.declared.limits.NamespaceLimits.{NamespaceLimits}

abbrev pub default_limits : NamespaceLimits
default_limits = record { per_minute = 120; concurrent = 100; fires = 60 }
