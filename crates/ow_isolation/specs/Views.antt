-- What the holder of a key may see after the entries of a log.
use Rattle.std.specs.Prelude.{ℕ, List, Option, option_map}
use Rattle.ow_floor.specs.Trace.{shown_records}
use Rattle.ow_hall.specs.History.{History, seen}
use Rattle.ow_reads.specs.View.{View, view_over}
use Rattle.ow_tenant.specs.Table.{Table}
use Rattle.ow_tenant.specs.Tenants.{holder_of}

-- what the holder of the key may see of the rows and records after these entries; nothing where nobody holds it
abbrev pub view_after : Table → History → Option (List ℕ) → Option View
view_after t B key = option_map (view_over (seen t B).rows (shown_records (seen t B).trace)) (holder_of key t)
