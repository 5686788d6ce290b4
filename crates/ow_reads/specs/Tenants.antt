-- Who makes a request, and what is granted to a key.
use Rattle.std.specs.Prelude.{ℕ, List, Bool, codes, Option, Result}
use Rattle.ow_names.specs.Path.{home}
use Rattle.ow_http.specs.declared.reason.Reason.{Reason}
use Rattle.ow_tenant.specs.Rights.{has_right}
use Rattle.ow_tenant.specs.Table.{Table}
use Rattle.ow_tenant.specs.Tenants.{holder_of, rights_in}
use Rattle.ow_tenant.specs.declared.entries.Holder.{Holder}
use Rattle.ow_tenant.specs.declared.rights.Right.{Right}
use Rattle.ow_reads.specs.Reasons.{unknown_key}
use Rattle.ow_reads.specs.Steps.{or_else}

-- the subject in whose name the office's own calls run
abbrev pub office : List ℕ
office = codes "office"

-- who holds the key of a request
abbrev pub asker : Table → Option (List ℕ) → Result Holder Reason
asker t key = or_else (holder_of key t) unknown_key

-- the holder of a key has a right in a namespace, `_` being the key's own
abbrev pub may : Holder → Right → List ℕ → Bool
may h right namespace = has_right right (rights_in (home h.home namespace) h)
