-- What an entry of the code is, for private clauses.
use Rattle.std.specs.Prelude.{ℕ, List, Option, Some, None, String}
use Rattle.std.specs.Borrow.{Bor}
use Rattle.std.specs.BTreeMap.{BTreeMap}
use Rattle.std.specs.declared.alloc.Global.{Global}
use Rattle.toml.specs.Data.{Members, no_members}
use Rattle.toml.specs.View.{view, table_view}
use Rattle.toml.specs.declared.value.Value.{Value}
use Rattle.ow_deploy.specs.Entries.{Listing, listing}
use Rattle.ow_deploy.specs.declared.entries.Entry.{Entry}

abbrev pub entry_view : Entry → Listing
entry_view e = listing e.kind e.path.now (view e.body.now)

-- the members of a table, if there is one
abbrev pub table_members : Option (Bor (BTreeMap (String Global) Value)) → Members
table_members None = no_members
table_members (Some t) = table_view t.now

abbrev pub text_in : Option (Bor (List ℕ)) → Option (List ℕ)
text_in None = None
text_in (Some s) = Some s.now
