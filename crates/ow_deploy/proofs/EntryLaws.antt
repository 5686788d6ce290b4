-- The members of a table that may be missing.
use Rattle.std.proofs.Common.{◌≡◌, Option, Some, None, option_map, unwrap_or, ap, Bor, BTreeMap, String, Global}
use Rattle.toml.specs.Data.{Members, no_members}
use Rattle.toml.specs.View.{table_view}
use Rattle.toml.specs.declared.value.Value.{Value}
use Rattle.ow_deploy.specs.EntryView.{table_members}

pub table_of : (r : Option (Bor (BTreeMap (String Global) Value))) (o : Option Members) → option_map (λ t. table_view t.now) r ≡ o → table_members r ≡ unwrap_or o no_members
table_of None o e = ap (λ x. unwrap_or x no_members) e
table_of (Some t) o e = ap (λ x. unwrap_or x no_members) e
