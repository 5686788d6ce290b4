use Rattle.std.proofs.Common.{ap, ◌∙◌, option_and_then}
use Rattle.toml.specs.Data.{as_table}
use Rattle.ow_deploy.proofs.EntryLaws.{table_of}
use Rattle.ow_deploy.proofs.entries.members_at.Goals as goal

pub returns-in-Some : goal.returns-in-Some
returns-in-Some c =
    let found = rw c.in-Some.is at c.value_at.ensures in
    table_of c.as_table.result _ (c.as_table.ensures ∙ ap (option_and_then as_table) found)
