use Rattle.std.proofs.Common.{ap, sym, ◌∙◌}
use Rattle.ow_value.specs.View.{view, entry_views}
use Rattle.ow_value.proofs.Entries.{insert_read}
use Rattle.ow_value.proofs.fields.put_entry.Goals as goal

pub returns-clause-ok : goal.returns-clause-ok
returns-clause-ok c = ap entry_views c.in_ok-insert.ensures.entries ∙ sym (insert_read view c.args.name c.args.value _)
