use Rattle.std.proofs.Common.{sym, ◌∙◌}
use Rattle.ow_value.proofs.KeySearch.{test_of}
use Rattle.ow_names.specs.FullName.{full_text}
use Rattle.ow_tables.proofs.sequences.is_named.Goals as goal

pub returns : goal.returns
returns c = c.is_eq.ensures ∙ sym (test_of (full_text c.args.name.now) (full_text c.args.goal.now) c.compare.result (sym c.compare.ensures.order))
