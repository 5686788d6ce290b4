use Rattle.ow_names.proofs.NameLaws.{no_slash}
use Rattle.ow_names.proofs.name.EntityName.as_part.Goals as goal

pub returns-clause-whole : goal.returns-clause-whole
returns-clause-whole c = rw c.as_bytes.ensures.value (no_slash _ c.as_str.ensures.name)
