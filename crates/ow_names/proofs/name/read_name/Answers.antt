use Rattle.std.proofs.Common.{sym}
use Rattle.ow_names.proofs.NameLaws.{IsName-utf8, name_if_no_fault}
use Rattle.ow_names.proofs.name.read_name.Goals as goal

pub unreachable-requires : goal.unreachable-requires
unreachable-requires c = c.in_default.ensures.cases.0 (IsName-utf8 _ (name_if_no_fault _ (sym c.in_ok-check_name.ensures.value)))
