use Rattle.std.proofs.Common.{ap, sym, ◌∙◌, List, ℕ, Bor, option_map}
use Rattle.ow_tenant.proofs.RowsLaws.{field-there}
use Rattle.ow_tenant.proofs.row.field.Goals as goal

pub unreachable-requires : goal.unreachable-requires
unreachable-requires c = field-there _ _ c.requires (sym c.get.ensures.value ∙ ap (option_map (λ (s : Bor (List ℕ)). s.now)) c.in_default.is)
