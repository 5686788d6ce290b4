use Rattle.std.proofs.Common.{◌≡◌, Ordering, Less, Equal, Greater, refl, ap₂, ◌∙◌}
use Rattle.std.specs.Ordering.{ordering_then}
use Rattle.ow_records.proofs.order.id_order.Goals as goal

alone : (o : Ordering) → o ≡ ordering_then o Equal
alone Less = refl
alone Equal = refl
alone Greater = refl

pub returns : goal.returns
returns c = c.then.ensures ∙ ap₂ ordering_then c.cmp.ensures (c.cmp-2.ensures ∙ alone _)
