use Rattle.std.proofs.Common.{find, sym, ap, ◌∙◌, subst}
use Rattle.ow_records.specs.Order.{Rises}
use Rattle.ow_records.specs.Records.{RecordsView, id_key, is_of_id}
use Rattle.ow_records.proofs.Sorting.{found_sorted, rises_sorted}
use Rattle.ow_records.proofs.records.Records.found.Goals as goal

pub first_of-requires : goal.first_of-requires
first_of-requires c = subst (Rises id_key) (sym (c.deref.ensures.value ∙ c.self.invariant.ids)) (rises_sorted id_key c.self.inside.by_end.items)

pub returns : goal.returns
returns c =
    c.first_of.ensures ∙ ap (find (is_of_id c.args.id.now)) (c.deref.ensures.value ∙ c.self.invariant.ids)
    ∙ found_sorted c.args.id.now c.self.inside.by_end.items ∙ ap (λ (v : RecordsView). find (is_of_id c.args.id.now) v.items) c.self.view_is
