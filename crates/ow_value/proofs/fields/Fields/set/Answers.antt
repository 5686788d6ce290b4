use Rattle.std.proofs.Common.{ap, sym, subst, ◌∙◌, IsUtf8}
use Rattle.ow_value.specs.Find.{with_pair}
use Rattle.ow_value.specs.Json.{IsObject}
use Rattle.ow_value.specs.View.{view}
use Rattle.ow_value.proofs.Objects.{IsObject-with_pair}
use Rattle.ow_value.proofs.fields.Fields.set.Goals as goal

pub invariant_of-self-2 : goal.invariant_of-self-2
invariant_of-self-2 c =
    let new = c.in_ok-put.ensures.ok ∙ ap (λ ps. with_pair ps c.args.name (view c.args.value)) c.make_room.ensures in
    subst IsObject (sym new) (IsObject-with_pair _ c.args.name (view c.args.value) c.self.invariant (subst IsUtf8 c.as_str.ensures.value c.as_str.ensures.utf8) c.known.ensures)
