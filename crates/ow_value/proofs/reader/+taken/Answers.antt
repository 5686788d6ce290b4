use Rattle.std.proofs.Common.{◌≡◌, ◌∙◌, length, ap, sym, subst, arith}
use Rattle.ow_value.specs.Json.{AreValues, IsObject}
use Rattle.ow_value.specs.Value.{items_of}
use Rattle.std.specs.Vec.Iter.{into_iter_items}
use Rattle.ow_value.proofs.Objects.{AreValues-pushed, AreMembers-pushed, IsValue-object}
use Rattle.ow_value.proofs.Taking.{Entry, none_left, item_taken, items_taken, member_taken, members_taken, name_taken, names_taken}
use Rattle.ow_value.proofs.reader.+taken.Goals as goal

pub taken_items-loop-value-preserved : goal.taken_items-loop-value-preserved
taken_items-loop-value-preserved t c =
    let before = c.loop-value.invariant in
    let item = c.in_ok-item.ensures in
    let pushed = c.in_ok-push.ensures.items in (
      tt,
      tt,
      item_taken _ _ c.in_ok-item.item _ _ c.in-Some.value _ pushed c.in-Some.ensures.steps.0 item.value before.2,
      omega (arith, ap length c.in-Some.ensures.steps.0),
      AreValues-pushed _ _ _ pushed before.4 item.known,
    )

pub taken_items-returns : goal.taken_items-returns
taken_items-returns t c =
    let z : length (into_iter_items c.loop-value.value-iterator) ≡ 0 = c.loop-value.invariant.3 ∙ c.in-None.ensures.steps.0 in
    record { value = rw c.in_ok-of_values.ensures (items_taken _ _ _ (none_left _ z) c.loop-value.invariant.2); known = subst (λ vs. AreValues (items_of vs)) (sym c.in_ok-of_values.ensures) c.loop-value.invariant.4 }

pub taken_members-loop-key-preserved : goal.taken_members-loop-key-preserved
taken_members-loop-key-preserved t c =
    let before = c.loop-key.invariant in
    let entry : Entry = (c.in-Some.key, c.in-Some.member) in
    let pushed = c.in_ok-push.ensures.items in
    let name = c.in_ok-name.ensures in (
      tt,
      tt,
      member_taken _ _ _ _ _ entry _ pushed c.in-Some.ensures.steps name.value c.in_ok-value.ensures.value before.2,
      name_taken _ _ _ _ _ entry _ pushed c.in-Some.ensures.steps name.value before.3,
      AreMembers-pushed _ _ _ pushed before.4 name.utf8 c.in_ok-value.ensures.known,
    )

pub taken_members-of_pairs-requires : goal.taken_members-of_pairs-requires
taken_members-of_pairs-requires t c =
    let before = c.loop-key.invariant in
    record { rises = names_taken _ _ c.args.members.entries c.in-None.ensures.steps.0 before.3 c.len.ensures.ordered; values = before.4 }

pub taken_members-returns : goal.taken_members-returns
taken_members-returns t c =
    let before = c.loop-key.invariant in
    record {
      value = rw c.in_ok-of_pairs.ensures (members_taken _ _ _ c.in-None.ensures.steps.0 before.2);
      known = subst IsObject (sym c.in_ok-of_pairs.ensures) (record { rises = names_taken _ _ c.args.members.entries c.in-None.ensures.steps.0 before.3 c.len.ensures.ordered; values = before.4 });
    }

pub taken-returns-in_ok-taken_members-in-Object-clause-known : goal.taken-returns-in_ok-taken_members-in-Object-clause-known
taken-returns-in_ok-taken_members-in-Object-clause-known t c = IsValue-object _ c.in_ok-taken_members-in-Object.ensures.known
