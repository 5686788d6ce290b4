use Rattle.std.proofs.Common.{◌≡◌, ◌+◌, ◌-◌, ◌++◌, [], ◌∷◌, ap, subst, ◌∙◌}
use Rattle.ow_row_text.specs.declared.item.Item.TheVariants as items
use Rattle.ow_commits.specs.declared.open_bytes.OpenBytes.{OpenBytes}
use Rattle.ow_commits.specs.Commits.{accept_changes}
use Rattle.ow_commits.specs.Keeping.{last_bytes, open_bytes, row_bytes}
use Rattle.ow_records.specs.declared.unrecorded.Unrecorded.{Unrecorded}
use Rattle.ow_commits.proofs.following.follow_acceptance.Goals as goal

pub returns-clause-changes : goal.returns-clause-changes
returns-clause-changes c = subst (λ (u : Unrecorded). c.accept.new.gathered.changes.items ≡ c.args.gathered.now.changes.items ++ accept_changes u) c.in_ok-activation.ensures c.in_ok-opened.ensures.changes

pub returns-clause-follows : goal.returns-clause-follows
returns-clause-follows c = record {
  bytes = subst (λ (u : Unrecorded). c.accept.new.gathered.bytes + last_bytes u.id.namespace (u.id.count - 1) ≡ c.args.gathered.now.bytes + (row_bytes (items.Count u.id.namespace u.id.count) + row_bytes (items.Open u))) c.in_ok-activation.ensures c.in_ok-opened.ensures.bytes;
  opens = c.in_ok-push.ensures.items ∙ ap (λ (o : OpenBytes). c.args.opens.now.items ++ o ∷ []) (c.in_ok-opened.ensures.opened ∙ ap open_bytes c.in_ok-activation.ensures);
}
