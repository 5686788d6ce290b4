use Rattle.std.proofs.Common.{◌≡◌, ◌+◌, List, subst}
use Rattle.ow_row_text.specs.declared.item.Item.TheVariants as items
use Rattle.ow_commits.specs.declared.open_bytes.OpenBytes.{OpenBytes}
use Rattle.ow_commits.specs.Keeping.{bytes_at, row_bytes}
use Rattle.ow_commits.proofs.following.follow_end.Goals as goal

pub returns-clause-follows : goal.returns-clause-follows
returns-clause-follows c = record {
  bytes = subst (λ (os : List OpenBytes). c.end.new.gathered.bytes + bytes_at c.args.ended.now.id os ≡ c.args.gathered.now.bytes + row_bytes (items.Done c.args.ended.now)) c.deref.ensures.value c.in_ok-end.ensures.bytes;
  opens = c.remove.ensures;
}
