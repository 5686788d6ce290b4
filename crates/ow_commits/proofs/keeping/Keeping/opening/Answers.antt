use Rattle.std.proofs.Common.{◌≡◌, ◌+◌, ◌++◌, ◌∷◌, [], List, ap, codes, subst, ◌∙◌}
use Rattle.std.specs.List.{flat_map}
use Rattle.ow_row_text.specs.Bytes.{bytes_of, weight_at}
use Rattle.ow_row_text.specs.declared.item.Archive.{Archive}
use Rattle.ow_row_text.specs.declared.item.Item.TheVariants as items
use Rattle.ow_keep.specs.Split.{parts_of}
use Rattle.ow_commits.specs.Commits.{end_changes, put_of}
use Rattle.ow_commits.specs.Keeping.{done_bytes, row_bytes}
use Rattle.ow_commits.specs.Opening.{abandoned, opens_bytes}
use Rattle.ow_commits.proofs.Standing.{opening_done}
use Rattle.ow_commits.proofs.keeping.Keeping.opening.Goals as goal
use Rattle.ow_records.specs.declared.unrecorded.Unrecorded.{Unrecorded}

pub returns : goal.returns
returns c =
    let first = c.put_version.new.gathered in
    let second = c.put_archive.new.gathered in
    let last = c.abandon_all.new.gathered in
    let archived = subst (λ (a : Archive). second.changes.items ≡ first.changes.items ++ put_of (items.Archive a) ∷ []) c.archive_of.ensures c.in_ok-put_archive.ensures.changes in
    let archived_bytes = subst (λ (a : Archive). second.bytes + weight_at (codes "archived") c.args.rows.now ≡ first.bytes + row_bytes (items.Archive a)) c.archive_of.ensures c.in_ok-put_archive.ensures.bytes in
    let changes = subst (λ (us : List Unrecorded). last.changes.items ≡ second.changes.items ++ flat_map end_changes (abandoned c.args.at us)) c.deref.ensures.value c.in_ok-abandon_all.ensures.changes in
    let bytes = subst (λ (us : List Unrecorded). last.bytes + opens_bytes us ≡ second.bytes + done_bytes (abandoned c.args.at us)) c.deref.ensures.value c.in_ok-abandon_all.ensures.bytes in
    let d = opening_done c.args.rows.now (parts_of c.args.kept.now) c.args.at c.in_ok-following.following _ _ _ _ _ _ _ _ _ c.as_slice.ensures.rows (c.new-gathered.ensures.bytes ∙ c.in_ok-bytes.ensures ∙ ap bytes_of c.as_slice.ensures.value) c.new-gathered.ensures.changes
    c.in_ok-put_version.ensures.changes c.in_ok-put_version.ensures.bytes archived archived_bytes changes bytes c.new.ensures.items c.in_ok-following.ensures in
    record { changes = d.changes; stands = d.stands }
