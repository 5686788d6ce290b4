use Rattle.std.proofs.Common.{[], ◌∷◌, ◌++◌, append_assoc, ap, map, string_bytes, sym, ◌∙◌}
use Rattle.toml.specs.View.{members_view, view}
use Rattle.ow_deploy.specs.Entries.{listing, listings}
use Rattle.ow_deploy.specs.EntryView.{entry_view}
use Rattle.ow_deploy.proofs.ValueLaws.{Member}
use Rattle.ow_deploy.proofs.entries.put_each.Goals as goal

pub loop-path-preserved : goal.loop-path-preserved
loop-path-preserved c =
    let kind = c.args.kind in
    let e : Member = (c.in-Some.path.now, c.in-Some.body.now) in
    let left = c.next.new.self in
    let old = map entry_view c.loop-path.entries.items in
    let rest = listings kind (members_view left) in (
      tt,
      tt,
      ap (λ es. es ++ rest) (c.in_ok-put.ensures ∙ ap (λ p. old ++ listing kind p (view e.1) ∷ []) c.as_str.ensures.value)
          ∙ (append_assoc old (listing kind (string_bytes e.0) (view e.1) ∷ []) rest
          ∙ (sym (ap (λ es. old ++ listings kind (members_view es)) c.in-Some.ensures.steps)
          ∙ c.loop-path.invariant.2)),
    )
