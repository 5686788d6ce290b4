use Rattle.std.proofs.Common.{[], ◌∷◌, ◌++◌, append_assoc, ap, map, string_bytes, sym, ◌∙◌}
use Rattle.std.proofs.lemmas.List.Elements.{filter-append}
use Rattle.toml.specs.View.{members_view, view}
use Rattle.ow_entity.specs.declared.kinds.EntityKind.TheVariants as kinds
use Rattle.ow_deploy.specs.Entries.{Listing, binds_as, chosen, listing, listings, packages}
use Rattle.ow_deploy.specs.EntryView.{entry_view}
use Rattle.ow_deploy.proofs.ValueLaws.{Member}
use Rattle.ow_deploy.proofs.entries.put_each_package.Goals as goal

pub loop-path-preserved : goal.loop-path-preserved
loop-path-preserved c =
    let bound = c.args.bound in
    let e : Member = (c.in-Some.path.now, c.in-Some.body.now) in
    let left = c.next.new.self in
    let old = map entry_view c.loop-path.entries.items in
    let one = listing kinds.Package (string_bytes e.0) (view e.1) in
    let rest = listings kinds.Package (members_view left) in (
      tt,
      tt,
      ap (λ es. es ++ chosen bound rest) (c.in_ok-put_package.ensures ∙ ap (λ p. old ++ chosen bound (listing kinds.Package p (view e.1) ∷ [])) c.as_str.ensures.value)
          ∙ (append_assoc old (chosen bound (one ∷ [])) (chosen bound rest)
          ∙ (sym (ap (λ es. old ++ es) (filter-append (λ (l : Listing). binds_as bound l.body) (one ∷ []) rest))
          ∙ (sym (ap (λ es. old ++ packages bound (members_view es)) c.in-Some.ensures.steps)
          ∙ c.loop-path.invariant.2))),
    )
