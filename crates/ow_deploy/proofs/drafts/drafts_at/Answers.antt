use Rattle.std.proofs.Common.{◌≡◌, ◌+◌, ◌++◌, ◌∷◌, true, drop, map, sym, ap, subst, ◌∙◌}
use Rattle.std.proofs.lemmas.List.{at_drop_more}
use Rattle.std.proofs.lemmas.Result.{err_from_is_err_and}
use Rattle.ow_entity.specs.Chain.{and_then, result_map}
use Rattle.ow_deploy.specs.EntryView.{entry_view}
use Rattle.ow_deploy.specs.Manifest.{draft_at, drafts_at, is_shallow}
use Rattle.ow_deploy.specs.declared.entries.Entry.{Entry}
use Rattle.ow_deploy.proofs.DraftLaws.{given_next, put_next, shallow_at}
use Rattle.ow_deploy.proofs.drafts.drafts_at.Goals as goal

pub loop-entry-preserved : goal.loop-entry-preserved
loop-entry-preserved c =
    let xs = c.args.entries.now in
    let i = c.loop-entry.entry-index in
    let read = c.loop-entry.drafts.items in
    let home = c.args.home.now in
    let rest = drafts_at home (map entry_view (drop (i + 1) xs)) in
    record {
      read = ap (λ ms. result_map (λ ds. ms ++ ds) rest) c.in_ok-put_draft.ensures
          ∙ (put_next read c.in_ok-draft.draft rest
          ∙ (sym (ap (λ w. result_map (λ ds. read ++ ds) (and_then w (λ d. result_map (λ ds. d ∷ ds) rest))) (ap (λ e. draft_at home (entry_view e)) (sym c.entry-item.is) ∙ c.in_ok-draft.ensures.value))
          ∙ (sym (at_drop_more (λ es. result_map (λ ds. read ++ ds) (drafts_at home (map entry_view es))) xs i c.entry-item.result c.loop-entry-test.true)
          ∙ c.loop-entry.invariant.read)));
      given = given_next read c.in_ok-draft.draft _ c.in_ok-put_draft.ensures c.loop-entry.invariant.given c.in_ok-draft.ensures.given;
    }

pub draft_at-requires : goal.draft_at-requires
draft_at-requires c =
    subst (λ (e : Entry). is_shallow (entry_view e) ≡ true) (sym c.entry-item.is) (shallow_at c.args.entries.now c.loop-entry.entry-index c.entry-item.result c.loop-entry-test.true c.requires)

pub returns-in_err-draft-clause-value : goal.returns-in_err-draft-clause-value
returns-in_err-draft-clause-value c =
    let xs = c.args.entries.now in
    let i = c.loop-entry.entry-index in
    let read = c.loop-entry.drafts.items in
    let home = c.args.home.now in
    let rest = drafts_at home (map entry_view (drop (i + 1) xs)) in
    let p = err_from_is_err_and c.from_residual.result c.from_residual.ensures.1 in
    rw (p.1, p.2) (λ other. sym c.loop-entry.invariant.read
    ∙ (at_drop_more (λ es. result_map (λ ds. read ++ ds) (drafts_at home (map entry_view es))) xs i c.entry-item.result c.loop-entry-test.true
    ∙ ap (λ w. result_map (λ ds. read ++ ds) (and_then w (λ d. result_map (λ ds. d ∷ ds) rest))) (ap (λ e. draft_at home (entry_view e)) (sym c.entry-item.is) ∙ c.in_err-draft.ensures.value other)))
