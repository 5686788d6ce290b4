-- The changes of a deployment under way, gathered for the commit.
use Rattle.std.proofs.Common.{◌≡◌, ◌++◌, ◌∙◌, ◌+◌, ℕ, Bool, true, false, cond, List, [], ◌∷◌, Option, Some, None, map, refl, sym, ap, subst}
use Rattle.std.specs.List.{flat_map}
use Rattle.std.proofs.lemmas.Grind.{flat_map-append}
use Rattle.std.proofs.lemmas.List.{append-nil}
use Rattle.ow_traits.specs.declared.change_list.Change.{Change as StoreChange}
use Rattle.ow_entity.specs.declared.rows.Row.{Row}
use Rattle.ow_floor.specs.Trace.{Trace}
use Rattle.ow_commits.specs.Commits.{row_changes}
use Rattle.ow_commits.specs.Keeping.{KeepingView, StandsFollowing, StandsForKept}
use Rattle.ow_row_text.specs.Unchanged.{is_unchanged}
use Rattle.ow_tables.specs.Contents.{Change}
use Rattle.ow_tables.specs.Rows.{changed, with_row}
use Rattle.ow_decide.specs.Asking.{put_of}
use Rattle.ow_decide.specs.Decision.{all_changed}
use Rattle.ow_decide.specs.Deploying.{Progress, begun, put_over, with_put}
use Rattle.ow_decide.specs.Deployment.{DeploymentView, IsAdded, IsGathered, StaysGathered, counted_put, over_for}
use Rattle.ow_decide.specs.declared.deploy_steps.Over.{Over}
use Rattle.ow_decide.specs.declared.deploy_steps.Over.TheVariants as over
use Rattle.ow_decide.specs.Making.{IsFollowingOf}

-- a change that takes nothing out is a put
pub put_is : (c : Change) → c.removes ≡ false → c ≡ put_of c.row
put_is c puts = ap (λ (b : Bool). record { row = c.row; removes = b }) puts

-- one more put
pub puts_more : (rows : List Row) (row : Row) → map put_of (rows ++ row ∷ []) ≡ map put_of rows ++ put_of row ∷ []
puts_more [] row = refl
puts_more (r ∷ rs) row = ap (λ (cs : List Change). put_of r ∷ cs) (puts_more rs row)

changed_then : (cs ds : List Change) (rs : List Row) → all_changed (cs ++ ds) rs ≡ all_changed ds (all_changed cs rs)
changed_then [] ds rs = refl
changed_then (c ∷ cs) ds rs = changed_then cs ds (changed c rs)

-- before the first draft nothing is gathered
pub gathered_first : (b : KeepingView) (rs : List Row) (d : DeploymentView) → d.progress ≡ begun rs → d.commit ≡ record { changes = []; bytes = b.bytes; opens = b.opens } → IsGathered b rs d
gathered_first b rs d begins commit = record {
  rows = ap (λ (p : Progress). all_changed p.changes rs) begins ∙ sym (ap (λ (p : Progress). p.rows) begins);
  commit = λ o T stands. record {
    changes = ap (λ (c : _). c.changes) commit ∙ sym (ap (λ (p : Progress). flat_map row_changes p.changes) begins);
    stands = subst (λ (ps : List Row). StandsFollowing d.commit o ps T) (sym (ap (λ (p : Progress). p.rows) begins))
        (subst (λ (c : _). StandsFollowing c o rs T) (sym commit) stands);
  };
}

-- with one more put they are gathered
pub gathered_more : (old new : DeploymentView) (row : Row) → new.progress ≡ with_put row old.progress → IsAdded (put_of row) old new → StaysGathered old new
gathered_more old new row put added = λ b rs gathered. record {
  rows = ap (λ (p : Progress). all_changed p.changes rs) put ∙ (changed_then old.progress.changes (put_of row ∷ []) rs ∙ (ap (with_row row) gathered.rows ∙ sym (ap (λ (p : Progress). p.rows) put)));
  commit = λ o T stands.
      let before = gathered.commit o T stands in
      record {
        changes = added.changes
            ∙ (ap (λ (cs : List StoreChange). cs ++ row_changes (put_of row)) before.changes
            ∙ (ap (λ (cs : List StoreChange). flat_map row_changes old.progress.changes ++ cs) (sym (append-nil (row_changes (put_of row))))
            ∙ (sym (flat_map-append row_changes old.progress.changes (put_of row ∷ [])) ∙ sym (ap (λ (p : Progress). flat_map row_changes p.changes) put))));
        stands = subst (λ (ps : List Row). StandsFollowing new.commit o ps T) (sym (ap (λ (p : Progress). p.rows) put)) (added.stands o T before.stands);
      };
}

-- where rows, changes and commit are as before
pub gathered_same : (old new : DeploymentView) → new.progress.rows ≡ old.progress.rows → new.progress.changes ≡ old.progress.changes → new.commit ≡ old.commit → StaysGathered old new
gathered_same old new rows changes commit = λ b rs gathered. record {
  rows = ap (λ (cs : List Change). all_changed cs rs) changes ∙ (gathered.rows ∙ sym rows);
  commit = λ o T stands.
      let before = gathered.commit o T stands in
      record {
        changes = ap (λ (c : _). c.changes) commit ∙ (before.changes ∙ sym (ap (flat_map row_changes) changes));
        stands = subst (λ (ps : List Row). StandsFollowing new.commit o ps T) (sym rows) (subst (λ (c : _). StandsFollowing c o old.progress.rows T) (sym commit) before.stands);
      };
}

pub stays_then : (a b c : DeploymentView) → StaysGathered a b → StaysGathered b c → StaysGathered a c
stays_then a b c first second = λ k rs gathered. second k rs (first k rs gathered)

-- the rows and the changes are those of before, however it is counted
pub counted_rows : (b : Bool) (p : Progress) → (counted_put b p).rows ≡ p.rows
counted_rows true p = refl
counted_rows false p = refl

pub counted_changes : (b : Bool) (p : Progress) → (counted_put b p).changes ≡ p.changes
counted_changes true p = refl
counted_changes false p = refl

-- where a change was gathered that is a put, and then the rows changed so
pub gathered_taken : (old mid inside : DeploymentView) (c : Change) → c.removes ≡ false → mid.progress ≡ record old.progress { changes = old.progress.changes ++ put_of c.row ∷ [] }
    → IsAdded c old mid → inside ≡ mid → (new : DeploymentView) → new.progress.rows ≡ changed c inside.progress.rows → new.progress ≡ record inside.progress { rows = new.progress.rows }
    → new.commit ≡ inside.commit → StaysGathered old new
gathered_taken old mid inside c puts gathers added same new rows rest commit =
    let put : c ≡ put_of c.row = put_is c puts in
    let before : inside.progress ≡ record old.progress { changes = old.progress.changes ++ put_of c.row ∷ [] } = ap (λ (d : DeploymentView). d.progress) same ∙ gathers in
    let rows_so : new.progress.rows ≡ with_row c.row old.progress.rows = rows
    ∙ (ap (λ (x : Change). changed x inside.progress.rows) put ∙ ap (λ (p : Progress). with_row c.row p.rows) before) in
    let progress : new.progress ≡ with_put c.row old.progress = rest
    ∙ (ap (λ (rs : List Row). record inside.progress { rows = rs }) rows_so ∙ ap (λ (p : Progress). record p { rows = with_row c.row old.progress.rows }) before) in
    let h = subst (λ (x : Change). IsAdded x old inside) put (subst (λ (d : DeploymentView). IsAdded c old d) (sym same) added) in
    gathered_more old new c.row progress (record {
      changes = ap (λ (v : _). v.changes) commit ∙ h.changes;
      stands = λ o T before. subst (λ (v : _). StandsFollowing v o (changed (put_of c.row) old.progress.rows) T) (sym commit) (h.stands o T before);
    })

-- ---- what becomes of a row

-- a row that changes nothing is left out
pub over_same : (old : Option Row) (row : Row) (p : Progress) → over.Same ≡ over_for old row → put_over old row p ≡ record p { same = p.same + 1 }
over_same None row p is = cc
over_same (Some old) row p is = by_test (is_unchanged old row) is
  where
    by_test : (b : Bool) → over.Same ≡ cond b over.Same over.Other
        → cond b (record p { same = p.same + 1 }) (record (with_put row p) { changed = p.changed + 1 }) ≡ record p { same = p.same + 1 }
    by_test true is = refl
    by_test false is = cc

-- a row for which there was none is new
pub over_new : (old : Option Row) (row : Row) (p : Progress) → over.Nothing ≡ over_for old row → put_over old row p ≡ counted_put true (with_put row p)
over_new None row p is = refl
over_new (Some old) row p is = by_test (is_unchanged old row) is
  where
    by_test : (b : Bool) → over.Nothing ≡ cond b over.Same over.Other
        → cond b (record p { same = p.same + 1 }) (record (with_put row p) { changed = p.changed + 1 }) ≡ counted_put true (with_put row p)
    by_test true is = cc
    by_test false is = cc

-- any other row replaces one
pub over_other : (old : Option Row) (row : Row) (p : Progress) → over.Other ≡ over_for old row → put_over old row p ≡ counted_put false (with_put row p)
over_other None row p is = cc
over_other (Some old) row p is = by_test (is_unchanged old row) is
  where
    by_test : (b : Bool) → over.Other ≡ cond b over.Same over.Other
        → cond b (record p { same = p.same + 1 }) (record (with_put row p) { changed = p.changed + 1 }) ≡ counted_put false (with_put row p)
    by_test true is = cc
    by_test false is = refl

-- what is added to one view is added to another one that is the same
pub added_by : (c : Change) (mid old new : DeploymentView) → mid ≡ old → IsAdded c mid new → IsAdded c old new
added_by c mid old new same is = subst (λ (d : DeploymentView). IsAdded c d new) same is
