-- A deployment adds nothing to what happened, and its changes make its rows.
use Rattle.std.proofs.Common.{◌≡◌, ◌++◌, ◌+◌, ◌∙◌, ℕ, Bool, true, false, cond, not, List, [], ◌∷◌, Option, Some, None, Result, Ok, Err, IfOk, refl, sym, ap, subst}
use Rattle.std.specs.List.{AllByRecursion, flat_map}
use Rattle.ow_entity.specs.Finish.{finished_row}
use Rattle.ow_entity.specs.Row.{draft_name}
use Rattle.ow_entity.specs.declared.refusal.EntityRefusal.{EntityRefusal}
use Rattle.ow_entity.specs.declared.rows.Draft.{Draft}
use Rattle.ow_entity.specs.declared.rows.Row.{Row}
use Rattle.ow_floor.specs.Trace.{Trace}
use Rattle.ow_commits.specs.Commits.{row_changes}
use Rattle.ow_http.specs.Steps.{◌>>=◌}
use Rattle.ow_http.specs.declared.reason.Reason.{Reason}
use Rattle.ow_row_text.specs.Unchanged.{is_unchanged}
use Rattle.ow_tables.specs.Contents.{Change}
use Rattle.ow_tables.specs.Refusal.{old_row, put_refusal}
use Rattle.ow_tables.specs.declared.refusal.TableRefusal.{TableRefusal}
use Rattle.ow_tables.specs.Rows.{changed, with_row}
use Rattle.ow_reads.specs.Reasons.{not_granted}
use Rattle.ow_reads.specs.Steps.{unless}
use Rattle.ow_tenant.specs.Table.{Table}
use Rattle.ow_tenant.specs.Tenants.{is_listed}
use Rattle.ow_decide.specs.Asking.{or_table_reason, put_of, unless_refused}
use Rattle.ow_decide.specs.Decision.{all_changed}
use Rattle.ow_decide.specs.Deploying.{Progress, Refusal, all_put, at_place, begun, deploy_decision, deployed, drafted_row, put_drafts, put_over, stored, with_put}
use Rattle.ow_decide.specs.Sight.{Sight, room_for, store_room}

-- ---- what happened

deploy_items : (r : Result Progress Refusal) → (deploy_decision r).items ≡ []
deploy_items (Ok p) = refl
deploy_items (Err refusal) = refl

-- what is true of no items is true of those of a deployment
pub deploy_adds : (P : Trace → Type 0) (r : Result Progress Refusal) → P [] → P (deploy_decision r).items
deploy_adds P r none = subst P (sym (deploy_items r)) none

-- ---- the changes make the rows

changed_then : (cs ds : List Change) (rs : List Row) → all_changed (cs ++ ds) rs ≡ all_changed ds (all_changed cs rs)
changed_then [] ds rs = refl
changed_then (c ∷ cs) ds rs = changed_then cs ds (changed c rs)

put_makes : (row : Row) (p : Progress) (rs : List Row) → all_changed p.changes rs ≡ p.rows → all_changed (with_put row p).changes rs ≡ (with_put row p).rows
put_makes row p rs same = changed_then p.changes (put_of row ∷ []) rs ∙ ap (with_row row) same

over_makes : (old : Option Row) (row : Row) (p : Progress) (rs : List Row) → all_changed p.changes rs ≡ p.rows → all_changed (put_over old row p).changes rs ≡ (put_over old row p).rows
over_makes None row p rs same = put_makes row p rs same
over_makes (Some old) row p rs same = by_test (is_unchanged old row)
  where
    by_test : (b : Bool) → all_changed (cond b (record p { same = p.same + 1 }) (record (with_put row p) { changed = p.changed + 1 })).changes rs
        ≡ (cond b (record p { same = p.same + 1 }) (record (with_put row p) { changed = p.changed + 1 })).rows
    by_test true = same
    by_test false = put_makes row p rs same

drafted_by : (listed : Result (Unit {0}) Reason) (refused : Option TableRefusal) (made : Result Row EntityRefusal) (row : Row)
    → (listed >>= (λ (u : Unit {0}). unless_refused refused >>= (λ (v : Unit {0}). or_table_reason made))) ≡ Ok row → (refused ≡ None) × (made ≡ Ok row)
drafted_by (Ok u) None (Ok r) row is = (refl, cc)
drafted_by (Ok u) None (Err e) row is = cc
drafted_by (Ok u) (Some e) made row is = cc
drafted_by (Err reason) refused made row is = cc

drafted_from : (unlisted : Bool) (refused : Option TableRefusal) (made : Result Row EntityRefusal) (row : Row) → unlisted ≡ false → refused ≡ None → made ≡ Ok row
    → (unless unlisted not_granted >>= (λ (u : Unit {0}). unless_refused refused >>= (λ (v : Unit {0}). or_table_reason made))) ≡ Ok row
drafted_from unlisted refused made row listed free is = rw (listed, free, is) refl

-- the row of a draft in a listed namespace, whose put is not refused
pub drafted_so : (t : Table) (rs : List Row) (d : Draft) (row : Row) → not (is_listed (draft_name d).namespace t) ≡ false → put_refusal d true rs ≡ None
    → finished_row d (old_row d rs) ≡ Ok row → drafted_row t rs d ≡ Ok row
drafted_so t rs d row listed free is = drafted_from (not (is_listed (draft_name d).namespace t)) (put_refusal d true rs) (finished_row d (old_row d rs)) row listed free is

-- the put of a draft whose row is put is not refused, and the draft makes the row
pub drafted_parts : (t : Table) (rs : List Row) (d : Draft) (row : Row) → drafted_row t rs d ≡ Ok row → (put_refusal d true rs ≡ None) × (finished_row d (old_row d rs) ≡ Ok row)
drafted_parts t rs d row is = drafted_by (unless (not (is_listed (draft_name d).namespace t)) not_granted) (put_refusal d true rs) (finished_row d (old_row d rs)) row is

-- what a put over the rows keeps, with its changes, is kept by all drafts
pub drafts_keep : (G : Draft → Type 0) (P : Progress → Type 0) (t : Table)
    → ((d : Draft) (row : Row) (p : Progress) → G d → P p → drafted_row t p.rows d ≡ Ok row → P (put_over (old_row d p.rows) row p))
    → (place : ℕ) (ds : List Draft) (p : Progress) → AllByRecursion G ds → P p → IfOk (put_drafts t place ds p) P
drafts_keep G P t keeps place [] p given start = start
drafts_keep G P t keeps place (d ∷ ds) p given start =
    by_row (drafted_row t p.rows d) refl
    (λ row is. drafts_keep G P t keeps (place + 1) ds (put_over (old_row d p.rows) row p) given.1 (keeps d row p given.0 start is))
  where
    by_row : (r : Result Row Reason) → drafted_row t p.rows d ≡ r
        → ((row : Row) → drafted_row t p.rows d ≡ Ok row → IfOk (put_drafts t (place + 1) ds (put_over (old_row d p.rows) row p)) P)
        → IfOk (at_place place r >>= (λ (row : Row). put_drafts t (place + 1) ds (put_over (old_row d p.rows) row p))) P
    by_row (Err reason) is more = tt
    by_row (Ok row) is more = more row is

any_draft : (ds : List Draft) → AllByRecursion (λ (d : Draft). Unit {0}) ds
any_draft [] = tt
any_draft (d ∷ ds) = (tt, any_draft ds)

-- the changes of the drafts, made of the rows that were there before, make the rows after them
pub drafts_make : (t : Table) (place : ℕ) (ds : List Draft) (rs : List Row) → IfOk (put_drafts t place ds (begun rs)) (λ p. all_changed p.changes rs ≡ p.rows)
drafts_make t place ds rs =
    drafts_keep (λ (d : Draft). Unit {0}) (λ (p : Progress). all_changed p.changes rs ≡ p.rows) t (λ d row p given same is. over_makes (old_row d p.rows) row p rs same) place ds (begun rs) (any_draft ds) refl

-- ---- the decision

-- what is true of the rows before, and of the rows after all drafts were put, is true of the rows after the decision
pub deploy_rows : (P : List Row → Type 0) (S : Sight) (ds : List Draft) → P S.rows → IfOk (put_drafts S.tenants 1 ds (begun S.rows)) (λ p. P p.rows)
    → P (all_changed (deploy_decision (deployed S ds)).changes S.rows)
deploy_rows P S ds before after = by_room (room_for S 0)
  where
    by_store : (r : Result (Unit {0}) Reason) (p : Progress) → P (all_changed p.changes S.rows) → P (all_changed (deploy_decision (at_place 0 r >>= (λ (room : Unit {0}). Ok p))).changes S.rows)
    by_store (Ok u) p good = good
    by_store (Err reason) p good = before

    by_put : (r : Result Progress Refusal) → IfOk r (λ p. P p.rows) → IfOk r (λ p. all_changed p.changes S.rows ≡ p.rows)
        → P (all_changed (deploy_decision (r >>= (λ (p : Progress). stored S p))).changes S.rows)
    by_put (Ok p) good make = by_store (store_room S (flat_map row_changes p.changes)) p (subst P (sym make) good)
    by_put (Err refusal) good make = before

    by_room : (r : Result (Unit {0}) Reason) → P (all_changed (deploy_decision (at_place 0 r >>= (λ (room : Unit {0}). all_put S ds))).changes S.rows)
    by_room (Ok u) = by_put (put_drafts S.tenants 1 ds (begun S.rows)) after (drafts_make S.tenants 1 ds S.rows)
    by_room (Err reason) = before
