-- Drafts leave the rows that none of them names, and change nothing where they are put a second time.
use Rattle.std.proofs.Common.{◌≡◌, ◌+◌, ◌∙◌, ℕ, Bool, true, false, cond, List, [], ◌∷◌, length, map, find, IfOk, Option, Some, None, Result, Ok, Err, refl, sym, ap, ap₂, subst, arith}
use Rattle.std.specs.List.{AllByRecursion}
use Rattle.std.specs.Str.{bytes_eq}
use Rattle.std.proofs.lemmas.Map.Keys.{IsDistinct-head, IsDistinct-tail}
use Rattle.std.proofs.lemmas.Slice.Eq.{bytes_eq-Decides}
use Rattle.ow_entity.specs.Finish.{finished_row}
use Rattle.ow_entity.specs.Row.{draft_kind, draft_name, kind_of, name_of, version_of, with_version}
use Rattle.ow_entity.specs.declared.rows.Draft.{Draft}
use Rattle.ow_entity.specs.declared.rows.Row.{Row}
use Rattle.ow_http.specs.Steps.{◌>>=◌}
use Rattle.ow_http.specs.declared.reason.Reason.{Reason}
use Rattle.ow_row_text.specs.Item.{item_text}
use Rattle.ow_row_text.specs.Unchanged.{is_unchanged}
use Rattle.ow_row_text.specs.declared.item.Item.TheVariants as items
use Rattle.ow_tables.specs.Refusal.{old_row}
use Rattle.ow_tables.specs.Rows.{found, key, key_of, with_row}
use Rattle.ow_tables.proofs.Found.{put_finds}
use Rattle.ow_tenant.specs.Table.{Table}
use Rattle.ow_decide.specs.Deploying.{Progress, at_place, begun, drafted_row, put_drafts, put_over, with_put}
use Rattle.ow_decide.proofs.DeployLaws.{drafted_parts, drafts_keep}
use Rattle.ow_decide.proofs.Finished.{finished_kind, finished_named}
use Rattle.ow_decide.proofs.Results.{if_ok_both, if_ok_map}
use Rattle.ow_hall.proofs.Joined.{ok_of}
use Rattle.ow_restart_laws.specs.Deployments.{AreDistinct, DraftsLeaveOtherRows, RepeatedDraftsChangeNothing, draft_key, unchanged_by}
use Rattle.ow_restart_laws.proofs.FinishLaws.{StaysRow, made_stays}

-- the row of the key
abbrev row_at : List ℕ → List Row → Option Row
row_at k rs = find (λ (r : Row). bytes_eq k (key_of r)) rs

-- a draft makes a row of its key
made_key : (d : Draft) (old : Option Row) → IfOk (finished_row d old) (λ (r : Row). key_of r ≡ draft_key d)
made_key d old =
    if_ok_both (finished_row d old) (λ (r : Row). kind_of r ≡ draft_kind d) (λ (r : Row). name_of r ≡ draft_name d) (λ (r : Row). key_of r ≡ draft_key d) (λ r k n. ap₂ key k n)
    (finished_kind d old) (finished_named d old)

key_made : (d : Draft) (old : Option Row) (row : Row) → finished_row d old ≡ Ok row → key_of row ≡ draft_key d
key_made d old row made = ok_of (λ (r : Row). key_of r ≡ draft_key d) (finished_row d old) row made (made_key d old)

-- ---- other rows

put_leaves : (k : List ℕ) (row : Row) (rs : List Row) → bytes_eq k (key_of row) ≡ false → row_at k (with_row row rs) ≡ row_at k rs
put_leaves k row rs apart = put_finds k row rs ∙ ap (λ (b : Bool). cond b (Some row) (row_at k rs)) apart

over_leaves : (k : List ℕ) (old : Option Row) (row : Row) (p : Progress) → bytes_eq k (key_of row) ≡ false → row_at k (put_over old row p).rows ≡ row_at k p.rows
over_leaves k None row p apart = put_leaves k row p.rows apart
over_leaves k (Some old) row p apart = by_test (is_unchanged old row)
  where
    by_test : (b : Bool) → row_at k (cond b (record p { same = p.same + 1 }) (record (with_put row p) { changed = p.changed + 1 })).rows ≡ row_at k p.rows
    by_test true = refl
    by_test false = put_leaves k row p.rows apart

-- what is found under a key that no draft has is found after the drafts
pub drafts_leave : (k : List ℕ) (t : Table) (place : ℕ) (ds : List Draft) (p : Progress) → AllByRecursion (λ (d : Draft). bytes_eq k (draft_key d) ≡ false) ds
    → IfOk (put_drafts t place ds p) (λ q. row_at k q.rows ≡ row_at k p.rows)
drafts_leave k t place ds p apart =
    drafts_keep (λ (d : Draft). bytes_eq k (draft_key d) ≡ false) (λ (q : Progress). row_at k q.rows ≡ row_at k p.rows) t one place ds p apart refl
  where
    one : (d : Draft) (row : Row) (q : Progress) → bytes_eq k (draft_key d) ≡ false → row_at k q.rows ≡ row_at k p.rows → drafted_row t q.rows d ≡ Ok row
        → row_at k (put_over (old_row d q.rows) row q).rows ≡ row_at k p.rows
    one d row q other same is =
        over_leaves k (old_row d q.rows) row q (ap (bytes_eq k) (key_made d (old_row d q.rows) row (drafted_parts t q.rows d row is).1) ∙ other) ∙ same

pub others_left : DraftsLeaveOtherRows
others_left t place ds p q kind name unnamed is =
    ok_of (λ (x : Progress). found kind name x.rows ≡ found kind name p.rows) (put_drafts t place ds p) q is (drafts_leave (key kind name) t place ds p unnamed)

-- ---- a draft that has been put

-- there is an old row, and the new one differs from it in its version alone
abbrev IsSame : Option Row → Row → Type 0
IsSame None row = ⊥
IsSame (Some old) row = is_unchanged old row ≡ true

-- the draft would be left out over this row
abbrev IsSettledOver : Draft → Option Row → Type 0
IsSettledOver d old = IfOk (finished_row d old) (IsSame old)

-- it would be left out over the row of its kind and name
abbrev IsSettled : List Row → Draft → Type 0
IsSettled rs d = IsSettledOver d (old_row d rs)

same_row : (r s : Row) → with_version (version_of s) r ≡ s → is_unchanged r s ≡ true
same_row r s e =
    ap (λ (x : Row). bytes_eq (item_text (items.Row x)) (item_text (items.Row s))) e ∙ (bytes_eq-Decides (item_text (items.Row s)) (item_text (items.Row s))).1 refl

settled_put : (d : Draft) (old : Option Row) (row : Row) → finished_row d old ≡ Ok row → IsSettledOver d (Some row)
settled_put d old row made =
    if_ok_map (finished_row d (Some row)) (λ (s : Row). with_version (version_of s) row ≡ s) (λ (s : Row). is_unchanged row s ≡ true) (same_row row)
    (ok_of (StaysRow d) (finished_row d old) row made (made_stays d old))

settled_same : (d : Draft) (old row : Row) → finished_row d (Some old) ≡ Ok row → is_unchanged old row ≡ true → IsSettledOver d (Some old)
settled_same d old row made same = subst (λ r. IfOk r (IsSame (Some old))) (sym made) same

own_row : (d : Draft) (old : Option Row) (row : Row) (rs : List Row) → finished_row d old ≡ Ok row → old_row d (with_row row rs) ≡ Some row
own_row d old row rs made =
    let own : bytes_eq (draft_key d) (key_of row) ≡ true = (bytes_eq-Decides (draft_key d) (key_of row)).1 (sym (key_made d old row made)) in
    put_finds (draft_key d) row rs ∙ ap (λ (b : Bool). cond b (Some row) (row_at (draft_key d) rs)) own

-- a draft that was put, or left out, would be left out the next time
settled_over : (d : Draft) (row : Row) (p : Progress) → finished_row d (old_row d p.rows) ≡ Ok row → IsSettled (put_over (old_row d p.rows) row p).rows d
settled_over d row p is = by_old (old_row d p.rows) refl is
  where
    after_put : (old : Option Row) → finished_row d old ≡ Ok row → IsSettled (with_row row p.rows) d
    after_put old made = subst (IsSettledOver d) (sym (own_row d old row p.rows made)) (settled_put d old row made)

    by_test : (old : Row) → old_row d p.rows ≡ Some old → finished_row d (Some old) ≡ Ok row → (b : Bool) → is_unchanged old row ≡ b
        → IsSettled (cond b (record p { same = p.same + 1 }) (record (with_put row p) { changed = p.changed + 1 })).rows d
    by_test old stands made true same = subst (IsSettledOver d) (sym stands) (settled_same d old row made same)
    by_test old stands made false differs = after_put (Some old) made

    by_old : (old : Option Row) → old_row d p.rows ≡ old → finished_row d old ≡ Ok row → IsSettled (put_over old row p).rows d
    by_old None stands made = after_put None made
    by_old (Some old) stands made = by_test old stands made (is_unchanged old row) refl

-- ---- all drafts

of_keys : (P : List ℕ → Type 0) (ds : List Draft) → AllByRecursion P (map draft_key ds) → AllByRecursion (λ (d : Draft). P (draft_key d)) ds
of_keys P [] h = tt
of_keys P (d ∷ ds) h = (h.0, of_keys P ds h.1)

-- once all are put, each would be left out
drafts_settle : (t : Table) (place : ℕ) (ds : List Draft) (p : Progress) → AreDistinct ds → IfOk (put_drafts t place ds p) (λ q. AllByRecursion (IsSettled q.rows) ds)
drafts_settle t place [] p distinct = tt
drafts_settle t place (d ∷ ds) p distinct =
    by_row (drafted_row t p.rows d) refl
    (λ row. drafts_settle t (place + 1) ds (put_over (old_row d p.rows) row p) (IsDistinct-tail bytes_eq (draft_key d) (map draft_key ds) distinct))
  where
    apart : AllByRecursion (λ (e : Draft). bytes_eq (draft_key d) (draft_key e) ≡ false) ds
    apart = of_keys (λ (k : List ℕ). bytes_eq (draft_key d) k ≡ false) ds (IsDistinct-head bytes_eq (draft_key d) (map draft_key ds) distinct)

    rest : (row : Row) → finished_row d (old_row d p.rows) ≡ Ok row
        → IfOk (put_drafts t (place + 1) ds (put_over (old_row d p.rows) row p)) (λ q. AllByRecursion (IsSettled q.rows) ds)
        → IfOk (put_drafts t (place + 1) ds (put_over (old_row d p.rows) row p)) (λ q. AllByRecursion (IsSettled q.rows) (d ∷ ds))
    rest row made more =
        let p1 = put_over (old_row d p.rows) row p in
        if_ok_both (put_drafts t (place + 1) ds p1) (λ (q : Progress). old_row d q.rows ≡ old_row d p1.rows) (λ (q : Progress). AllByRecursion (IsSettled q.rows) ds)
        (λ (q : Progress). AllByRecursion (IsSettled q.rows) (d ∷ ds))
        (λ q left all. (subst (IsSettledOver d) (sym left) (settled_over d row p made), all))
        (drafts_leave (draft_key d) t (place + 1) ds p1 apart) more

    by_row : (r : Result Row Reason) → drafted_row t p.rows d ≡ r
        → ((row : Row) → IfOk (put_drafts t (place + 1) ds (put_over (old_row d p.rows) row p)) (λ q. AllByRecursion (IsSettled q.rows) ds))
        → IfOk (at_place place r >>= (λ (row : Row). put_drafts t (place + 1) ds (put_over (old_row d p.rows) row p))) (λ q. AllByRecursion (IsSettled q.rows) (d ∷ ds))
    by_row (Err reason) is more = tt
    by_row (Ok row) is more = rest row (drafted_parts t p.rows d row is).1 (more row)

-- drafts that would each be left out are left out
drafts_repeat : (t : Table) (place : ℕ) (ds : List Draft) (p : Progress) → AllByRecursion (IsSettled p.rows) ds
    → IfOk (put_drafts t place ds p) (λ q. q ≡ record p { same = p.same + length ds })
drafts_repeat t place [] p settled = let e : p.same ≡ p.same + 0 = omega arith in ap (λ (n : ℕ). record p { same = n }) e
drafts_repeat t place (d ∷ ds) p settled = by_row (drafted_row t p.rows d) refl (counted (drafts_repeat t (place + 1) ds (record p { same = p.same + 1 }) settled.1))
  where
    counted : IfOk (put_drafts t (place + 1) ds (record p { same = p.same + 1 })) (λ q. q ≡ record p { same = (p.same + 1) + length ds })
        → IfOk (put_drafts t (place + 1) ds (record p { same = p.same + 1 })) (λ q. q ≡ record p { same = p.same + length (d ∷ ds) })
    counted more =
        let sum : (p.same + 1) + length ds ≡ p.same + length (d ∷ ds) = omega arith in
        if_ok_map (put_drafts t (place + 1) ds (record p { same = p.same + 1 })) (λ (q : Progress). q ≡ record p { same = (p.same + 1) + length ds })
        (λ (q : Progress). q ≡ record p { same = p.same + length (d ∷ ds) }) (λ q e. e ∙ ap (λ (n : ℕ). record p { same = n }) sum) more

    by_test : (row : Row) (b : Bool) → b ≡ true → IfOk (put_drafts t (place + 1) ds (record p { same = p.same + 1 })) (λ q. q ≡ record p { same = p.same + length (d ∷ ds) })
        → IfOk (put_drafts t (place + 1) ds (cond b (record p { same = p.same + 1 }) (record (with_put row p) { changed = p.changed + 1 })))
        (λ q. q ≡ record p { same = p.same + length (d ∷ ds) })
    by_test row true same more = more
    by_test row false same more = let f : ⊥ = cc in absurd f

    by_old : (old : Option Row) (row : Row) → IsSame old row
        → IfOk (put_drafts t (place + 1) ds (record p { same = p.same + 1 })) (λ q. q ≡ record p { same = p.same + length (d ∷ ds) })
        → IfOk (put_drafts t (place + 1) ds (put_over old row p)) (λ q. q ≡ record p { same = p.same + length (d ∷ ds) })
    by_old None row same more = absurd same
    by_old (Some old) row same more = by_test row (is_unchanged old row) same more

    by_row : (r : Result Row Reason) → drafted_row t p.rows d ≡ r
        → IfOk (put_drafts t (place + 1) ds (record p { same = p.same + 1 })) (λ q. q ≡ record p { same = p.same + length (d ∷ ds) })
        → IfOk (at_place place r >>= (λ (row : Row). put_drafts t (place + 1) ds (put_over (old_row d p.rows) row p))) (λ q. q ≡ record p { same = p.same + length (d ∷ ds) })
    by_row (Err reason) is more = tt
    by_row (Ok row) is more =
        by_old (old_row d p.rows) row
        (ok_of (IsSame (old_row d p.rows)) (finished_row d (old_row d p.rows)) row (drafted_parts t p.rows d row is).1 settled.0) more

-- under any two office tables
pub drafts_unchanged : (t u : Table) (rs : List Row) (ds : List Draft) (p q : Progress) → AreDistinct ds
    → put_drafts t 1 ds (begun rs) ≡ Ok p → put_drafts u 1 ds (begun p.rows) ≡ Ok q → q ≡ unchanged_by ds p.rows
drafts_unchanged t u rs ds p q distinct first second =
    let settled = ok_of (λ (x : Progress). AllByRecursion (IsSettled x.rows) ds) (put_drafts t 1 ds (begun rs)) p first (drafts_settle t 1 ds (begun rs) distinct) in
    let none : 0 + length ds ≡ length ds = omega arith in
    ok_of (λ (x : Progress). x ≡ record (begun p.rows) { same = 0 + length ds }) (put_drafts u 1 ds (begun p.rows)) q second (drafts_repeat u 1 ds (begun p.rows) settled)
    ∙ ap (λ (n : ℕ). record (begun p.rows) { same = n }) none

pub repeated_drafts : RepeatedDraftsChangeNothing
repeated_drafts t rs ds p q distinct first second = drafts_unchanged t t rs ds p q distinct first second
