-- Drafts that are put one after another.
use Rattle.std.proofs.Common.{◌≡◌, ◌≤◌, ◌<◌, ◌+◌, ◌++◌, ◌∙◌, ℕ, zero, suc, true, false, not, IfOk, List, [], ◌∷◌, Option, Some, None, Result, Ok, Err, drop, drop-cons, get_or, add-one, length, refl, sym, ap, subst, arith}
use Rattle.ow_names.specs.declared.full.FullName.{FullName}
use Rattle.ow_entity.specs.Finish.{finished_row}
use Rattle.ow_entity.specs.Row.{draft_kind, draft_name, kind_of, name_of}
use Rattle.ow_entity.specs.declared.kinds.EntityKind.{EntityKind}
use Rattle.ow_entity.specs.declared.rows.Draft.{Draft}
use Rattle.ow_entity.specs.declared.rows.Row.{Row}
use Rattle.ow_http.specs.Steps.{◌>>=◌}
use Rattle.ow_http.specs.declared.reason.Reason.{Reason}
use Rattle.ow_tables.specs.Refusal.{old_row, put_refusal}
use Rattle.ow_tables.specs.Rows.{found}
use Rattle.ow_tenant.specs.Table.{Table}
use Rattle.ow_tenant.specs.Tenants.{is_listed}
use Rattle.ow_decide.specs.Deploying.{Progress, Refusal, at_place, drafted_row, put_drafts, put_over}
use Rattle.ow_decide.specs.Deployment.{IsPut}
use Rattle.ow_decide.proofs.DeployLaws.{drafted_so}
use Rattle.ow_decide.proofs.Finished.{finished_kind, finished_named}

-- ---- one draft

ok_of : {A E : Type 0} (P : A → Type 0) (r : Result A E) (x : A) → r ≡ Ok x → IfOk r P → P x
ok_of P r x is h = subst (λ (y : Result _ _). IfOk y P) is h

old_so : (d : Draft) (rs : List Row) (row : Row) → finished_row d (old_row d rs) ≡ Ok row → found (kind_of row) (name_of row) rs ≡ old_row d rs
old_so d rs row is =
    let kind = ok_of (λ (r : Row). kind_of r ≡ draft_kind d) (finished_row d (old_row d rs)) row is (finished_kind d (old_row d rs)) in
    let name = ok_of (λ (r : Row). name_of r ≡ draft_name d) (finished_row d (old_row d rs)) row is (finished_named d (old_row d rs)) in
    ap (λ (k : EntityKind). found k (name_of row) rs) kind ∙ ap (λ (n : FullName). found (draft_kind d) n rs) name

-- a draft whose copy was made ready over these rows, and whose row was put over the row of its own kind and name, was put
pub put_of_draft : (t : Table) (old mid after : Progress) (d copy : Draft) (row : Row) (rs : List Row) → copy ≡ d → rs ≡ old.rows → mid ≡ old
    → not (is_listed (draft_name d).namespace t) ≡ false → put_refusal copy true rs ≡ None → finished_row copy (old_row copy rs) ≡ Ok row
    → after ≡ put_over (found (kind_of row) (name_of row) mid.rows) row mid → IsPut (Ok tt) (drafted_row t old.rows d) (old_row d old.rows) old after
put_of_draft t old mid after d copy row rs copied rows same listed free is put =
    let made : finished_row d (old_row d old.rows) ≡ Ok row =
    subst (λ (x : List Row). finished_row d (old_row d x) ≡ Ok row) rows (subst (λ (x : Draft). finished_row x (old_row x rs) ≡ Ok row) copied is) in
    let unrefused : put_refusal d true old.rows ≡ None = subst (λ (x : List Row). put_refusal d true x ≡ None) rows (subst (λ (x : Draft). put_refusal x true rs ≡ None) copied free) in
    let over : after ≡ put_over (found (kind_of row) (name_of row) old.rows) row old = put ∙ ap (λ (p : Progress). put_over (found (kind_of row) (name_of row) p.rows) row p) same in
    (row, (drafted_so t old.rows d row listed unrefused made, over ∙ ap (λ (o : Option Row). put_over o row old) (old_so d old.rows row made)))

-- ---- all drafts

next_of : (ds : List Draft) (i : ℕ) (d : Draft) → i < length ds → d ≡ get_or ds i d → drop i ds ≡ d ∷ drop (i + 1) ds
next_of ds i d h is = drop-cons ds i d h ∙ (ap (λ (x : Draft). x ∷ drop (suc i) ds) (sym is) ∙ ap (λ (n : ℕ). d ∷ drop n ds) (sym (add-one i)))

none_left : (ds : List Draft) (i : ℕ) → length ds ≤ i → drop i ds ≡ []
none_left [] zero past = refl
none_left [] (suc i) past = refl
none_left (d ∷ ds) zero past = absurd (omega (arith, past))
none_left (d ∷ ds) (suc i) past = none_left ds i (omega (arith, past))

put_on : (t : Table) (place : ℕ) (d : Draft) (ds : List Draft) (p : Progress) (r : Result Row Reason) → drafted_row t p.rows d ≡ r
    → put_drafts t place (d ∷ ds) p ≡ (at_place place r >>= (λ (row : Row). put_drafts t (place + 1) ds (put_over (old_row d p.rows) row p)))
put_on t place d ds p r is = ap (λ (x : Result Row Reason). at_place place x >>= (λ (row : Row). put_drafts t (place + 1) ds (put_over (old_row d p.rows) row p))) is

-- after a draft that was put the others are put over what it left
pub put_next : (t : Table) (ds : List Draft) (i place : ℕ) (d : Draft) (p after : Progress) (all : Result Progress Refusal) → i < length ds → d ≡ get_or ds i d
    → IsPut (Ok tt) (drafted_row t p.rows d) (old_row d p.rows) p after → all ≡ put_drafts t place (drop i ds) p → all ≡ put_drafts t (place + 1) (drop (i + 1) ds) after
put_next t ds i place d p after all h is (row, (drafted, put)) so_far =
    so_far ∙ (ap (λ (xs : List Draft). put_drafts t place xs p) (next_of ds i d h is)
    ∙ (put_on t place d (drop (i + 1) ds) p (Ok row) drafted ∙ ap (λ (q : Progress). put_drafts t (place + 1) (drop (i + 1) ds) q) (sym put)))

-- a draft that is refused ends them
pub put_ends : (t : Table) (ds : List Draft) (i place : ℕ) (d : Draft) (p : Progress) (reason : Reason) (all : Result Progress Refusal) → i < length ds → d ≡ get_or ds i d
    → drafted_row t p.rows d ≡ Err reason → all ≡ put_drafts t place (drop i ds) p → all ≡ Err (place, reason)
put_ends t ds i place d p reason all h is refused so_far =
    so_far ∙ (ap (λ (xs : List Draft). put_drafts t place xs p) (next_of ds i d h is) ∙ put_on t place d (drop (i + 1) ds) p (Err reason) refused)

-- after the last draft
pub put_done : (t : Table) (ds : List Draft) (i place : ℕ) (p : Progress) (all : Result Progress Refusal) → length ds ≤ i → all ≡ put_drafts t place (drop i ds) p → all ≡ Ok p
put_done t ds i place p all past so_far = so_far ∙ ap (λ (xs : List Draft). put_drafts t place xs p) (none_left ds i past)
