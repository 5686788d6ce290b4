use Rattle.std.proofs.Common.{◌≡◌, ◌≤◌, ◌++◌, ◌∷◌, [], ℕ, List, refl, subst}
use Rattle.std.specs.List.{AllByRecursion}
use Rattle.std.specs.Map.{keys_of}
use Rattle.std.specs.Map.Iter.{deref_pair}
use Rattle.std.proofs.lemmas.List.{append-nil}
use Rattle.std.proofs.lemmas.Map.Iter.{rest_all, rest_more}
use Rattle.ow_usage.specs.Cells.{Cells}
use Rattle.ow_usage.specs.Text.{IsRows, ShowsAll, cell_row}
use Rattle.ow_usage.proofs.TextLaws.{shown_more}
use Rattle.ow_usage.proofs.text.rows_of.Goals as goal

pub loop-place-preserved : goal.loop-place-preserved
loop-place-preserved c =
    let s = rest_more deref_pair _ _ _ _ c.in-Some.is c.next.ensures.steps in
    let line = c.in_ok-put_row.ensures in
    record {
      so_far = shown_more cell_row (IsRows c.args.cells.now) (c.in-Some.place.now, c.in-Some.totals.now) c.next.new.self _ _ line.0 line.1 line.2
          (subst (λ (xs : Cells). (text : List ℕ) → ShowsAll cell_row xs text → IsRows c.args.cells.now (c.loop-place.out.items ++ text)) s c.loop-place.invariant.so_far);
      days = (subst (λ (xs : Cells). AllByRecursion (λ p. p.0 ≤ 2932896) (keys_of xs)) s c.loop-place.invariant.days).1;
    }

pub returns : goal.returns
returns c =
    let end = rest_all deref_pair _ _ _ c.in-None.is c.next.ensures.steps in
    let shown =
    subst (λ (xs : Cells). (text : List ℕ) → ShowsAll cell_row xs text → IsRows c.args.cells.now (c.loop-place.out.items ++ text)) end c.loop-place.invariant.so_far [] refl in
    subst (IsRows c.args.cells.now) (append-nil _) shown
