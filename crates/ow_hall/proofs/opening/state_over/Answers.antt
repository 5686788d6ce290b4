use Rattle.std.proofs.Common.{◌≡◌, ◌++◌, ◌∙◌, List, [], ◌∷◌, ap, subst, sym}
use Rattle.ow_records.specs.declared.record.Record.{Record}
use Rattle.ow_records.specs.declared.ids.Id.{Id}
use Rattle.ow_records.specs.declared.unrecorded.Unrecorded.{Unrecorded}
use Rattle.ow_floor.specs.Laws.{Stands}
use Rattle.ow_floor.specs.View.{FloorView}
use Rattle.ow_floor.specs.Trace.{Opened, Resumed}
use Rattle.ow_tables.specs.Builtin.{builtin}
use Rattle.ow_tables.specs.Rows.{resumed}
use Rattle.ow_entity.specs.declared.rows.Row.{Row}
use Rattle.ow_row_text.specs.declared.item.Archive.{Archive}
use Rattle.ow_row_text.specs.declared.item.Note.{Note}
use Rattle.ow_keep.specs.Split.{parts_of}
use Rattle.ow_commits.specs.Kept.{OthersView}
use Rattle.ow_commits.specs.Opening.{abandoned, others_of}
use Rattle.ow_tenant.specs.Tenants.{pool_of}
use Rattle.ow_counts.specs.View.{CountsView, StandsFor}
use Rattle.ow_hall.proofs.Joined.{ok_of}
use Rattle.ow_hall.proofs.opening.state_over.Goals as goal

abbrev others_made : Archive → List Note → OthersView
others_made archive notes = record { archive = archive; notes = notes }

same_others : (a b : Archive) (ns ms : List Note) → a ≡ b → ns ≡ ms → others_made a ns ≡ others_made b ms
same_others a b ns ms same are = ap (λ (x : Archive). others_made x ns) same ∙ ap (λ (xs : List Note). others_made b xs) are

pub returns : goal.returns
returns c =
    let t = c.args.tenants.now in
    let last = c.in_ok-floor-2.ensures.0 in
    let floor = c.of.ensures.floor ∙ (ap (λ x. x.0) last ∙ ap (λ x. x.0) c.in_ok-floor.ensures.0) in
    let tables = ap (λ x. x.1) last in
    let notes : c.in_ok-floor-2.notes.items ≡ c.args.kept.notes.items = ap (λ x. x.2.items) last
    ∙ (ap (λ x. x.1.items) c.in_ok-floor.ensures.0 ∙ (ap (λ x. x.1.items) c.in_ok-entities.ensures.0 ∙ ap (λ x. x.2.items) c.in_ok-counts.ensures.0)) in
    let counts = ap (λ x. x.0.items) c.in_ok-counts.ensures.0 in
    let records = ok_of _ c.with_abandoned-recorded.result c.in_ok-counts.records c.in_ok-counts.ensures.1 c.with_abandoned-recorded.ensures
    ∙ ap (λ (us : List Unrecorded). c.args.kept.records.items ++ abandoned c.args.at us) c.deref.ensures.value in
    record {
      over = record {
        stands = subst (λ (f : FloorView). Stands f.now (Resumed c.args.kept.counts.items (c.args.kept.records.items ++ abandoned c.args.at c.args.kept.unrecorded.items) ∷ Opened (pool_of t) t.wants ∷ [])) (sym floor)
            (subst (λ (ids : List Id). Stands c.in_ok-entities.floor.now (Resumed ids (c.args.kept.records.items ++ abandoned c.args.at c.args.kept.unrecorded.items) ∷ Opened (pool_of t) t.wants ∷ [])) counts
            (subst (λ (rs : List Record). Stands c.in_ok-entities.floor.now (Resumed c.in_ok-counts.counts.items rs ∷ Opened (pool_of t) t.wants ∷ [])) records
            (ok_of _ c.floor_over-resumed.result c.in_ok-entities.floor c.in_ok-entities.ensures.1 c.floor_over-resumed.ensures.stands)));
        free = ap (λ (f : FloorView). f.before) floor ∙ ok_of _ c.floor_over-resumed.result c.in_ok-entities.floor c.in_ok-entities.ensures.1 c.floor_over-resumed.ensures.free;
        rows = c.of.ensures.rows ∙ (ap (λ x. x.rows) tables ∙ (ok_of _ c.tables_over.result c.in_ok-floor.tables c.in_ok-floor.ensures.1 c.tables_over.ensures
            ∙ ap (λ (rs : List Row). resumed rs builtin) (ap (λ x. x.0.items) c.in_ok-entities.ensures.0 ∙ ap (λ x. x.1.items) c.in_ok-counts.ensures.0)));
        waits = c.of.ensures.waits;
        others = c.of.ensures.others ∙ same_others c.archive_of-archive.result (others_of (parts_of c.args.kept)).archive c.in_ok-floor-2.notes.items c.args.kept.notes.items c.archive_of-archive.ensures notes;
        counts = subst (λ (k : CountsView). StandsFor k []) (sym c.of.ensures.counts) (ok_of _ c.new.result c.in_ok-floor-2.limits c.in_ok-floor-2.ensures.1 c.new.ensures);
      };
    }
