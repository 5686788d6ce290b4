use Rattle.std.proofs.Common.{◌≡◌, IfOk, subst, sym}
use Rattle.std.proofs.lemmas.Result.{IfOk-weaker}
use Rattle.ow_http.specs.Request.{parts_of}
use Rattle.ow_reads.specs.Reading.{read_value, shown_of}
use Rattle.ow_reads.specs.View.{AreOnce, view_over}
use Rattle.ow_reads.specs.declared.acts.Reading.{Reading}
use Rattle.ow_reads.proofs.reads.shown.Goals as goal

pub returns-in-Rows : goal.returns-in-Rows
returns-in-Rows c = subst (λ (x : Reading). IfOk c.listed.result (λ r. AreOnce c.args.records.now.items
    → shown_of r ≡ read_value (view_over c.args.tables.now.rows c.args.records.now.items c.args.holder.now) x (parts_of c.args.request.now) c.args.call.now)) (sym c.in-Rows.is)
    (IfOk-weaker c.listed.result _ _ (λ r h once. h c.args.records.now.items) c.listed.ensures)

pub returns-in-Row : goal.returns-in-Row
returns-in-Row c = subst (λ (x : Reading). IfOk c.row_shown.result (λ r. AreOnce c.args.records.now.items
    → shown_of r ≡ read_value (view_over c.args.tables.now.rows c.args.records.now.items c.args.holder.now) x (parts_of c.args.request.now) c.args.call.now)) (sym c.in-Row.is)
    (IfOk-weaker c.row_shown.result _ _ (λ r h once. h c.args.records.now.items) c.row_shown.ensures)

pub returns-in-Activation : goal.returns-in-Activation
returns-in-Activation c = subst (λ (x : Reading). IfOk c.record_shown.result (λ r. AreOnce c.args.records.now.items
    → shown_of r ≡ read_value (view_over c.args.tables.now.rows c.args.records.now.items c.args.holder.now) x (parts_of c.args.request.now) c.args.call.now)) (sym c.in-Activation.is)
    (IfOk-weaker c.record_shown.result _ _ (λ r h once. h c.args.tables.now.rows once) c.record_shown.ensures)

pub returns-in-Activations : goal.returns-in-Activations
returns-in-Activations c = subst (λ (x : Reading). IfOk c.records_listed.result (λ r. AreOnce c.args.records.now.items
    → shown_of r ≡ read_value (view_over c.args.tables.now.rows c.args.records.now.items c.args.holder.now) x (parts_of c.args.request.now) c.args.call.now)) (sym c.in-Activations.is)
    (IfOk-weaker c.records_listed.result _ _ (λ r h once. h c.args.tables.now.rows) c.records_listed.ensures)

pub returns-in-Namespaces : goal.returns-in-Namespaces
returns-in-Namespaces c = subst (λ (x : Reading). IfOk c.names_listed.result (λ r. AreOnce c.args.records.now.items
    → shown_of r ≡ read_value (view_over c.args.tables.now.rows c.args.records.now.items c.args.holder.now) x (parts_of c.args.request.now) c.args.call.now)) (sym c.in-Namespaces.is)
    (IfOk-weaker c.names_listed.result _ _ (λ r h once. h c.args.tables.now.rows c.args.records.now.items (parts_of c.args.request.now) c.args.call.now) c.names_listed.ensures)
