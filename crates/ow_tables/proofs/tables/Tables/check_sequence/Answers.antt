use Rattle.std.proofs.Common.{◌≡◌, ◌≢◌, ℕ, length, Option, Some, None, Ok, sym, ap, ◌∙◌, subst}
use Rattle.std.specs.Result.{MatchResult}
use Rattle.ow_entity.specs.declared.rows.Row.{Row}
use Rattle.ow_tables.specs.Contents.{Contents}
use Rattle.ow_tables.specs.Rows.{standing}
use Rattle.ow_tables.specs.Sequences.{components_refusal, sequence_refusal}
use Rattle.ow_tables.specs.declared.refusal.TableRefusal.{TableRefusal}
use Rattle.ow_tables.specs.declared.refusal.TableRefusal.TheVariants.{NoMemory}
use Rattle.ow_tables.proofs.tables.Tables.check_sequence.Goals as goal

pub returns-in-Action : goal.returns-in-Action
returns-in-Action c =
    let rows = c.args.self.now.rows in
    let many : c.len.result ≡ length rows = c.len.ensures ∙ (c.self.inside.rows.ok.0 ∙ ap (λ (t : Contents). length t.rows) c.self.view_is) in
    let same : components_refusal (standing rows) c.len.result c.get.result.now ≡ sequence_refusal rows (Ok c.args.row.now) =
    ap (λ (n : ℕ). components_refusal (standing rows) n c.get.result.now) many
    ∙ (ap (components_refusal (standing rows) (length rows)) c.get.ensures ∙ sym (ap (λ (r : Row). sequence_refusal rows (Ok r)) c.in-Action.is)) in
    subst (λ (o : Option TableRefusal). MatchResult c.check_sequence.result (λ x. o ≡ None) (λ e. e ≢ NoMemory → o ≡ Some e)) same c.check_sequence.ensures
