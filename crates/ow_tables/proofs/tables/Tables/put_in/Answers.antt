use Rattle.std.proofs.Common.{set, refl, sym, ap, ◌∙◌, subst}
use Rattle.ow_tables.specs.Contents.{Contents}
use Rattle.ow_tables.specs.Region.{AreKept}
use Rattle.ow_tables.specs.Rows.{key}
use Rattle.ow_tables.proofs.RegionLaws.{AreKept-with_row, named}
use Rattle.ow_tables.proofs.RowLaws.{same_key, replaced, put_between}
use Rattle.ow_tables.proofs.tables.Tables.put_in.Goals as goal

pub invariant_of-self : goal.invariant_of-self
invariant_of-self c =
    let same = ap (set c.self.inside.rows.items c.in-Ok.i) c.replace.ensures.after ∙ replaced (key c.kind.result c.name-2.result.now) c.self.inside.rows.items c.deref.result.now c.args.row c.in-Ok.i _ c.deref.ensures.value
    (same_key c.args.row _ _ c.kind.ensures c.name-2.ensures) c.self.invariant.rise c.in-Ok.ensures.ok refl in
    subst AreKept (sym same) (AreKept-with_row c.args.row _ (named c.args.row _ c.name.ensures c.compare_as_part.ensures.whole) c.self.invariant)

pub invariant_of-self-in-Ok-insert : goal.invariant_of-self-in-Ok-insert
invariant_of-self-in-Ok-insert c =
    let same = put_between (key c.kind.result c.name-2.result.now) c.self.inside.rows.items c.deref.result.now c.insert.new.self.items c.args.row c.in-Err.i _ c.deref.ensures.value
    (same_key c.args.row _ _ c.kind.ensures c.name-2.ensures) c.in-Ok-insert.ensures.items c.in-Err.ensures.err.1 refl in
    subst AreKept (sym same) (AreKept-with_row c.args.row _ (named c.args.row _ c.name.ensures c.compare_as_part.ensures.whole) c.self.invariant)

pub returns-in-Ok-clause-rows : goal.returns-in-Ok-clause-rows
returns-in-Ok-clause-rows c =
    ap (set c.self.inside.rows.items c.in-Ok.i) c.replace.ensures.after ∙ replaced (key c.kind.result c.name-2.result.now) c.self.inside.rows.items c.deref.result.now c.args.row c.in-Ok.i _ c.deref.ensures.value
    (same_key c.args.row _ _ c.kind.ensures c.name-2.ensures) c.self.invariant.rise c.in-Ok.ensures.ok (ap (λ (t : Contents). t.rows) c.self.view_is)

pub returns-in-Ok-insert-clause-rows : goal.returns-in-Ok-insert-clause-rows
returns-in-Ok-insert-clause-rows c =
    put_between (key c.kind.result c.name-2.result.now) c.self.inside.rows.items c.deref.result.now c.insert.new.self.items c.args.row c.in-Err.i _ c.deref.ensures.value
    (same_key c.args.row _ _ c.kind.ensures c.name-2.ensures) c.in-Ok-insert.ensures.items c.in-Err.ensures.err.1 (ap (λ (t : Contents). t.rows) c.self.view_is)
