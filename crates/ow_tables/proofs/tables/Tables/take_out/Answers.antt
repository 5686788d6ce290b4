use Rattle.std.proofs.Common.{refl, sym, ap, subst}
use Rattle.ow_tables.specs.Contents.{Contents}
use Rattle.ow_tables.specs.Region.{AreKept}
use Rattle.ow_tables.specs.Rows.{key}
use Rattle.ow_tables.proofs.RegionLaws.{AreKept-filter}
use Rattle.ow_tables.proofs.RowLaws.{same_key, taken_out, not_there}
use Rattle.ow_tables.proofs.tables.Tables.take_out.Goals as goal

pub invariant_of-self : goal.invariant_of-self
invariant_of-self c =
    let same = taken_out (key c.kind.result c.name.result.now) c.self.inside.rows.items c.deref.result.now c.remove.new.self.items c.args.row.now c.in-Ok.i c.remove.result _ c.deref.ensures.value
    (same_key c.args.row.now _ _ c.kind.ensures c.name.ensures) c.remove.ensures.items c.self.invariant.rise c.in-Ok.ensures.ok refl in
    subst AreKept (sym same) (AreKept-filter _ _ c.self.invariant)

pub returns-in-Ok : goal.returns-in-Ok
returns-in-Ok c =
    taken_out (key c.kind.result c.name.result.now) c.self.inside.rows.items c.deref.result.now c.remove.new.self.items c.args.row.now c.in-Ok.i c.remove.result _ c.deref.ensures.value
    (same_key c.args.row.now _ _ c.kind.ensures c.name.ensures) c.remove.ensures.items c.self.invariant.rise c.in-Ok.ensures.ok (ap (λ (t : Contents). t.rows) c.self.view_is)

pub returns-in_default : goal.returns-in_default
returns-in_default c =
    not_there (key c.kind.result c.name.result.now) c.self.inside.rows.items c.deref.result.now c.args.row.now _ _ c.deref.ensures.value
    (same_key c.args.row.now _ _ c.kind.ensures c.name.ensures) c.in_default.ensures.err.1 (ap (λ (t : Contents). t.rows) c.self.view_is)
