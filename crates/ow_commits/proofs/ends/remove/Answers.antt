use Rattle.std.proofs.Common.{◌≡◌, ℕ, Option, Some, None, arith, sym, ap, ◌∙◌}
use Rattle.std.specs.List.{position}
use Rattle.ow_commits.specs.Keeping.{is_of}
use Rattle.ow_commits.proofs.Removing.{removed_at, removed_none, within}
use Rattle.ow_commits.proofs.ends.remove.Goals as goal

pub remove-requires : goal.remove-requires
remove-requires c =
    let here = within (is_of c.args.id) c.deref.result.now c.in-Some.place (record { id = c.args.id; bytes = 0 }) (sym c.in-Some.ensures) in
    omega (arith, here, c.deref.ensures.len)

pub returns-in-Some : goal.returns-in-Some
returns-in-Some c =
    let there : ◌≡◌ {A = Option ℕ} (position (is_of c.args.id) c.args.opens.now.items) (Some c.in-Some.place) = ap (position (is_of c.args.id)) (sym c.deref.ensures.value) ∙ sym c.in-Some.ensures in
    c.remove.ensures.items ∙ removed_at (is_of c.args.id) c.args.opens.now.items c.in-Some.place (record { id = c.args.id; bytes = 0 }) there

pub returns-in_default : goal.returns-in_default
returns-in_default c =
    let nowhere : ◌≡◌ {A = Option ℕ} (position (is_of c.args.id) c.args.opens.now.items) None = ap (position (is_of c.args.id)) (sym c.deref.ensures.value) ∙ sym c.in_default.ensures in
    removed_none (is_of c.args.id) c.args.opens.now.items nowhere
