use Rattle.std.proofs.Common.{◌≡◌, List, Ok, subst}
use Rattle.ow_traits.specs.Telling.{made, with_attempt}
use Rattle.ow_traits.specs.Keeper.{Commits, Retires}
use Rattle.ow_traits.specs.declared.change_list.Change.{Change}
use Rattle.ow_hall.proofs.OpenLaws.{opening_stands}
use Rattle.ow_hall.proofs.opening.open_over.Goals as goal

pub returns-in-Ok-commit-clause-opened : goal.returns-in-Ok-commit-clause-opened
returns-in-Ok-commit-clause-opened g c =
    let telling = g.P.Keeper.telling in
    let mid = c.load.new.store in
    let new = c.commit.new.self in
    let commits = subst (λ (cs : List Change). Commits {T = Unit {0}} (telling mid).rows (telling new).rows cs (Ok tt)) c.changes.ensures c.in-Ok-commit.ensures.told in
    let retired = subst (λ (cs : List Change). Retires {T = Unit {0}} (telling mid).old_rows (telling new).old_rows cs (Ok tt)) c.changes.ensures c.in-Ok-commit.ensures.old_rows in
    let asked = subst (λ (cs : List Change). (telling new).commits ≡ with_attempt (made cs) (telling mid).commits) c.changes.ensures c.in-Ok-commit.ensures.commits in
    opening_stands telling c.args.store.now mid new c.args.tenants.now c.in_ok-rows.rows c.args.at c.in-Ok.ready c.keep.result
    c.in_ok-rows.ensures.loaded c.in-Ok.ensures.ready commits retired asked c.in-Ok-commit.ensures.cause.later c.keep.ensures
