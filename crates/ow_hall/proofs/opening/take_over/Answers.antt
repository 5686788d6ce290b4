use Rattle.std.proofs.Common.{◌∙◌, ℕ, List, ap, subst, sym}
use Rattle.ow_records.specs.declared.unrecorded.Unrecorded.{Unrecorded}
use Rattle.ow_traits.specs.Rows.{AreRows}
use Rattle.ow_tables.specs.Builtin.{builtin}
use Rattle.ow_tables.specs.Rows.{resumed}
use Rattle.ow_keep.specs.Split.{parts_of}
use Rattle.ow_commits.specs.Keeping.{FollowingView, StandsFollowing}
use Rattle.ow_commits.specs.Opening.{opened_trace, opening_changes, others_of}
use Rattle.ow_commits.proofs.Resuming.{may_be_resumed, not_builtin}
use Rattle.ow_decide.specs.Opening.{abandoned_told}
use Rattle.ow_decide.specs.declared.events.Event.TheVariants as events
use Rattle.ow_decide.specs.declared.events.Told.TheVariants as tells
use Rattle.ow_tenant.specs.Tenants.{pool_of}
use Rattle.ow_hall.specs.Ledger.{no_entries, posted}
use Rattle.ow_hall.specs.Readied.{IsOver}
use Rattle.ow_hall.proofs.OpenLaws.{first_moment, opened_ledger}
use Rattle.ow_hall.proofs.Joined.{beside_ok, joined_ok, ok_of}
use Rattle.ow_hall.proofs.opening.take_over.Goals as goal

pub state_over-stands-requires-clause-resumable : goal.state_over-stands-requires-clause-resumable
state_over-stands-requires-clause-resumable c =
    may_be_resumed c.args.rows (parts_of c.args.kept) c.first_moment-at.result (subst AreRows c.rows.view_is c.rows.invariant) c.requires.holds

pub returns : goal.returns
returns c =
    let t = c.args.tenants.now in
    let rows = c.args.rows in
    let p = parts_of c.args.kept in
    let order = subst AreRows c.rows.view_is c.rows.invariant in
    let same = c.first_moment-at.ensures ∙ first_moment rows c.args.at p order c.requires.holds in
    let all = joined_ok c.kept_beside-first.result c.joined2-second.result _ (sym c.in_ok-commit.ensures) in
    let made = beside_ok c.in_ok-opening.opening c.book_over-entries.result c.kept_beside-first.result _ c.kept_beside-first.ensures all.0 in
    let stood = joined_ok c.state_over-stands.result c.new.result _ (sym c.joined2-second.ensures ∙ all.1) in
    record {
      ready = record {
        parts = p;
        order = order;
        holds = c.requires.holds;
        over = subst (λ (m : ℕ). IsOver t m p c.in_ok-commit.state) same (ok_of _ c.state_over-stands.result c.in_ok-commit.state stood.0 c.state_over-stands.ensures.over);
        ledger = ok_of _ c.book_over-entries.result c.in_ok-commit.book made.1 c.book_over-entries.ensures.ledger
            ∙ (ap (λ (us : List Unrecorded). posted no_entries c.first_moment-at.result (events.Opened rows) (tells.Opened (abandoned_told us))) c.deref.ensures.value
            ∙ (ap (λ (m : ℕ). posted no_entries m (events.Opened rows) (tells.Opened (abandoned_told p.unrecorded))) same ∙ opened_ledger t rows c.args.at p order c.requires.holds));
        changes = ap (λ (k : FollowingView). k.changes) made.0 ∙ (c.in_ok-opening.ensures.changes ∙ ap (λ (m : ℕ). opening_changes m p) same);
        stands = subst (λ (m : ℕ). StandsFollowing c.in_ok-commit.commit (others_of p) (resumed p.entities builtin) (opened_trace m p (pool_of t) t.wants)) same
            (subst (λ (k : FollowingView). StandsFollowing k (others_of p) (resumed p.entities builtin) (opened_trace c.first_moment-at.result p (pool_of t) t.wants)) (sym made.0)
            (c.in_ok-opening.ensures.stands (pool_of t) t.wants c.requires.holds (not_builtin rows p c.requires.holds)));
      };
    }
