-- What deployments leave, over calls of a controller.
use Rattle.std.proofs.Common.{◌≡◌, ◌∙◌, ℕ, List, Result, Ok, Err, refl, sym, ap, subst}
use Rattle.std.specs.List.{flat_map}
use Rattle.ow_names.specs.declared.full.FullName.{FullName}
use Rattle.ow_entity.specs.declared.kinds.EntityKind.{EntityKind}
use Rattle.ow_entity.specs.declared.rows.Draft.{Draft}
use Rattle.ow_entity.specs.declared.rows.Row.{Row}
use Rattle.ow_http.specs.Steps.{◌>>=◌}
use Rattle.ow_http.specs.declared.reason.Reason.{Reason}
use Rattle.ow_tables.specs.Rows.{found, key}
use Rattle.ow_tenant.specs.Table.{Table}
use Rattle.ow_traits.specs.Telling.{Telling}
use Rattle.ow_traits.specs.declared.change_list.Change.{Change as StoreChange}
use Rattle.ow_commits.specs.Commits.{row_changes}
use Rattle.ow_decide.specs.Decision.{all_changed, commits}
use Rattle.ow_decide.specs.Deploying.{Progress, Refusal, all_put, at_place, begun, deploy_decision, deployed, put_drafts, stored}
use Rattle.ow_decide.specs.Sight.{Sight, room_for, store_room}
use Rattle.ow_decide.specs.declared.events.Event.TheVariants as events
use Rattle.ow_decide.specs.declared.events.Told.{Told}
use Rattle.ow_decide.specs.declared.events.Told.TheVariants as told
use Rattle.ow_decide.specs.declared.replies.Deployed.TheVariants as deployments
use Rattle.ow_decide.proofs.DeployLaws.{deploy_rows, drafts_make}
use Rattle.ow_hall.specs.Comes.{Answers, Fails, HallView, Holds, Wants, at_hall}
use Rattle.ow_hall.specs.History.{Seen, after, counted, posting, seen, sight}
use Rattle.ow_hall.specs.Ledger.{Ledger, posted_as}
use Rattle.ow_hall.specs.declared.posting.Posting.{Posting}
use Rattle.ow_hall.specs.declared.posting.Posting.TheVariants.{Booked, Quiet, Denied, Unbooked}
use Rattle.ow_hall.proofs.Joined.{ok_of}
use Rattle.ow_restart_laws.specs.Deployments.{DeploymentsLeaveOtherRows, Deploys, IsUnnamed, RepeatedDeploymentsChangeNothing, state_of, unchanged_by}
use Rattle.ow_restart_laws.proofs.DeploymentLaws.{drafts_leave, drafts_unchanged}

-- ---- a deployment that is carried out

-- after these drafts, with these counts
record IsDone (S : Sight) (ds : List Draft) (made changed same : ℕ) : Type 0 where
  progress : Progress
  is : deployed S ds ≡ Ok progress
  put : put_drafts S.tenants 1 ds (begun S.rows) ≡ Ok progress
  made_so : made ≡ progress.made
  changed_so : changed ≡ progress.changed
  same_so : same ≡ progress.same

put_of : (S : Sight) (ds : List Draft) (p : Progress) → deployed S ds ≡ Ok p → put_drafts S.tenants 1 ds (begun S.rows) ≡ Ok p
put_of S ds p is = by_room (room_for S 0) is
  where
    by_store : (r : Result (Unit {0}) Reason) (q : Progress) → (at_place 0 r >>= (λ (room : Unit {0}). Ok q)) ≡ Ok p → q ≡ p
    by_store (Ok u) q e = cc
    by_store (Err reason) q e = cc

    by_put : (r : Result Progress Refusal) → (r >>= (λ (q : Progress). stored S q)) ≡ Ok p → r ≡ Ok p
    by_put (Ok q) e = ap Ok (by_store (store_room S (flat_map row_changes q.changes)) q e)
    by_put (Err refusal) e = cc

    by_room : (r : Result (Unit {0}) Reason) → (at_place 0 r >>= (λ (room : Unit {0}). all_put S ds)) ≡ Ok p → put_drafts S.tenants 1 ds (begun S.rows) ≡ Ok p
    by_room (Ok u) e = by_put (put_drafts S.tenants 1 ds (begun S.rows)) e
    by_room (Err reason) e = cc

done_of : (S : Sight) (ds : List Draft) (made changed same : ℕ) → told.Deployed (deployments.Done made changed same) ≡ (deploy_decision (deployed S ds)).told → IsDone S ds made changed same
done_of S ds made changed same answered = by_result (deployed S ds) refl answered
  where
    by_result : (r : Result Progress Refusal) → deployed S ds ≡ r → told.Deployed (deployments.Done made changed same) ≡ (deploy_decision r).told → IsDone S ds made changed same
    by_result (Ok p) e so =
        let counts : told.Deployed (deployments.Done made changed same) ≡ told.Deployed (deployments.Done p.made p.changed p.same) = so in
        record { progress = p; is = e; put = put_of S ds p e; made_so = cc; changed_so = cc; same_so = cc }
    by_result (Err refusal) e so =
        let refused : told.Deployed (deployments.Done made changed same) ≡ told.Deployed (deployments.Refused refusal.0 refusal.1) = so in
        let f : ⊥ = cc in
        absurd f

rows_made : (S : Sight) (ds : List Draft) (p : Progress) → deployed S ds ≡ Ok p → all_changed (deploy_decision (deployed S ds)).changes S.rows ≡ p.rows
rows_made S ds p is =
    ap (λ (r : Result Progress Refusal). all_changed (deploy_decision r).changes S.rows) is
    ∙ ok_of (λ (x : Progress). all_changed x.changes S.rows ≡ x.rows) (put_drafts S.tenants 1 ds (begun S.rows)) p (put_of S ds p is) (drafts_make S.tenants 1 ds S.rows)

module _ {P : Type 0} (telling : P → Telling) where
  abbrev sight_of : HallView P → ℕ → Sight
  sight_of h at = sight h.tenants (state_of h) (counted h.ledger.entries) (at_hall h at)

  state_after : (old new : HallView P) (at : ℕ) (ds : List Draft) (made changed same : ℕ) → Deploys telling old new at ds made changed same
      → state_of new ≡ after (deploy_decision (deployed (sight_of old at) ds)) (state_of old)
  state_after old new at ds made changed same comes =
      ap (λ (t : Table). seen t new.ledger.entries) comes.2 ∙ ap (λ (l : Ledger). seen old.tenants l.entries) comes.1

  pub repeated_deployments : RepeatedDeploymentsChangeNothing telling
  repeated_deployments old mid new at later ds a b c made changed same distinct first second =
      let S = sight_of old at in
      let T = sight_of mid later in
      let one = done_of S ds a b c first.0 in
      let two = done_of T ds made changed same second.0 in
      let rows : T.rows ≡ one.progress.rows = ap (λ (s : Seen). s.rows) (state_after old mid at ds a b c first) ∙ rows_made S ds one.progress one.is in
      let put : put_drafts T.tenants 1 ds (begun one.progress.rows) ≡ Ok two.progress = ap (λ (rs : List Row). put_drafts T.tenants 1 ds (begun rs)) (sym rows) ∙ two.put in
      let unchanged : two.progress ≡ unchanged_by ds one.progress.rows = drafts_unchanged S.tenants T.tenants S.rows ds one.progress two.progress distinct one.put put in
      let none : deployed T ds ≡ Ok (unchanged_by ds one.progress.rows) = two.is ∙ ap Ok unchanged in
      record {
        state = state_after mid new later ds made changed same second ∙ ap (λ (r : Result Progress Refusal). after (deploy_decision r) (state_of mid)) none;
        tenants = second.2;
        store = subst (λ (cs : List StoreChange). Holds telling cs mid.store new.store) (ap (λ (r : Result Progress Refusal). commits (deploy_decision r)) none) second.3;
        none_made = two.made_so ∙ ap (λ (p : Progress). p.made) unchanged;
        none_changed = two.changed_so ∙ ap (λ (p : Progress). p.changed) unchanged;
        all_same = two.same_so ∙ ap (λ (p : Progress). p.same) unchanged;
      }

  -- ---- other rows

  posted_leaves : (t : Table) (L : Ledger) (p : Posting) (at : ℕ) (ds : List Draft) (answer : Told) (kind : EntityKind) (name : FullName) → IsUnnamed kind name ds
      → found kind name (seen t (posted_as p (record { at = at; event = events.Deployed ds; answer = answer }) L).entries).rows ≡ found kind name (seen t L.entries).rows
  posted_leaves t L Booked at ds answer kind name unnamed =
      let S = sight t (seen t L.entries) (counted L.entries) at in
      deploy_rows (λ (rs : List Row). found kind name rs ≡ found kind name S.rows) S ds refl (drafts_leave (key kind name) S.tenants 1 ds (begun S.rows) unnamed)
  posted_leaves t L Quiet at ds answer kind name unnamed = refl
  posted_leaves t L Denied at ds answer kind name unnamed = refl
  posted_leaves t L Unbooked at ds answer kind name unnamed = refl

  state_by : (old new : HallView P) (L : Ledger) → new.tenants ≡ old.tenants → new.ledger ≡ L → state_of new ≡ seen old.tenants L.entries
  state_by old new L tenants ledger = ap (λ (t : Table). seen t new.ledger.entries) tenants ∙ ap (λ (l : Ledger). seen old.tenants l.entries) ledger

  pub other_rows_left : DeploymentsLeaveOtherRows telling
  other_rows_left old new at ds (Answers t) kind name unnamed comes =
      ap (λ (s : Seen). found kind name s.rows) (state_by old new _ comes.2 comes.1)
      ∙ posted_leaves old.tenants old.ledger (posting old.ledger.entries t) (at_hall old at) ds t kind name unnamed
  other_rows_left old new at ds Wants kind name unnamed comes = ap (λ (s : Seen). found kind name s.rows) (state_by old new old.ledger comes.1 comes.0)
  other_rows_left old new at ds Fails kind name unnamed comes = ap (λ (s : Seen). found kind name s.rows) (state_by old new _ comes.2 comes.1)
