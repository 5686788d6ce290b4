-- The claim of a deployment, by how it ends.
use Rattle.std.proofs.Common.{◌≡◌, ◌≤◌, ℕ, List, [], Ok, ap, inl, inr, refl, sym, subst, ◌∙◌, arith}
use Rattle.ow_traits.specs.Streams.{Rose}
use Rattle.ow_traits.specs.Telling.{Telling}
use Rattle.ow_traits.proofs.Taking.{rose_since}
use Rattle.ow_entity.specs.declared.rows.Draft.{Draft}
use Rattle.ow_http.specs.Number.{number_of}
use Rattle.ow_http.specs.declared.reason.Reason.{Reason}
use Rattle.ow_tenant.specs.Table.{Table}
use Rattle.ow_decide.specs.Decisions.{decide}
use Rattle.ow_decide.specs.Sight.{Sight}
use Rattle.ow_decide.specs.declared.events.Event.TheVariants as events
use Rattle.ow_decide.specs.declared.events.Told.{Told}
use Rattle.ow_decide.specs.declared.events.Told.TheVariants as told
use Rattle.ow_decide.specs.declared.replies.Deployed.TheVariants as deployments
use Rattle.ow_traits.specs.declared.change_list.Change.{Change}
use Rattle.ow_hall.specs.Comes.{Answers, Comes, Fails, HallView, Holds, HoldsBook, IsDeployed, Outcome, Wants, at_hall}
use Rattle.ow_hall.specs.History.{IsLegal, counted, seen, sight}
use Rattle.ow_hall.specs.Openings.{HasStartCause, IsUnopened as Unopened, Opens}
use Rattle.ow_hall.specs.declared.refusals.StartFault.{StartFault}
use Rattle.ow_hall.specs.declared.refusals.StartFault.TheVariants as starts
use Rattle.ow_hall.specs.declared.refusals.StartRefusal.{StartRefusal}
use Rattle.ow_day.specs.Carried.{IsOpeningFault, not_opened}
use Rattle.ow_command_line.specs.declared.status.Status.{Status}
use Rattle.ow_command_line.specs.declared.status.Status.TheVariants as statuses
use Rattle.ow_office.specs.Day.{EndsDay}
use Rattle.ow_office.specs.Deploy.{Deploys, GivesManifest, IsUnbegun, LeavesOpened, TellsDeploy}
use Rattle.ow_office.specs.Putting.{DeploysIn, IsUngiven, IsUnput, WritesLine, done_with}
use Rattle.ow_office.specs.Sides.{Sides, SinkView, SourceView, sides}
use Rattle.ow_office.specs.declared.deploy.Counts.{Counts}
use Rattle.ow_office.proofs.Opening.{as_told, comes_told, opens_told}
use Rattle.ow_office.proofs.Refusing.{none_committed, other_refused}

-- ---- a refusal

module _ {P : Type 0} (telling : P → Telling) (old new : HallView P) (drafts : List Draft) where
  abbrev seen_before : Sight
  seen_before = sight old.tenants (seen old.tenants old.ledger.entries) (counted old.ledger.entries) (at_hall old 0)

  none_held : (changes : List Change) → changes ≡ [] → Holds telling changes old.store new.store → new.store ≡ old.store
  none_held changes none holds = subst (λ cs. Holds telling cs old.store new.store) none holds

  told_in : (t : Told) (place : ℕ) (reason : Reason) → t ≡ told.Deployed (deployments.Refused place reason) → Comes telling old new 0 (events.Deployed drafts) (Answers t)
      → (decide seen_before (events.Deployed drafts)).told ≡ told.Deployed (deployments.Refused place reason)
  told_in t place reason is c = sym c.0 ∙ is

  -- the rows stay
  pub refused_stays : (outcome : Outcome) (place : ℕ) (reason : Reason) → IsDeployed (Ok (deployments.Refused place reason)) outcome → Comes telling old new 0 (events.Deployed drafts) outcome
      → (telling new.store).rows ≡ (telling old.store).rows
  refused_stays (Answers t) place reason is c = ap (λ s. (telling s).rows) (none_held _ (none_committed seen_before drafts place reason (told_in t place reason is c)) c.3)
  refused_stays Wants place reason never c = absurd never
  refused_stays Fails place reason is c = c.3.rows

  -- and the old rows
  pub refused_old_stays : (outcome : Outcome) (place : ℕ) (reason : Reason) → IsDeployed (Ok (deployments.Refused place reason)) outcome → Comes telling old new 0 (events.Deployed drafts) outcome
      → (telling new.store).old_rows ≡ (telling old.store).old_rows
  refused_old_stays (Answers t) place reason is c = ap (λ s. (telling s).old_rows) (none_held _ (none_committed seen_before drafts place reason (told_in t place reason is c)) c.3)
  refused_old_stays Wants place reason never c = absurd never
  refused_old_stays Fails place reason is c = c.3.old_rows

  -- the number is 31 only where the store failed
  pub refused_fault : (before : ℕ) (outcome : Outcome) (place : ℕ) (reason : Reason) → before ≤ (telling old.store).faults → IsDeployed (Ok (deployments.Refused place reason)) outcome
      → Comes telling old new 0 (events.Deployed drafts) outcome → number_of reason ≡ 31 → Rose before (telling new.store).faults
  refused_fault before (Answers t) place reason first is c number = absurd (other_refused seen_before drafts place reason (told_in t place reason is c) number)
  refused_fault before Wants place reason first never c number = absurd never
  refused_fault before Fails place reason first is c number = rose_since before (telling old.store).faults (telling new.store).faults (telling new.store).faults first c.3.later c.4 (omega arith)

-- ---- the service isn't opened

module _ {P : Type 0} (telling : P → Telling) (t : Table) (store : P) (table table' day : SourceView) (out : SinkView) where
  pub unopened_told : (refusal : StartRefusal P) → Unopened telling store t refusal
      → TellsDeploy t (sides table day out (telling store)) (sides table' day out (telling refusal.store)) (not_opened refusal.why)
  unopened_told refusal u = go refusal.why u.cause
    where
      unbegun : IsUnbegun (sides table day out (telling store)) (sides table' day out (telling refusal.store))
      unbegun = (record { unwritten = refl; rows_stay = u.rows_stay; old_rows_stay = u.old_rows_stay; later = u.later }, refl, refl)

      go : (why : StartFault) → HasStartCause telling store refusal.store why
          → TellsDeploy t (sides table day out (telling store)) (sides table' day out (telling refusal.store)) (not_opened why)
      go (starts.BadKept key) cause = (unbegun, cause)
      go starts.StoreFault cause = (unbegun, cause)
      go starts.NoMemory cause = inl unbegun

-- ---- the service is opened

module _ {P : Type 0} (telling : P → Telling) (t : Table) (store : P) (hall last : HallView P) (opens : Opens telling store t 0 hall) (legal : IsLegal last.tenants last.ledger.entries)
    (holds : HoldsBook (telling last.store).rows last.tenants last.ledger) (table table' day day' : SourceView) (out out' : SinkView) where
  abbrev before : Sides
  before = sides table day out (telling store)

  abbrev after : Sides
  after = sides table' day' out' (telling last.store)

  -- nothing followed
  left_opened : last ≡ hall → LeavesOpened t (telling store) (telling last.store)
  left_opened same = record {
    opened = as_told telling hall;
    opens = opens_told telling store t 0 hall opens;
    store = ap (λ h. telling h.store) same;
    holds = subst (λ h. HoldsBook (telling last.store).rows h.tenants h.ledger) same holds;
  }

  -- a deployment followed
  deployed : (drafts : List Draft) (outcome : Outcome) → Comes telling hall last 0 (events.Deployed drafts) outcome → Deploys t drafts outcome (telling store) (telling last.store)
  deployed drafts outcome comes = record {
    opened = as_told telling hall;
    opens = opens_told telling store t 0 hall opens;
    last = as_told telling last;
    comes = comes_told telling hall last 0 (events.Deployed drafts) outcome comes;
    store = refl;
    legal = legal;
    holds = holds;
  }

  tells_ungiven : (status : Status) → IsUngiven day day' status → last ≡ hall → out' ≡ out → TellsDeploy t before after status
  tells_ungiven statuses.Ok never same quiet = absurd never
  tells_ungiven (statuses.BadDay statement) never same quiet = absurd never
  tells_ungiven statuses.BadWords never same quiet = absurd never
  tells_ungiven statuses.ReadFault rose same quiet = (left_opened same, rose, quiet)
  tells_ungiven statuses.WriteFault never same quiet = absurd never
  tells_ungiven statuses.StoreFault never same quiet = absurd never
  tells_ungiven (statuses.BadTable row) never same quiet = absurd never
  tells_ungiven statuses.NoMemory none same quiet = inr (inl (left_opened same), quiet)
  tells_ungiven statuses.DayTooLong never same quiet = absurd never
  tells_ungiven (statuses.BadKept key) never same quiet = absurd never
  tells_ungiven (statuses.BadManifest number text) (refusal, gives, (cause, is, says)) same quiet = (refusal, record { gives = gives; cause = cause; opened = left_opened same }, is, says, quiet)
  tells_ungiven (statuses.Undeployed place number text) never same quiet = absurd never
  tells_ungiven (statuses.Passed words tenants) never same quiet = absurd never

  module _ (drafts : List Draft) (outcome : Outcome) (gives : GivesManifest day day' (Ok drafts)) (comes : Comes telling hall last 0 (events.Deployed drafts) outcome) where
    cut_short : out' ≡ out → TellsDeploy t before after statuses.NoMemory
    cut_short quiet = inr (inr (drafts, outcome, gives, deployed drafts outcome comes), quiet)

    put_with : (c : Counts) → outcome ≡ done_with c → Deploys t drafts (done_with c) (telling store) (telling last.store)
    put_with c is = subst (λ o. Deploys t drafts o (telling store) (telling last.store)) is (deployed drafts outcome comes)

    tells_put : (status : Status) (c : Counts) → outcome ≡ done_with c → WritesLine c out out' status → TellsDeploy t before after status
    tells_put statuses.Ok c is took = (c.made, c.changed, c.same, record { drafts = drafts; gives = gives; deploys = put_with c is }, took)
    tells_put (statuses.BadDay statement) c is never = absurd never
    tells_put statuses.BadWords c is never = absurd never
    tells_put statuses.ReadFault c is never = absurd never
    tells_put statuses.WriteFault c is (front, rose) = (c.made, c.changed, c.same, record { drafts = drafts; gives = gives; deploys = put_with c is }, front, rose)
    tells_put statuses.StoreFault c is never = absurd never
    tells_put (statuses.BadTable row) c is never = absurd never
    tells_put statuses.NoMemory c is quiet = cut_short quiet
    tells_put statuses.DayTooLong c is never = absurd never
    tells_put (statuses.BadKept key) c is never = absurd never
    tells_put (statuses.BadManifest number text) c is never = absurd never
    tells_put (statuses.Undeployed place number text) c is never = absurd never
    tells_put (statuses.Passed words tenants) c is never = absurd never

    tells_unput : (status : Status) → IsUnput outcome status → out' ≡ out → TellsDeploy t before after status
    unfolding deployed
    tells_unput statuses.Ok never quiet = absurd never
    tells_unput (statuses.BadDay statement) never quiet = absurd never
    tells_unput statuses.BadWords never quiet = absurd never
    tells_unput statuses.ReadFault never quiet = absurd never
    tells_unput statuses.WriteFault never quiet = absurd never
    tells_unput statuses.StoreFault never quiet = absurd never
    tells_unput (statuses.BadTable row) never quiet = absurd never
    tells_unput statuses.NoMemory none quiet = cut_short quiet
    tells_unput statuses.DayTooLong never quiet = absurd never
    tells_unput (statuses.BadKept key) never quiet = absurd never
    tells_unput (statuses.BadManifest number text) never quiet = absurd never
    tells_unput (statuses.Undeployed place number text) (reason, refused, is, says) quiet = (
      reason,
      record {
        drafts = drafts;
        gives = gives;
        outcome = outcome;
        refused = refused;
        deploys = deployed drafts outcome comes;
        rows_stay = refused_stays telling hall last drafts outcome place reason refused comes;
        old_rows_stay = refused_old_stays telling hall last drafts outcome place reason refused comes;
        fault = refused_fault telling hall last drafts (telling store).faults outcome place reason opens.later refused comes;
      },
      is,
      says,
      quiet,
    )
    tells_unput (statuses.Passed words tenants) never quiet = absurd never

  pub opened_told : (status : Status) → DeploysIn telling hall last day day' out out' status → TellsDeploy t before after status
  opened_told status (inl (ungiven, same, quiet)) = tells_ungiven status ungiven same quiet
  opened_told status (inr (drafts, outcome, gives, comes, inl (c, is, wrote))) = tells_put drafts outcome gives comes status c is wrote
  opened_told status (inr (drafts, outcome, gives, comes, inr (unput, quiet))) = tells_unput drafts outcome gives comes status unput quiet

-- ---- statuses

-- a service that was opened ends by no fault of the opening
pub no_opening : {P : Type 0} (telling : P → Telling) (old new : HallView P) (day day' : SourceView) (out out' : SinkView) (status : Status)
    → DeploysIn telling old new day day' out out' status → IsOpeningFault status → ⊥
no_opening telling old new day day' out out' statuses.StoreFault d fault = go d
  where
    go : DeploysIn telling old new day day' out out' statuses.StoreFault → ⊥
    go (inl (never, same, quiet)) = never
    go (inr (drafts, outcome, gives, comes, inl (c, is, never))) = never
    go (inr (drafts, outcome, gives, comes, inr (never, quiet))) = never
no_opening telling old new day day' out out' (statuses.BadKept key) d fault = go d
  where
    go : DeploysIn telling old new day day' out out' (statuses.BadKept key) → ⊥
    go (inl (never, same, quiet)) = never
    go (inr (drafts, outcome, gives, comes, inl (c, is, never))) = never
    go (inr (drafts, outcome, gives, comes, inr (never, quiet))) = never
no_opening telling old new day day' out out' status d fault = fault

module _ (t : Table) (before after : Sides) where
  pub told_ends : (status : Status) → TellsDeploy t before after status → EndsDay status
  told_ends statuses.BadWords never = absurd never
  told_ends (statuses.Passed words tenants) never = absurd never
  told_ends status told = tt

  pub told_table : (status : Status) → TellsDeploy t before after status → (row : ℕ) → status ≡ statuses.BadTable row → ⊥
  told_table status told row is = subst (TellsDeploy t before after) is told

  pub told_read : (status : Status) → TellsDeploy t before after status → status ≡ statuses.ReadFault → Rose before.day.faults after.day.faults
  told_read status told is = (subst (TellsDeploy t before after) is told).1

  pub told_write : (status : Status) → TellsDeploy t before after status → status ≡ statuses.WriteFault → Rose before.out.faults after.out.faults
  told_write status told is = (subst (TellsDeploy t before after) is told).5
