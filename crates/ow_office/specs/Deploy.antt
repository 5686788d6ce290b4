-- The command `deploy`: the input is a manifest, and its drafts are put over an office table and a store.
use Rattle.std.specs.Prelude.{◌≡◌, ◌≢◌, ◌⊎◌, ◌++◌, ℕ, List, IfSome, Result, Ok, Err, codes, drop, option_map}
use Rattle.std.specs.Fmt.{decimal}
use Rattle.ow_traits.specs.Streams.{Rose, Takes, TakesFront}
use Rattle.ow_traits.specs.Telling.{Telling}
use Rattle.ow_entity.specs.declared.rows.Draft.{Draft}
use Rattle.ow_http.specs.Number.{number_of}
use Rattle.ow_http.specs.Reason.{text_of}
use Rattle.ow_http.specs.declared.reason.Reason.{Reason}
use Rattle.ow_tenant.specs.Reading.{ReadsUpTo, most_read}
use Rattle.ow_tenant.specs.Table.{Table}
use Rattle.ow_decide.specs.declared.events.Event.TheVariants as events
use Rattle.ow_decide.specs.declared.events.Told.TheVariants as told
use Rattle.ow_decide.specs.declared.replies.Deployed.TheVariants as deployments
use Rattle.ow_hall.specs.Comes.{Answers, Comes, HallView, HoldsBook, IsDeployed, Outcome}
use Rattle.ow_hall.specs.History.{IsLegal}
use Rattle.ow_hall.specs.Openings.{Opens}
use Rattle.ow_deploy.specs.Manifest.{manifest_of}
use Rattle.ow_deploy.specs.Refusal.{manifest_refusal_number, manifest_refusal_text}
use Rattle.ow_deploy.specs.declared.refusal.ManifestRefusal.{ManifestRefusal}
use Rattle.ow_deploy.specs.declared.refusal.ManifestRefusal.TheVariants as manifests
use Rattle.ow_day.specs.Carried.{HasBadRow, IsUnopened}
use Rattle.ow_command_line.specs.declared.status.Status.{Status}
use Rattle.ow_command_line.specs.declared.status.Status.TheVariants as statuses
use Rattle.ow_office.specs.Sides.{Sides, SourceView}

-- ---- the manifest

-- the input is this manifest, where its source reports its bytes, and else some manifest. It is read to its end, or up to one byte too many
pub record GivesManifest (before after : SourceView) (manifest : Result (List Draft) ManifestRefusal) : Type 0 where
  pub told : IfSome before.left (λ bytes. manifest ≡ manifest_of bytes)
  pub leaves : after.left ≡ option_map (drop most_read) before.left

-- ---- the service

-- a store as it reports itself
abbrev pub itself : Telling → Telling
itself store = store

-- a service was opened over the office table and the store, at moment 0, and nothing followed: the store is as the opening left it
pub record LeavesOpened (t : Table) (before after : Telling) : Type 0 where
  pub opened : HallView Telling
  pub opens : Opens itself before t 0 opened
  pub store : after ≡ opened.store
  pub holds : HoldsBook after.rows opened.tenants opened.ledger

-- a service was opened so, and met one event: these drafts are deployed, at moment 0, with this outcome. The book is legal, and the
-- store's rows, where it reports them, are what is kept of the book
pub record Deploys (t : Table) (drafts : List Draft) (outcome : Outcome) (before after : Telling) : Type 0 where
  pub opened : HallView Telling
  pub opens : Opens itself before t 0 opened
  pub last : HallView Telling
  pub comes : Comes itself opened last 0 (events.Deployed drafts) outcome
  pub store : after ≡ last.store
  pub legal : IsLegal last.tenants last.ledger.entries
  pub holds : HoldsBook after.rows last.tenants last.ledger

-- ---- what comes of it

-- the drafts of the manifest were put: how many had no row, how many replaced one, and how many were left out
pub record IsPut (t : Table) (made changed same : ℕ) (before after : Sides) : Type 0 where
  pub drafts : List Draft
  pub gives : GivesManifest before.day after.day (Ok drafts)
  pub deploys : Deploys t drafts (Answers (told.Deployed (deployments.Done made changed same))) before.store after.store

-- they were refused for this reason, at the draft of this place, counted from 1, or as a whole, at 0. The rows and the old rows of the
-- opening stay, and 31 comes only where the store failed
pub record IsRefused (t : Table) (place : ℕ) (reason : Reason) (before after : Sides) : Type 0 where
  pub drafts : List Draft
  pub gives : GivesManifest before.day after.day (Ok drafts)
  pub outcome : Outcome
  pub refused : IsDeployed (Ok (deployments.Refused place reason)) outcome
  pub deploys : Deploys t drafts outcome before.store after.store
  pub rows_stay : after.store.rows ≡ deploys.opened.store.rows
  pub old_rows_stay : after.store.old_rows ≡ deploys.opened.store.old_rows
  pub fault : number_of reason ≡ 31 → Rose before.store.faults after.store.faults

-- the input is no manifest, for this reason
pub record IsNoManifest (t : Table) (refusal : ManifestRefusal) (before after : Sides) : Type 0 where
  pub gives : GivesManifest before.day after.day (Err refusal)
  pub cause : refusal ≢ manifests.NoMemory
  pub opened : LeavesOpened t before.store after.store

-- no memory is left once the service was opened, before the drafts are there or after it
abbrev pub IsCutShort : Table → Sides → Sides → Type 0
IsCutShort t before after = LeavesOpened t before.store after.store
    ⊎ ((drafts : List Draft) × (outcome : Outcome) × GivesManifest before.day after.day (Ok drafts) × Deploys t drafts outcome before.store after.store)

-- the service isn't opened, and nothing is read or written
abbrev pub IsUnbegun : Sides → Sides → Type 0
IsUnbegun before after = IsUnopened before.store after.store before.out.taken after.out.taken × (after.day ≡ before.day) × (after.out ≡ before.out)

-- the line that is written
abbrev pub deploy_text : (made changed same : ℕ) → List ℕ
deploy_text made changed same =
    codes "deployed made " ++ (decimal made ++ (codes " changed " ++ (decimal changed ++ (codes " same " ++ (decimal same ++ codes "\n")))))

-- what was done, by the status. Nothing is written but the line of a whole deployment
abbrev pub TellsDeploy : Table → Sides → Sides → Status → Type 0
TellsDeploy t before after statuses.Ok = (made : ℕ) × (changed : ℕ) × (same : ℕ)
    × IsPut t made changed same before after × Takes before.out.taken after.out.taken (deploy_text made changed same)
TellsDeploy t before after statuses.WriteFault = (made : ℕ) × (changed : ℕ) × (same : ℕ)
    × IsPut t made changed same before after × TakesFront before.out.taken after.out.taken (deploy_text made changed same) × Rose before.out.faults after.out.faults
TellsDeploy t before after (statuses.BadManifest number text) = (refusal : ManifestRefusal) × IsNoManifest t refusal before after
    × (number ≡ manifest_refusal_number refusal) × (text ≡ manifest_refusal_text refusal) × (after.out ≡ before.out)
TellsDeploy t before after (statuses.Undeployed place number text) = (reason : Reason) × IsRefused t place reason before after
    × (number ≡ number_of reason) × (text ≡ text_of reason) × (after.out ≡ before.out)
TellsDeploy t before after statuses.ReadFault = LeavesOpened t before.store after.store × Rose before.day.faults after.day.faults × (after.out ≡ before.out)
TellsDeploy t before after statuses.StoreFault = IsUnbegun before after × Rose before.store.faults after.store.faults
TellsDeploy t before after (statuses.BadKept key) = IsUnbegun before after × HasBadRow before.store key
TellsDeploy t before after statuses.NoMemory = IsUnbegun before after ⊎ (IsCutShort t before after × (after.out ≡ before.out))
TellsDeploy t before after other = ⊥

-- a deployment over a good table. Of the input at most one byte more is read than a manifest may have
pub record DoesDeploy (t : Table) (before after : Sides) (status : Status) : Type 0 where
  pub told : TellsDeploy t before after status
  pub reads : ReadsUpTo most_read before.day.left after.day.left
