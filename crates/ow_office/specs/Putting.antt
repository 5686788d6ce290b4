-- For private clauses: how a manifest is read and put in a service that was opened.
use Rattle.std.specs.Prelude.{◌≡◌, ◌≢◌, ◌⊎◌, List, Result, Ok, Err}
use Rattle.ow_traits.specs.Streams.{Rose, Takes, TakesFront}
use Rattle.ow_traits.specs.Telling.{Telling}
use Rattle.ow_entity.specs.declared.rows.Draft.{Draft}
use Rattle.ow_http.specs.Number.{number_of}
use Rattle.ow_http.specs.Reason.{text_of}
use Rattle.ow_http.specs.declared.reason.Reason.{Reason}
use Rattle.ow_decide.specs.declared.events.Event.TheVariants as events
use Rattle.ow_decide.specs.declared.events.Told.TheVariants as told
use Rattle.ow_decide.specs.declared.replies.Deployed.TheVariants as deployments
use Rattle.ow_hall.specs.Comes.{Answers, Comes, HallView, IsDeployed, Outcome}
use Rattle.ow_deploy.specs.Refusal.{manifest_refusal_number, manifest_refusal_text}
use Rattle.ow_deploy.specs.declared.refusal.ManifestRefusal.{ManifestRefusal}
use Rattle.ow_deploy.specs.declared.refusal.ManifestRefusal.TheVariants as manifests
use Rattle.ow_command_line.specs.declared.status.Status.{Status}
use Rattle.ow_command_line.specs.declared.status.Status.TheVariants as statuses
use Rattle.ow_office.specs.Deploy.{GivesManifest, deploy_text}
use Rattle.ow_office.specs.Sides.{SinkView, SourceView}
use Rattle.ow_office.specs.declared.deploy.Counts.{Counts}

-- why the input isn't read: a read fails, or there is no memory
abbrev pub IsReadEnd : Status → Type 0
IsReadEnd statuses.ReadFault = Unit {0}
IsReadEnd statuses.NoMemory = Unit {0}
IsReadEnd other = ⊥

-- how the command ends where the manifest is refused
abbrev pub IsRefusalOf : ManifestRefusal → Status → Type 0
IsRefusalOf refusal (statuses.BadManifest number text) = (refusal ≢ manifests.NoMemory) × (number ≡ manifest_refusal_number refusal) × (text ≡ manifest_refusal_text refusal)
IsRefusalOf refusal statuses.NoMemory = Unit {0}
IsRefusalOf refusal other = ⊥

-- how it ends where the input gives no drafts
abbrev pub IsUngiven : SourceView → SourceView → Status → Type 0
IsUngiven before after (statuses.BadManifest number text) = (refusal : ManifestRefusal) × GivesManifest before after (Err refusal) × IsRefusalOf refusal (statuses.BadManifest number text)
IsUngiven before after statuses.ReadFault = Rose before.faults after.faults
IsUngiven before after statuses.NoMemory = Unit {0}
IsUngiven before after other = ⊥

-- the answer to a deployment with these counts
abbrev pub done_with : Counts → Outcome
done_with c = Answers (told.Deployed (deployments.Done c.made c.changed c.same))

-- the deployment has this outcome where it is refused, or isn't answered
abbrev pub IsUnput : Outcome → Status → Type 0
IsUnput outcome (statuses.Undeployed place number text) = (reason : Reason) × IsDeployed (Ok (deployments.Refused place reason)) outcome × (number ≡ number_of reason) × (text ≡ text_of reason)
IsUnput outcome statuses.NoMemory = Unit {0}
IsUnput outcome other = ⊥

-- the drafts are put with these counts, or not
abbrev pub PutsSo : Outcome → Result Counts Status → Type 0
PutsSo outcome (Ok counts) = outcome ≡ done_with counts
PutsSo outcome (Err status) = IsUnput outcome status

-- the line is written, or isn't made
abbrev pub WritesLine : Counts → SinkView → SinkView → Status → Type 0
WritesLine c old new statuses.Ok = Takes old.taken new.taken (deploy_text c.made c.changed c.same)
WritesLine c old new statuses.WriteFault = TakesFront old.taken new.taken (deploy_text c.made c.changed c.same) × Rose old.faults new.faults
WritesLine c old new statuses.NoMemory = new ≡ old
WritesLine c old new other = ⊥

-- the line of the outcome is written, or the command ends without one
abbrev pub WritesSo : Outcome → SinkView → SinkView → Status → Type 0
WritesSo outcome old new status = ((c : Counts) × (outcome ≡ done_with c) × WritesLine c old new status) ⊎ (IsUnput outcome status × (new ≡ old))

-- in a service that was opened: the input gives no drafts, and nothing follows; or they are deployed, and the line is written
abbrev pub DeploysIn : {P : Type 0} → (P → Telling) → HallView P → HallView P → (day day' : SourceView) → (out out' : SinkView) → Status → Type 0
DeploysIn telling old new day day' out out' status =
    (IsUngiven day day' status × (new ≡ old) × (out' ≡ out))
    ⊎ ((drafts : List Draft) × (outcome : Outcome) × GivesManifest day day' (Ok drafts) × Comes telling old new 0 (events.Deployed drafts) outcome × WritesSo outcome out out' status)
