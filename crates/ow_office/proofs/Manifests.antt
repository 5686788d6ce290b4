-- A manifest that is read up to one byte too many is the whole one.
use Rattle.std.proofs.Common.{◌≡◌, ◌≤◌, ◌<◌, ℕ, zero, suc, Bool, true, false, List, [], ◌∷◌, Option, Some, None, IfSome, ◌≢◌, Result, Err, length, take, drop, nat_lt, option_map, ap, refl, sym, ◌∙◌, arith}
use Rattle.std.proofs.lemmas.Bool.{lt-ltb}
use Rattle.std.proofs.lemmas.List.{length-take}
use Rattle.ow_entity.specs.declared.rows.Draft.{Draft}
use Rattle.ow_tenant.specs.Reading.{ReadsBytes, most_read}
use Rattle.ow_deploy.specs.Manifest.{manifest_of}
use Rattle.ow_deploy.specs.declared.refusal.ManifestRefusal.{ManifestRefusal}
use Rattle.ow_deploy.specs.declared.refusal.ManifestRefusal.TheVariants as manifests
use Rattle.ow_command_line.specs.declared.status.Status.{Status}
use Rattle.ow_command_line.specs.declared.status.Status.TheVariants as statuses
use Rattle.ow_office.specs.Deploy.{GivesManifest}
use Rattle.ow_office.specs.Putting.{IsRefusalOf, IsUngiven}
use Rattle.ow_office.specs.Sides.{SourceView}

take_whole : (n : ℕ) (xs : List ℕ) → length xs ≤ n → take n xs ≡ xs
take_whole zero [] le = refl
take_whole (suc n) [] le = refl
take_whole zero (x ∷ xs) le = absurd (omega (arith, le))
take_whole (suc n) (x ∷ xs) le = ap (λ z. x ∷ z) (take_whole n xs (omega (arith, le)))

long_same : (bytes : List ℕ) → 4194304 < length bytes → manifest_of (take most_read bytes) ≡ manifest_of bytes
unfolding manifest_of
long_same bytes long =
    let part : 4194304 < length (take most_read bytes) = omega (arith, long, length-take most_read bytes) in
    rw (lt-ltb 4194304 (length (take most_read bytes)) part, lt-ltb 4194304 (length bytes) long) refl

whole_same : (bytes : List ℕ) → manifest_of (take most_read bytes) ≡ manifest_of bytes
whole_same bytes = go (nat_lt 4194304 (length bytes)) refl
  where
    go : (b : Bool) → nat_lt 4194304 (length bytes) ≡ b → manifest_of (take most_read bytes) ≡ manifest_of bytes
    go true is = long_same bytes (grind (arith, is))
    go false is = ap (λ (xs : List ℕ). manifest_of xs) (take_whole most_read bytes (grind (arith, is)))

gives_told : (left left' : Option (List ℕ)) (text : List ℕ) (want : Result (List Draft) ManifestRefusal) → ReadsBytes left left' text → manifest_of text ≡ want → IfSome left (λ bytes. want ≡ manifest_of bytes)
gives_told None left' text want reads is = tt
gives_told (Some bytes) left' text want (front, rest) is = sym is ∙ ap (λ (xs : List ℕ). manifest_of xs) front ∙ whole_same bytes

gives_left : (left left' : Option (List ℕ)) (text : List ℕ) → ReadsBytes left left' text → left' ≡ option_map (drop most_read) left
gives_left None left' text reads = reads
gives_left (Some bytes) left' text (front, rest) = rest

pub gives_manifest : (before after : SourceView) (text : List ℕ) (want : Result (List Draft) ManifestRefusal) → ReadsBytes before.left after.left text → manifest_of text ≡ want → GivesManifest before after want
gives_manifest before after text want reads is = record { told = gives_told before.left after.left text want reads is; leaves = gives_left before.left after.left text reads }

-- how the command ends where the manifest is refused
pub refused_ungiven : (before after : SourceView) (refusal : ManifestRefusal) (status : Status) → (refusal ≢ manifests.NoMemory → GivesManifest before after (Err refusal))
    → IsRefusalOf refusal status → IsUngiven before after status
refused_ungiven before after refusal (statuses.BadManifest number text) gives is = (refusal, gives is.0, is)
refused_ungiven before after refusal statuses.NoMemory gives is = tt
refused_ungiven before after refusal statuses.Ok gives never = absurd never
refused_ungiven before after refusal (statuses.BadDay statement) gives never = absurd never
refused_ungiven before after refusal statuses.BadWords gives never = absurd never
refused_ungiven before after refusal statuses.ReadFault gives never = absurd never
refused_ungiven before after refusal statuses.WriteFault gives never = absurd never
refused_ungiven before after refusal statuses.StoreFault gives never = absurd never
refused_ungiven before after refusal (statuses.BadTable row) gives never = absurd never
refused_ungiven before after refusal statuses.DayTooLong gives never = absurd never
refused_ungiven before after refusal (statuses.BadKept key) gives never = absurd never
refused_ungiven before after refusal (statuses.Undeployed place number text) gives never = absurd never
refused_ungiven before after refusal (statuses.Passed words tenants) gives never = absurd never
