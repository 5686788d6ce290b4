-- The number and the text of each refusal of a manifest.
use Rattle.std.specs.Prelude.{ℕ, List, ◌++◌, codes}
use Rattle.ow_value.specs.declared.reader.ValueRefusal.TheVariants as values
use Rattle.ow_entity.specs.Refusal as entities
use Rattle.ow_entity.specs.declared.refusal.EntityRefusal.TheVariants as bodies
use Rattle.ow_http.specs.declared.call_refusal.CallRefusal.TheVariants as calls
use Rattle.ow_http.specs.declared.reason.Reason.TheVariants as reasons
use Rattle.ow_http.specs.Reason.{text_of}
use Rattle.ow_deploy.specs.declared.refusal.ManifestRefusal.{ManifestRefusal}
use Rattle.ow_deploy.specs.declared.refusal.ManifestRefusal.TheVariants.{TooLarge, NotToml, BadManifest, TooDeep, BadDraft, NoMemory}

abbrev pub manifest_refusal_number : ManifestRefusal → ℕ
manifest_refusal_number NoMemory = 0
manifest_refusal_number TooDeep = 3
manifest_refusal_number TooLarge = 13
manifest_refusal_number NotToml = 48
manifest_refusal_number (BadManifest field) = 49
manifest_refusal_number (BadDraft e) = entities.refusal_number e

-- for people; a number that a request may be refused with has the text that it has there
abbrev pub manifest_refusal_text : ManifestRefusal → List ℕ
manifest_refusal_text NoMemory = text_of (reasons.Call calls.NoMemory)
manifest_refusal_text TooDeep = text_of (reasons.Call (calls.BadValue values.TooDeep))
manifest_refusal_text TooLarge = text_of (reasons.Call (calls.BadEntity bodies.TooLarge))
manifest_refusal_text NotToml = codes "The manifest is no TOML."
manifest_refusal_text (BadManifest field) = codes "The manifest field " ++ field ++ codes " is wrong."
manifest_refusal_text (BadDraft e) = text_of (reasons.Call (calls.BadEntity e))
