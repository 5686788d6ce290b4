-- The drafts that a manifest gives, or the first thing wrong with it.
use Rattle.std.specs.Prelude.{ℕ, suc, zero, List, [], ◌∷◌, Bool, true, false, not, ◌&&◌, ◌||◌, nat_lt, nat_le, codes, length, find, position, if◌then◌else◌, Option, Some, None, option_map, is_some, is_none, Result, Ok, Err}
use Rattle.std.specs.List.{list_all}
use Rattle.std.specs.Str.{bytes_eq, is_utf8}
use Rattle.toml.specs.Data.{Data, string, Members, no_members, member, get_member, as_table, depth}
use Rattle.toml.specs.Parse.{parse_document}
use Rattle.ow_value.specs.Nesting.{most_nested}
use Rattle.ow_names.specs.Name.{first_fault}
use Rattle.ow_names.specs.Path.{resolved}
use Rattle.ow_names.specs.Slash.{is_slash}
use Rattle.ow_names.specs.declared.full.FullName.{FullName}
use Rattle.ow_names.specs.declared.refusal.NameRefusal.TheVariants.{BadPath}
use Rattle.ow_entity.specs.Body.{entity_of, or_bad_name}
use Rattle.ow_entity.specs.Chain.{and_then, first_some, result_map}
use Rattle.ow_entity.specs.declared.kinds.EntityKind.{EntityKind}
use Rattle.ow_entity.specs.declared.kinds.EntityKind.TheVariants as kinds
use Rattle.ow_entity.specs.declared.refusal.EntityRefusal.{EntityRefusal}
use Rattle.ow_entity.specs.declared.refusal.EntityRefusal.TheVariants.{BadName}
use Rattle.ow_entity.specs.declared.rows.Draft.{Draft}
use Rattle.ow_deploy.specs.Entries.{Listing, listed}
use Rattle.ow_deploy.specs.Values.{is_plain, value_of}
use Rattle.ow_deploy.specs.declared.manifest.TheConstants.{MOST_BYTES}
use Rattle.ow_deploy.specs.declared.refusal.ManifestRefusal.{ManifestRefusal}
use Rattle.ow_deploy.specs.declared.refusal.ManifestRefusal.TheVariants.{TooLarge, NotToml, BadManifest, TooDeep, BadDraft}

-- ---- the namespace of all drafts

abbrev pub name_given : Option Data → Option (List ℕ)
name_given (Some (string s)) = if is_none (first_fault s) then Some s else None
name_given other = None

-- it must be there, and be a text that is a name
abbrev pub namespace_of : Members → Option (List ℕ)
namespace_of top = name_given (get_member (codes "namespace") top)

-- ---- the names at the top

abbrev pub is_kind : List ℕ → Bool
is_kind name = ((bytes_eq name (codes "packages") || bytes_eq name (codes "actions")) || bytes_eq name (codes "triggers")) || bytes_eq name (codes "rules")

abbrev pub is_right : List ℕ → Data → Bool
is_right name d = bytes_eq name (codes "namespace") || (is_kind name && is_some (as_table d))

-- the first name that is unknown, or whose value is no table
abbrev pub wrong_name : Members → Option (List ℕ)
wrong_name no_members = None
wrong_name (member name d ms) = if is_right name d then wrong_name ms else Some name

-- ---- the bodies

-- a table without floats, dates and times
abbrev pub is_body : Data → Bool
is_body d = is_some (as_table d) && is_plain d

-- the path of the first that is none
abbrev pub wrong_body : List Listing → Option (List ℕ)
wrong_body es = option_map (λ e. e.path) (find (λ e. not (is_body e.body)) es)

abbrev pub is_shallow : Listing → Bool
is_shallow e = nat_le (depth e.body) most_nested

abbrev pub deep_body : List Listing → Option ManifestRefusal
deep_body es = if list_all is_shallow es then None else Some TooDeep

-- ---- the drafts

-- no path begins with a slash, and only an action's may have one
abbrev pub slash_fits : EntityKind → Option ℕ → Bool
slash_fits kind None = true
slash_fits kinds.Action (Some zero) = false
slash_fits kinds.Action (Some (suc n)) = true
slash_fits kind (Some place) = false

abbrev pub is_path : EntityKind → List ℕ → Bool
is_path kind path = slash_fits kind (position is_slash path)

-- the name that a path is in the namespace
abbrev pub name_at : List ℕ → EntityKind → List ℕ → Result FullName EntityRefusal
name_at home kind path = if is_path kind path then or_bad_name (resolved home path) else Err (BadName BadPath)

abbrev pub draft_at : List ℕ → Listing → Result Draft EntityRefusal
draft_at home e = and_then (name_at home e.kind e.path) (λ name. entity_of e.kind name (value_of e.body))

-- the drafts of all, or what is wrong with the first that gives none
abbrev pub drafts_at : List ℕ → List Listing → Result (List Draft) EntityRefusal
drafts_at home [] = Ok []
drafts_at home (e ∷ es) = and_then (draft_at home e) (λ d. result_map (λ ds. d ∷ ds) (drafts_at home es))

abbrev pub or_bad_draft : Result (List Draft) EntityRefusal → Result (List Draft) ManifestRefusal
or_bad_draft (Ok ds) = Ok ds
or_bad_draft (Err e) = Err (BadDraft e)

-- ---- the manifest

-- what is wrong with the names at the top and with the bodies, in the order in which it is looked for
abbrev pub first_wrong : Option (List ℕ) → List Listing → Option ManifestRefusal
first_wrong wrong es = first_some (option_map BadManifest wrong ∷ option_map BadManifest (wrong_body es) ∷ deep_body es ∷ [])

abbrev pub drafts_unless : Option ManifestRefusal → List ℕ → List Listing → Result (List Draft) ManifestRefusal
drafts_unless None home es = or_bad_draft (drafts_at home es)
drafts_unless (Some e) home es = Err e

abbrev pub of_namespace : Option (List ℕ) → Members → Result (List Draft) ManifestRefusal
of_namespace None top = Err (BadManifest (codes "namespace"))
of_namespace (Some home) top = drafts_unless (first_wrong (wrong_name top) (listed top)) home (listed top)

abbrev pub of_top : Option Members → Result (List Draft) ManifestRefusal
of_top None = Err NotToml
of_top (Some top) = of_namespace (namespace_of top) top

-- a text is UTF-8
unfoldable pub document : List ℕ → Option Members
document text = if is_utf8 text then parse_document text else None

-- the drafts of the text, in the order in which they are to be put, or the first thing wrong with it
unfoldable pub manifest_of : List ℕ → Result (List Draft) ManifestRefusal
manifest_of text = if nat_lt MOST_BYTES (length text) then Err TooLarge else of_top (document text)
