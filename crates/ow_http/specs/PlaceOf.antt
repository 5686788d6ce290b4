-- Which path names what, segment by segment. Words are compared as they came.
use Rattle.std.specs.Prelude.{ℕ, List, [], ◌∷◌, Bool, ◌&&◌, nat_lt, length, codes, if◌then◌else◌, Option, Some, None}
use Rattle.std.specs.Str.{bytes_eq}
use Rattle.ow_entity.specs.declared.kinds.EntityKind.{EntityKind}
use Rattle.ow_entity.specs.declared.kinds.EntityKind.TheVariants.{Action, Package, Rule, Trigger}
use Rattle.ow_http.specs.declared.route.Part.TheVariants.{Whole, Response, Logs}
use Rattle.ow_http.specs.declared.place.Place.{Place}
use Rattle.ow_http.specs.declared.place.Place.TheVariants as place
use Rattle.ow_names.specs.Path.{parts as segments}

-- a part of a path is any segment that isn't empty
abbrev pub is_part : List ℕ → Bool
is_part segment = nat_lt 0 (length segment)

abbrev pub in_kind : EntityKind → List (List ℕ) → Option Place
in_kind kind [] = Some (place.List kind)
in_kind kind (name ∷ []) = if is_part name then Some (place.Entity kind) else None
in_kind kind (name ∷ other ∷ rest) = None

abbrev pub in_actions : List (List ℕ) → Option Place
in_actions (parent ∷ name ∷ []) = if is_part parent && is_part name then Some place.Packaged else None
in_actions rest = in_kind Action rest

abbrev pub part_of : List ℕ → Option Place
part_of word =
    if bytes_eq word (codes "logs") then Some (place.Activation Logs)
    else if bytes_eq word (codes "result") then Some (place.Activation Response)
    else None

abbrev pub in_activations : List (List ℕ) → Option Place
in_activations [] = Some place.Activations
in_activations (id ∷ []) = if is_part id then Some (place.Activation Whole) else None
in_activations (id ∷ word ∷ []) = if is_part id then part_of word else None
in_activations (id ∷ word ∷ other ∷ rest) = None

abbrev pub in_namespace : List (List ℕ) → Option Place
in_namespace [] = None
in_namespace (word ∷ rest) =
    if bytes_eq word (codes "actions") then in_actions rest
    else if bytes_eq word (codes "activations") then in_activations rest
    else if bytes_eq word (codes "packages") then in_kind Package rest
    else if bytes_eq word (codes "rules") then in_kind Rule rest
    else if bytes_eq word (codes "triggers") then in_kind Trigger rest
    else None

abbrev pub in_namespaces : List (List ℕ) → Option Place
in_namespaces [] = Some place.Namespaces
in_namespaces (namespace ∷ rest) = if is_part namespace then in_namespace rest else None

-- what follows a web action's name: nothing, or a rest that isn't empty
abbrev pub with_rest : List (List ℕ) → Option Place
with_rest [] = Some place.Web
with_rest ([] ∷ []) = None
with_rest rest = Some place.WebRest

abbrev pub in_web : List (List ℕ) → Option Place
in_web (namespace ∷ parent ∷ name ∷ rest) =
    if is_part namespace && (is_part parent && is_part name) then with_rest rest else None
in_web other = None

abbrev pub in_version : List (List ℕ) → Option Place
in_version [] = None
in_version (word ∷ rest) =
    if bytes_eq word (codes "namespaces") then in_namespaces rest
    else if bytes_eq word (codes "web") then in_web rest
    else None

-- the routes are under `/api/v1`
abbrev pub in_root : List (List ℕ) → Option Place
in_root (start ∷ api ∷ version ∷ rest) =
    if bytes_eq start [] && (bytes_eq api (codes "api") && bytes_eq version (codes "v1")) then in_version rest else None
in_root other = None

-- what a path names. A slash at its start has an empty segment in front
unfoldable pub place_of : List ℕ → Option Place
place_of path = in_root (segments path)
