-- The routes find in a path what its segments say.
use Rattle.std.proofs.Common.{◌≡◌, ℕ, List, [], ◌∷◌, ◌++◌, Option, Some, None, Bool, true, false, cond, refl, sym, ap, ◌∙◌, codes, nat_lt, length, option_map, ◌&&◌}
use Rattle.std.specs.Str.{bytes_eq}
use Rattle.matchit.specs.Rows.{RowsOf}
use Rattle.matchit.specs.Seek.{first}
use Rattle.matchit.specs.Router.{RouteOf, rename, map_key}
use Rattle.matchit.proofs.RenameLemmas.{first-rename}
use Rattle.matchit.proofs.OnLiterals.{matchit_on_literals}
use Rattle.ow_entity.specs.declared.kinds.EntityKind.{EntityKind}
use Rattle.ow_entity.specs.declared.kinds.EntityKind.TheVariants.{Action, Package, Rule, Trigger}
use Rattle.ow_http.specs.declared.route.Part.TheVariants.{Whole, Response, Logs}
use Rattle.ow_http.specs.declared.place.Place.{Place}
use Rattle.ow_http.specs.declared.place.Place.TheVariants as place
use Rattle.ow_http.specs.PlaceOf.{in_kind, in_actions, in_activations, in_namespace, in_namespaces, with_rest, in_web, in_version, in_root, place_of}
use Rattle.ow_http.specs.Table.{with_route, with_lists, with_entities, with_activations, with_web_actions, office_routes, found_of}
use Rattle.ow_http.proofs.Walk.{under}
use Rattle.ow_http.proofs.BySegments.{AreBytes, Reads, Ends, on_word}
use Rattle.ow_http.proofs.ByPart.{on_part, slash}
use Rattle.ow_http.proofs.Rows.{ends, here, on_rest, Reads-as, Reads-none, Reads-word, Reads-part, Reads-rest, Ends-more, Ends-both, Ends-here}

-- a part of the path
abbrev any : List ℕ
any = 256 ∷ []

none-in-part : (b : Bool) → cond {A = Option Place} b None None ≡ None
none-in-part true = refl
none-in-part false = refl

abbrev kind_rows : EntityKind → RowsOf Place
kind_rows kind = under slash (under any (ends (place.Entity kind))) ++ ends (place.List kind)

kind-ends : (kind : EntityKind) → Ends (kind_rows kind) (in_kind kind)
kind-ends kind =
    Ends-both _ _ (in_kind kind) (Reads-as _ (on_part (here (place.Entity kind))) (in_kind kind) (Reads-part _ _ (Ends-here (place.Entity kind))) same) refl
  where
    same : (s : List ℕ) (ss : List (List ℕ)) → on_part (here (place.Entity kind)) (s ∷ ss) ≡ in_kind kind (s ∷ ss)
    same s [] = refl
    same s (n ∷ ss) = none-in-part (nat_lt 0 (length s))

-- after an action's name or a package's
abbrev in_package : List (List ℕ) → Option Place
in_package [] = Some (place.Entity Action)
in_package (s ∷ ss) = on_part (here place.Packaged) (s ∷ ss)

abbrev action_rows : RowsOf Place
action_rows = under slash (under any (under slash (under any (ends place.Packaged)) ++ ends (place.Entity Action))) ++ ends (place.List Action)

both-parts : (a b : Bool) (o : Option Place) → cond a (cond b o None) None ≡ cond (a && b) o None
both-parts true b o = refl
both-parts false b o = refl

action-ends : Ends action_rows in_actions
action-ends =
    Ends-both _ _ in_actions (Reads-as _ (on_part in_package) in_actions (Reads-part _ in_package inner) same) refl
  where
    inner : Ends (under slash (under any (ends place.Packaged)) ++ ends (place.Entity Action)) in_package
    inner = Ends-both _ _ in_package (Reads-as _ (on_part (here place.Packaged)) in_package (Reads-part _ _ (Ends-here place.Packaged)) (λ s ss. refl)) refl

    same : (s : List ℕ) (ss : List (List ℕ)) → on_part in_package (s ∷ ss) ≡ in_actions (s ∷ ss)
    same s [] = refl
    same s (n ∷ []) = both-parts (nat_lt 0 (length s)) (nat_lt 0 (length n)) (Some place.Packaged)
    same s (n ∷ o ∷ ss) = ap (λ z. cond (nat_lt 0 (length s)) z None) (none-in-part (nat_lt 0 (length n))) ∙ none-in-part (nat_lt 0 (length s))

abbrev part_words : RowsOf Place
part_words = under (codes "logs") (ends (place.Activation Logs)) ++ (under (codes "result") (ends (place.Activation Response)) ++ [])

abbrev in_parts : List (List ℕ) → Option Place
in_parts ss = on_word (codes "logs") (here (place.Activation Logs)) (on_word (codes "result") (here (place.Activation Response)) None ss) ss

abbrev nowhere : List (List ℕ) → Option Place
nowhere ss = None

part-reads : Reads part_words in_parts
part-reads =
    let result = Reads-word (codes "result") (ends (place.Activation Response)) [] (here (place.Activation Response)) nowhere refl refl (Ends-here _) Reads-none in
    Reads-word (codes "logs") (ends (place.Activation Logs)) (under (codes "result") (ends (place.Activation Response)) ++ []) (here (place.Activation Logs))
    (on_word (codes "result") (here (place.Activation Response)) None) refl refl (Ends-here _) result

abbrev in_activation : List (List ℕ) → Option Place
in_activation [] = Some (place.Activation Whole)
in_activation (s ∷ ss) = in_parts (s ∷ ss)

abbrev activation_rows : RowsOf Place
activation_rows = under slash (under any (under slash part_words ++ ends (place.Activation Whole))) ++ ends place.Activations

activation-ends : Ends activation_rows in_activations
activation-ends =
    Ends-both _ _ in_activations (Reads-as _ (on_part in_activation) in_activations (Reads-part _ in_activation inner) same) refl
  where
    inner : Ends (under slash part_words ++ ends (place.Activation Whole)) in_activation
    inner = Ends-both _ _ in_activation (Reads-as _ in_parts in_activation part-reads (λ s ss. refl)) refl

    none : (a b : Bool) → cond {A = Option Place} a None (cond b None None) ≡ None
    none true b = refl
    none false b = none-in-part b

    same : (s : List ℕ) (ss : List (List ℕ)) → on_part in_activation (s ∷ ss) ≡ in_activations (s ∷ ss)
    same s [] = refl
    same s (n ∷ []) = refl
    same s (n ∷ o ∷ ss) = ap (λ z. cond (nat_lt 0 (length s)) z None) (none _ _) ∙ none-in-part (nat_lt 0 (length s))

-- the words below a namespace, the last ones first
abbrev from_triggers : RowsOf Place
from_triggers = under (codes "triggers") (kind_rows Trigger) ++ []

abbrev from_rules : RowsOf Place
from_rules = under (codes "rules") (kind_rows Rule) ++ from_triggers

abbrev from_packages : RowsOf Place
from_packages = under (codes "packages") (kind_rows Package) ++ from_rules

abbrev from_activations : RowsOf Place
from_activations = under (codes "activations") activation_rows ++ from_packages

abbrev namespace_words : RowsOf Place
namespace_words = under (codes "actions") action_rows ++ from_activations

abbrev by_triggers : List (List ℕ) → Option Place
by_triggers ss = on_word (codes "triggers") (in_kind Trigger) None ss

abbrev by_rules : List (List ℕ) → Option Place
by_rules ss = on_word (codes "rules") (in_kind Rule) (by_triggers ss) ss

abbrev by_packages : List (List ℕ) → Option Place
by_packages ss = on_word (codes "packages") (in_kind Package) (by_rules ss) ss

abbrev by_activations : List (List ℕ) → Option Place
by_activations ss = on_word (codes "activations") in_activations (by_packages ss) ss

abbrev by_actions : List (List ℕ) → Option Place
by_actions ss = on_word (codes "actions") in_actions (by_activations ss) ss

namespace-reads : Reads namespace_words in_namespace
namespace-reads =
    let triggers = Reads-word (codes "triggers") (kind_rows Trigger) [] (in_kind Trigger) nowhere refl refl (kind-ends Trigger) Reads-none in
    let rules = Reads-word (codes "rules") (kind_rows Rule) from_triggers (in_kind Rule) by_triggers refl refl (kind-ends Rule) triggers in
    let packages = Reads-word (codes "packages") (kind_rows Package) from_rules (in_kind Package) by_rules refl refl (kind-ends Package) rules in
    let activations = Reads-word (codes "activations") activation_rows from_packages in_activations by_packages refl refl activation-ends packages in
    let actions = Reads-word (codes "actions") action_rows from_activations in_actions by_activations refl refl action-ends activations in
    Reads-as namespace_words by_actions in_namespace actions (λ s ss. refl)

abbrev namespaces_rows : RowsOf Place
namespaces_rows = under slash (under any (under slash namespace_words)) ++ ends place.Namespaces

namespaces-ends : Ends namespaces_rows in_namespaces
namespaces-ends =
    Ends-both _ _ in_namespaces (Reads-as _ (on_part in_namespace) in_namespaces (Reads-part _ in_namespace (Ends-more _ in_namespace namespace-reads refl)) (λ s ss. refl)) refl

-- a web action's name, and what follows it
abbrev web_name : RowsOf Place
web_name = under any (under slash ((257 ∷ [], place.WebRest) ∷ []) ++ ends place.Web)

abbrev web_package : RowsOf Place
web_package = under any (under slash web_name)

abbrev web_rows : RowsOf Place
web_rows = under slash (under any (under slash web_package))

abbrev in_web_name : List (List ℕ) → Option Place
in_web_name [] = None
in_web_name (s ∷ ss) = on_part with_rest (s ∷ ss)

abbrev in_web_package : List (List ℕ) → Option Place
in_web_package [] = None
in_web_package (s ∷ ss) = on_part in_web_name (s ∷ ss)

web-ends : Ends web_rows in_web
web-ends = Ends-more _ in_web (Reads-as _ (on_part in_web_package) in_web (Reads-part _ in_web_package parent) same) refl
  where
    rest : (s : List ℕ) (ss : List (List ℕ)) → on_rest place.WebRest (s ∷ ss) ≡ with_rest (s ∷ ss)
    rest [] [] = refl
    rest [] (n ∷ ss) = refl
    rest (x ∷ s) ss = refl

    named : Ends (under slash web_name) in_web_name
    named = Ends-more web_name in_web_name
        (Reads-as web_name (on_part with_rest) in_web_name (Reads-part _ with_rest (Ends-both _ _ with_rest (Reads-as _ (on_rest place.WebRest) with_rest (Reads-rest place.WebRest) rest) refl)) (λ s ss. refl)) refl

    parent : Ends (under slash web_package) in_web_package
    parent = Ends-more web_package in_web_package (Reads-as web_package (on_part in_web_name) in_web_package (Reads-part _ in_web_name named) (λ s ss. refl)) refl

    same : (s : List ℕ) (ss : List (List ℕ)) → on_part in_web_package (s ∷ ss) ≡ in_web (s ∷ ss)
    same s [] = none-in-part (nat_lt 0 (length s))
    same s (n ∷ []) = ap (λ z. cond (nat_lt 0 (length s)) z None) (none-in-part (nat_lt 0 (length n))) ∙ none-in-part (nat_lt 0 (length s))
    same s (n ∷ o ∷ ss) = ap (λ z. cond (nat_lt 0 (length s)) z None) (both-parts (nat_lt 0 (length n)) (nat_lt 0 (length o)) (with_rest ss))
        ∙ both-parts (nat_lt 0 (length s)) (nat_lt 0 (length n) && nat_lt 0 (length o)) (with_rest ss)

abbrev version_words : RowsOf Place
version_words = under (codes "namespaces") namespaces_rows ++ (under (codes "web") web_rows ++ [])

abbrev by_web : List (List ℕ) → Option Place
by_web ss = on_word (codes "web") in_web None ss

abbrev by_namespaces : List (List ℕ) → Option Place
by_namespaces ss = on_word (codes "namespaces") in_namespaces (by_web ss) ss

version-reads : Reads version_words in_version
version-reads =
    let web = Reads-word (codes "web") web_rows [] in_web nowhere refl refl web-ends Reads-none in
    let both = Reads-word (codes "namespaces") namespaces_rows (under (codes "web") web_rows ++ []) in_namespaces by_web refl refl namespaces-ends web in
    Reads-as version_words by_namespaces in_version both (λ s ss. refl)

abbrev version_rows : RowsOf Place
version_rows = under (codes "v1") (under slash version_words) ++ []

abbrev api_rows : RowsOf Place
api_rows = under (codes "api") (under slash version_rows) ++ []

-- all the routes
abbrev root_rows : RowsOf Place
root_rows = under [] (under slash api_rows) ++ []

abbrev by_version : List (List ℕ) → Option Place
by_version ss = on_word (codes "v1") in_version None ss

abbrev in_api : List (List ℕ) → Option Place
in_api [] = None
in_api (s ∷ ss) = by_version (s ∷ ss)

abbrev by_api : List (List ℕ) → Option Place
by_api ss = on_word (codes "api") in_api None ss

abbrev in_start : List (List ℕ) → Option Place
in_start [] = None
in_start (s ∷ ss) = by_api (s ∷ ss)

abbrev by_start : List (List ℕ) → Option Place
by_start ss = on_word [] in_start None ss

root-reads : Reads root_rows in_root
root-reads =
    let version = Reads-word (codes "v1") (under slash version_words) [] in_version nowhere refl refl (Ends-more version_words in_version version-reads refl) Reads-none in
    let api = Reads-word (codes "api") (under slash version_rows) [] in_api nowhere refl refl (Ends-more version_rows in_api (Reads-as version_rows by_version in_api version (λ s ss. refl)) refl) Reads-none in
    let start = Reads-word [] (under slash api_rows) [] in_start nowhere refl refl (Ends-more api_rows in_start (Reads-as api_rows by_api in_start api (λ s ss. refl)) refl) Reads-none in
    Reads-as root_rows by_start in_root start same
  where
    none : (a b : Bool) → cond {A = Option Place} a (cond b None None) None ≡ None
    none a b = ap (λ z. cond a z None) (none-in-part b) ∙ none-in-part a

    same : (s : List ℕ) (ss : List (List ℕ)) → by_start (s ∷ ss) ≡ in_root (s ∷ ss)
    same s [] = none-in-part (bytes_eq s [])
    same s (n ∷ []) = none (bytes_eq s []) (bytes_eq n (codes "api"))
    same s (n ∷ o ∷ ss) =
        ap (λ z. cond (bytes_eq s []) z None) (both-parts (bytes_eq n (codes "api")) (bytes_eq o (codes "v1")) (in_version ss))
        ∙ both-parts (bytes_eq s []) (bytes_eq n (codes "api") && bytes_eq o (codes "v1")) (in_version ss)

-- the routes as they were inserted
routes-are : rename (λ r. r.value) office_routes ≡ root_rows
unfolding matchit_on_literals with_route with_lists with_entities with_activations with_web_actions office_routes
routes-are = refl

pub found-is-place : (path : List ℕ) → AreBytes path → found_of path ≡ place_of path
unfolding found_of place_of
found-is-place path bytes =
    value_of (first office_routes path) ∙ sym (first-rename (λ r. r.value) office_routes path) ∙ ap (λ z. first z path) routes-are ∙ root-reads path bytes
  where
    value_of : (o : Option (RouteOf Place)) → option_map (λ r. r.value) o ≡ map_key (λ r. r.value) o
    value_of None = refl
    value_of (Some r) = refl
