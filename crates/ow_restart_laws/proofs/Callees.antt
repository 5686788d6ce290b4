-- What a name calls among rows that last: its version counts from 1, and it is reached through no binding in a package.
use Rattle.std.proofs.Common.{◌≡◌, ◌&&◌, ℕ, Bool, true, List, find, IfSome, Option, Some, None, option_map, refl, subst}
use Rattle.std.specs.Str.{bytes_eq}
use Rattle.std.proofs.lemmas.Bool.{and_from, and_parts}
use Rattle.std.proofs.lemmas.Option.{IfSome_then}
use Rattle.ow_names.specs.declared.full.FullName.{FullName}
use Rattle.ow_entity.specs.Exec.{components_of}
use Rattle.ow_entity.specs.declared.actions.Action.{Action}
use Rattle.ow_entity.specs.declared.kinds.EntityKind.TheVariants as kinds
use Rattle.ow_entity.specs.declared.packages.Package.{Package}
use Rattle.ow_entity.specs.declared.rows.Row.{Row}
use Rattle.ow_entity.specs.declared.rows.Row.TheVariants as rows
use Rattle.ow_keep.specs.Allowed.{are_few, are_written, is_binding, is_called, is_version, stands_alone}
use Rattle.ow_entity.specs.Finish.{as_action, as_package}
use Rattle.ow_packages.specs.Access.{action_at, if_reached, is_reached as is_open_to, lying_in, package_at, package_of, reached_package}
use Rattle.ow_packages.specs.Effective.{Behind, behind, behind_bare, behind_in, behind_name, behind_package, effective, effective_of}
use Rattle.ow_packages.specs.declared.effective_action.Effective.{Effective}
use Rattle.ow_tables.specs.Rows.{is_row, standing}
use Rattle.ow_restart_laws.specs.Lasting.{AreWritable, IsLastingRow}
use Rattle.ow_restart_laws.proofs.Each.{all_found}
use Rattle.ow_tenant.proofs.HomeLaws.{some_if, some_mapped, some_then}

pub found_lasts : (p : Row → Bool) (rs : List Row) → AreWritable rs → IfSome (find p rs) IsLastingRow
found_lasts p rs all = IfSome_then (find p rs) (all_found IsLastingRow p rs all) (λ r h. h.0)

abbrev IsGoodAction : Action → Type 0
IsGoodAction a = is_version a.version ≡ true

abbrev IsGoodPackage : Package → Type 0
IsGoodPackage p = stands_alone p.name ≡ true

as_action_good : (o : Option Row) → IfSome o IsLastingRow → IfSome (as_action o) IsGoodAction
as_action_good None h = tt
as_action_good (Some (rows.Action a)) h = (and_parts (is_version a.version) (are_few (components_of a.exec) && are_written a.name.namespace (components_of a.exec)) h.lasts.fit).0
as_action_good (Some (rows.Package p)) h = tt
as_action_good (Some (rows.Rule r)) h = tt
as_action_good (Some (rows.Trigger t)) h = tt

as_package_good : (o : Option Row) → IfSome o IsLastingRow → IfSome (as_package o) IsGoodPackage
as_package_good None h = tt
as_package_good (Some (rows.Action a)) h = tt
as_package_good (Some (rows.Rule r)) h = tt
as_package_good (Some (rows.Trigger t)) h = tt
as_package_good (Some (rows.Package p)) h =
    (and_parts (stands_alone p.name) (is_binding p.name.namespace p.binding) (and_parts (is_version p.version) (stands_alone p.name && is_binding p.name.namespace p.binding) h.lasts.fit).1).0

reached_good : (namespace from : List ℕ) (o : Option Package) → IfSome o IsGoodPackage → IfSome (if_reached namespace from o) IsGoodPackage
reached_good namespace from None h = tt
reached_good namespace from (Some p) h = some_if IsGoodPackage (is_open_to namespace from p) (Some p) None h tt

-- what a name leads to: an action whose version counts from 1, and a package that is in no package, if it leads through one
abbrev IsGoodBehind : Behind → Type 0
IsGoodBehind b = (is_version b.action.version ≡ true) × IfSome b.binding IsGoodPackage

called_good : (a : Action) (o : Option Package) → is_version a.version ≡ true → IfSome o IsGoodPackage → is_called None a.version (option_map (λ p. p.name) o) ≡ true
called_good a None h k = and_from (is_version a.version) true h refl
called_good a (Some p) h k = and_from (is_version a.version) (stands_alone p.name) h k

module _ (rs : List Row) (all : AreWritable rs) where
  action_good : (name : FullName) → IfSome (action_at (standing rs) name) IsGoodAction
  action_good name = as_action_good (find (is_row kinds.Action name) rs) (found_lasts (is_row kinds.Action name) rs all)

  package_good : (name : FullName) (from : List ℕ) → IfSome (reached_package (standing rs) name from) IsGoodPackage
  package_good name from =
      reached_good name.namespace from (package_at (standing rs) name) (as_package_good (find (is_row kinds.Package name) rs) (found_lasts (is_row kinds.Package name) rs all))

  bare_good : (name : FullName) (from : List ℕ) → IfSome (behind_bare (standing rs) name from) IsGoodBehind
  bare_good name from = some_if IsGoodBehind (bytes_eq name.namespace from) (option_map _ (action_at (standing rs) name)) None
      (some_mapped IsGoodAction IsGoodBehind _ (action_at (standing rs) name) (λ a h. (h, tt)) (action_good name)) tt

  in_good : (name : FullName) (p : Package) (target : Option FullName) → IsGoodPackage p → IfSome (behind_in (standing rs) name p target) IsGoodBehind
  in_good name p None h = some_mapped IsGoodAction IsGoodBehind _ (action_at (standing rs) name) (λ a k. (k, tt)) (action_good name)
  in_good name p (Some target) h = some_then IsGoodPackage IsGoodBehind _ (reached_package (standing rs) target p.name.namespace)
      (λ bound alone. some_mapped IsGoodAction IsGoodBehind _ (action_at (standing rs) (lying_in target name.name)) (λ a k. (k, h)) (action_good (lying_in target name.name)))
      (package_good target p.name.namespace)

  by_package : (name : FullName) (o : Option Package) → IfSome o IsGoodPackage → IfSome (behind_package (standing rs) name o) IsGoodBehind
  by_package name None h = tt
  by_package name (Some p) h = in_good name p p.binding h

  by_name : (name : FullName) (from : List ℕ) (o : Option FullName) → IfSome (behind_name (standing rs) name from o) IsGoodBehind
  by_name name from None = bare_good name from
  by_name name from (Some bundle) = by_package name (reached_package (standing rs) bundle from) (package_good bundle from)

  -- what a name calls
  effective_good : (name : FullName) (from : List ℕ) → IfSome (effective (standing rs) name from) (λ (e : Effective). is_called None e.action.version e.binding ≡ true)
  unfolding effective
  effective_good name from = some_mapped IsGoodBehind (λ (e : Effective). is_called None e.action.version e.binding ≡ true) effective_of (behind (standing rs) name from)
      (λ b h. called_good b.action b.binding h.0 h.1) (by_name name from (package_of name))

  pub callee_good : (name : FullName) (from : List ℕ) (e : Effective) → effective (standing rs) name from ≡ Some e → is_called None e.action.version e.binding ≡ true
  callee_good name from e is = subst (λ (o : Option Effective). IfSome o (λ (e : Effective). is_called None e.action.version e.binding ≡ true)) is (effective_good name from)
