-- The action that a name in a binding calls, as it is read step by step, and how a package is shown with its actions.
use Rattle.std.proofs.Common.{◌≡◌, ◌∙◌, ◌||◌, ℕ, Bool, true, if◌then◌else◌, List, [], ◌∷◌, Option, Some, None, is_some, option_map, option_and_then, refl, sym, ap}
use Rattle.std.specs.Str.{bytes_eq}
use Rattle.std.proofs.lemmas.Bool.{or_right}
use Rattle.ow_value.specs.Value.{V, Pairs, object, members_of}
use Rattle.ow_value.specs.Field.{pairs_in-members_of}
use Rattle.ow_value.specs.Find.{merge, with_pair}
use Rattle.ow_value.specs.View.{view}
use Rattle.ow_value.specs.declared.val.Val.{Val}
use Rattle.ow_names.specs.declared.full.FullName.{FullName}
use Rattle.ow_entity.specs.declared.actions.Action.{Action}
use Rattle.ow_entity.specs.declared.kinds.EntityKind.TheVariants as kinds
use Rattle.ow_entity.specs.declared.packages.Package.{Package}
use Rattle.ow_entity.specs.declared.rows.Row.{Row}
use Rattle.ow_entity.specs.declared.rows.Row.TheVariants as rows
use Rattle.ow_entity.specs.Finish.{as_action}
use Rattle.ow_packages.specs.Access.{if_reached, lying_in, package_at, package_of, reached_package}
use Rattle.ow_packages.specs.Effective.{Behind, behind, behind_in, behind_name, behind_package, effective, effective_of}
use Rattle.ow_packages.specs.declared.effective_action.Effective.{Effective}
use Rattle.ow_tables.specs.Rows.{found, is_row, standing}
use Rattle.ow_reads.specs.Named.{action_bound, action_in}
use Rattle.ow_reads.specs.Reading.{action_behind, action_read, target_of}
use Rattle.ow_reads.specs.Shown.{with_member}
use Rattle.ow_reads.proofs.Filters.{find_passes}
use Rattle.ow_reads.proofs.SeenLaws.{kind_is, place_of, same_bytes}

-- ---- a row that is found as an action is one

row_form : (rs : List Row) (l : FullName) (o : Option Row) → found kinds.Action l rs ≡ o → option_map (λ (a : Action). rows.Action a) (as_action o) ≡ o
row_form rs l None e = refl
row_form rs l (Some (rows.Action a)) e = refl
row_form rs l (Some (rows.Package p)) e =
    let h = kind_is kinds.Action l (rows.Package p) (find_passes (is_row kinds.Action l) (rows.Package p) rs e) in cc
row_form rs l (Some (rows.Rule x)) e =
    let h = kind_is kinds.Action l (rows.Rule x) (find_passes (is_row kinds.Action l) (rows.Rule x) rs e) in cc
row_form rs l (Some (rows.Trigger x)) e =
    let h = kind_is kinds.Action l (rows.Trigger x) (find_passes (is_row kinds.Action l) (rows.Trigger x) rs e) in cc

abbrev row_of : Effective → Row
row_of e = rows.Action e.action

unmade : (p q : Package) (o : Option Action) → option_map row_of (option_map effective_of (option_map (λ (a : Action). record { action = a; binding = Some p; inside = Some q }) o)) ≡ option_map (λ (a : Action). rows.Action a) o
unmade p q None = refl
unmade p q (Some a) = refl

by_reached : (rs : List Row) (name t : FullName) (p : Package) (o : Option Package) → reached_package (standing rs) t p.name.namespace ≡ o
    → option_map row_of (option_map effective_of (behind_in (standing rs) name p (Some t))) ≡ (if is_some o then found kinds.Action (lying_in t name.name) rs else None)
by_reached rs name t p None e = rw e refl
by_reached rs name t p (Some q) e =
    rw e (unmade p q (as_action (found kinds.Action (lying_in t name.name) rs)) ∙ row_form rs (lying_in t name.name) (found kinds.Action (lying_in t name.name) rs) refl)

-- the action that a name in a binding calls
behind_is : (rs : List Row) (name m t : FullName) (p : Package) → package_of name ≡ Some m → package_at (standing rs) m ≡ Some p → p.binding ≡ Some t
    → behind (standing rs) name name.namespace ≡ behind_in (standing rs) name p (Some t)
behind_is rs name m t p lies is binds =
    let there : m.namespace ≡ name.namespace = (place_of name m name.package refl lies).0 in
    let reached : (p.publish || bytes_eq m.namespace name.namespace) ≡ true = or_right p.publish _ (ap (λ (ns : List ℕ). bytes_eq ns name.namespace) there ∙ same_bytes name.namespace) in
    ap (behind_name (standing rs) name name.namespace) lies
    ∙ (ap (λ (o : Option Package). behind_package (standing rs) name (if_reached m.namespace name.namespace o)) is
    ∙ (ap (λ (b : Bool). behind_package (standing rs) name (if b then Some p else None)) reached
    ∙ ap (behind_in (standing rs) name p) binds))

bound_is : (rs : List Row) (name m t : FullName) (p : Package) → package_of name ≡ Some m → package_at (standing rs) m ≡ Some p → p.binding ≡ Some t
    → action_bound rs name p.name.namespace t ≡ action_behind rs name
unfolding effective
bound_is rs name m t p lies is binds =
    sym (ap (λ (o : Option Behind). option_map row_of (option_map effective_of o)) (behind_is rs name m t p lies is binds) ∙ by_reached rs name t p (reached_package (standing rs) t p.name.namespace) refl)

abbrev choice : List Row → FullName → Option FullName → Option Row
choice rs name o = if is_some o then action_behind rs name else found kinds.Action name rs

by_binding : (rs : List Row) (name m : FullName) (p : Package) (o : Option FullName) → package_of name ≡ Some m → package_at (standing rs) m ≡ Some p → p.binding ≡ o
    → action_in rs name p.name.namespace o ≡ choice rs name o
by_binding rs name m p None lies is binds = refl
by_binding rs name m p (Some t) lies is binds = bound_is rs name m t p lies is binds

-- the action of a name in a package, binding or not
pub read_in : (rs : List Row) (name m : FullName) (p : Package) → package_of name ≡ Some m → package_at (standing rs) m ≡ Some p
    → action_in rs name p.name.namespace p.binding ≡ action_read rs name
read_in rs name m p lies is =
    by_binding rs name m p p.binding lies is refl
    ∙ (ap (λ (o : Option Package). choice rs name (option_and_then (λ (x : Package). x.binding) o)) (sym is)
    ∙ ap (λ (o : Option FullName). choice rs name (target_of rs o)) (sym lies))

-- ---- one more member

pub with_one : (written : Val) (ps one r : Pairs) (name : List ℕ) (v : V) → view written ≡ object (members_of ps) → one ≡ (name, v) ∷ [] → r ≡ merge ps one
    → object (members_of r) ≡ with_member (view written) name v
with_one written ps one r name v is one_is r_is =
    ap (λ (x : Pairs). object (members_of x)) (r_is ∙ (ap (merge ps) one_is ∙ ap (λ (q : Pairs). with_pair q name v) (sym (pairs_in-members_of ps))))
    ∙ ap (λ (w : V). with_member w name v) (sym is)
