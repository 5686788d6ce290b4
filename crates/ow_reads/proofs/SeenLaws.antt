-- What the caller may see of the rows agrees with the stored rows, wherever it is granted.
use Rattle.std.proofs.Common.{◌≡◌, ◌∙◌, ◌||◌, ◌==◌, ◌⊎◌, ℕ, Bool, true, false, if◌then◌else◌, List, [], ◌∷◌, Option, Some, None, IfSome, is_some, option_map, option_and_then, map, Less, refl, sym, ap, subst, inl, inr}
use Rattle.std.specs.List.{filter, find, list_any, AllByRecursion}
use Rattle.std.specs.List.Sorted.{IsStrictlySortedBy}
use Rattle.std.specs.Str.{bytes_eq}
use Rattle.std.proofs.lemmas.Bool.{and_from, or_left, or_right}
use Rattle.std.proofs.lemmas.Slice.Eq.{bytes_eq-Decides}
use Rattle.ow_value.specs.Value.{V, text_cmp}
use Rattle.ow_names.specs.declared.full.FullName.{FullName}
use Rattle.ow_entity.specs.declared.actions.Action.{Action}
use Rattle.ow_entity.specs.declared.kinds.EntityKind.{EntityKind}
use Rattle.ow_entity.specs.declared.kinds.EntityKind.TheVariants as kinds
use Rattle.ow_entity.specs.declared.packages.Package.{Package}
use Rattle.ow_entity.specs.declared.rows.Row.{Row}
use Rattle.ow_entity.specs.declared.rows.Row.TheVariants as rows
use Rattle.ow_entity.specs.Row.{kind_of, name_of}
use Rattle.ow_entity.specs.Written.{package_entry}
use Rattle.ow_entity.specs.Finish.{as_action, as_package}
use Rattle.ow_packages.specs.Access.{action_at, if_reached, is_shared, lying_in, package_at, package_of, reached_package}
use Rattle.ow_packages.specs.Effective.{Behind, behind_in, behind_name, behind_package, effective, effective_of}
use Rattle.ow_packages.specs.declared.effective_action.Effective.{Effective}
use Rattle.ow_tables.specs.Inside.{actions_behind, actions_if, actions_in, is_called, lies_in, lies_under, shown_actions}
use Rattle.ow_tables.specs.Rows.{AreRows, found, is_row, key, key_of, kind_place, standing, stands_in}
use Rattle.ow_value.proofs.ByTextLaws.{same_text}
use Rattle.ow_reads.specs.Named.{AreNamed, IsNamed, IsPackageNamed, bound_name}
use Rattle.ow_reads.specs.Reading.{action_behind, is_shared_at, row_read, target_of}
use Rattle.ow_reads.specs.Shown.{shown_row, shown_with}
use Rattle.ow_value.specs.ByText.{ByText}
use Rattle.ow_tenant.specs.declared.rights.Rights.{Rights}
use Rattle.ow_reads.specs.View.{belongs_to, is_bound, is_open, is_shown_by, is_visible, may_read, visible_rows}
use Rattle.ow_reads.proofs.Filters.{filter_filter, find_filter_none, find_passes}

-- ---- tests

pub same_bytes : (xs : List ℕ) → bytes_eq xs xs ≡ true
same_bytes xs = (bytes_eq-Decides xs xs).1 refl

-- ---- what is found among the rows that pass a test

-- a row that passes, or none
abbrev kept : (Row → Bool) → Option Row → Option Row
kept q None = None
kept q (Some r) = if q r then Some r else None

not_less : (k l : List ℕ) → text_cmp k l ≡ Less → bytes_eq k l ≡ false
not_less k l less = by_test (bytes_eq k l) refl
  where
    by_test : (b : Bool) → bytes_eq k l ≡ b → bytes_eq k l ≡ false
    by_test true e =
        let same : k ≡ l = (bytes_eq-Decides k l).0 e in
        let h : text_cmp k k ≡ Less = subst (λ (x : List ℕ). text_cmp k x ≡ Less) (sym same) less in
        let g = same_text k in cc
    by_test false e = e

absent_behind : (k : List ℕ) (xs : List Row) → AllByRecursion (λ y. text_cmp k y ≡ Less) (map key_of xs) → find (λ r. bytes_eq k (key_of r)) xs ≡ None
absent_behind k [] less = refl
absent_behind k (x ∷ xs) less = rw (not_less k (key_of x) less.0) (absent_behind k xs less.1)

found_kept : (k : List ℕ) (q : Row → Bool) (rs : List Row) → AreRows rs → find (λ r. bytes_eq k (key_of r)) (filter q rs) ≡ kept q (find (λ r. bytes_eq k (key_of r)) rs)
unfolding IsStrictlySortedBy
found_kept k q [] ordered = refl
found_kept k q (x ∷ xs) ordered = by_tests (bytes_eq k (key_of x)) (q x) refl refl (found_kept k q xs ordered.1)
  where
    by_tests : (b c : Bool) → bytes_eq k (key_of x) ≡ b → q x ≡ c → find (λ r. bytes_eq k (key_of r)) (filter q xs) ≡ kept q (find (λ r. bytes_eq k (key_of r)) xs)
        → find (λ r. bytes_eq k (key_of r)) (filter q (x ∷ xs)) ≡ kept q (find (λ r. bytes_eq k (key_of r)) (x ∷ xs))
    by_tests true true e f rest = rw (f, e, f) refl
    by_tests true false e f rest =
        let same : k ≡ key_of x = (bytes_eq-Decides k (key_of x)).0 e in
        let behind : AllByRecursion (λ y. text_cmp k y ≡ Less) (map key_of xs) = subst (λ (l : List ℕ). AllByRecursion (λ y. text_cmp l y ≡ Less) (map key_of xs)) (sym same) ordered.0 in
        rw (f, e, f) (find_filter_none (λ r. bytes_eq k (key_of r)) q xs (absent_behind k xs behind))
    by_tests false true e f rest = rw (f, e) rest
    by_tests false false e f rest = rw (f, e) rest

-- ---- which rows are seen

any_of : {X : Type 0} (p q : X → Bool) (x : X) (xs : List X) → find p xs ≡ Some x → q x ≡ true → list_any q xs ≡ true
any_of p q x [] is passes = cc
any_of {X = X} p q x (y ∷ ys) is passes = by_test (p y) refl (any_of p q x ys)
  where
    by_test : (b : Bool) → p y ≡ b → (find p ys ≡ Some x → q x ≡ true → list_any q ys ≡ true) → list_any q (y ∷ ys) ≡ true
    by_test true e rest =
        let h : Some y ≡ Some x = rw e at is in
        let same : y ≡ x = cc in
        or_left (q y) (list_any q ys) (subst (λ (z : X). q z ≡ true) (sym same) passes)
    by_test false e rest = or_right (q y) (list_any q ys) (rest (rw e at is) passes)

-- a row of a namespace in which the caller may read is seen
pub visible_own : (rights : ByText Rights) (rs : List Row) (r : Row) → may_read rights (name_of r).namespace ≡ true → is_visible rights rs r ≡ true
unfolding is_visible
visible_own rights rs r reads = or_left _ _ reads

-- a row that a package shows is seen
visible_by : (rights : ByText Rights) (rs : List Row) (n : FullName) (p : Package) (r : Row) → found kinds.Package n rs ≡ Some (rows.Package p) → is_open rights p ≡ true
    → (belongs_to p.name r || is_bound rs p.name.namespace p.binding r) ≡ true → is_visible rights rs r ≡ true
unfolding is_visible
visible_by rights rs n p r is opened shows =
    or_right (may_read rights (name_of r).namespace) _ (any_of (is_row kinds.Package n) (λ b. is_shown_by rights rs b r) (rows.Package p) rs is (and_from _ _ opened shows))

visible_inside : (rights : ByText Rights) (rs : List Row) (n : FullName) (p : Package) (r : Row) → found kinds.Package n rs ≡ Some (rows.Package p) → is_open rights p ≡ true
    → belongs_to p.name r ≡ true → is_visible rights rs r ≡ true
visible_inside rights rs n p r is opened inside = visible_by rights rs n p r is opened (or_left _ _ inside)

visible_bound : (rights : ByText Rights) (rs : List Row) (n t : FullName) (p : Package) (r : Row) → found kinds.Package n rs ≡ Some (rows.Package p) → is_open rights p ≡ true → p.binding ≡ Some t
    → is_some (reached_package (standing rs) t p.name.namespace) ≡ true → belongs_to t r ≡ true → is_visible rights rs r ≡ true
visible_bound rights rs n t p r is opened binds reached inside =
    visible_by rights rs n p r is opened (or_right (belongs_to p.name r) _ (subst (λ (o : Option FullName). is_bound rs p.name.namespace o r ≡ true) (sym binds) (and_from _ _ reached inside)))

-- ---- packages

as_one : (o : Option Row) (p : Package) → as_package o ≡ Some p → o ≡ Some (rows.Package p)
as_one None p is = cc
as_one (Some (rows.Action a)) p is = cc
as_one (Some (rows.Package q)) p is = let h : q ≡ p = cc in ap (λ (x : Package). Some (rows.Package x)) h
as_one (Some (rows.Rule r)) p is = cc
as_one (Some (rows.Trigger t)) p is = cc

seen_at : (rights : ByText Rights) (rs : List Row) (kind : EntityKind) (n : FullName) → AreRows rs → found kind n (visible_rows rights rs) ≡ kept (is_visible rights rs) (found kind n rs)
seen_at rights rs kind n ordered = found_kept (key kind n) (is_visible rights rs) rs ordered

-- a package that is open is seen
open_seen : (rights : ByText Rights) (rs : List Row) (n : FullName) (p : Package) → AreRows rs → package_at (standing rs) n ≡ Some p → is_open rights p ≡ true → package_at (standing (visible_rows rights rs)) n ≡ Some p
open_seen rights rs n p ordered is opened =
    let stands = as_one (found kinds.Package n rs) p is in
    let visible = visible_inside rights rs n p (rows.Package p) stands opened (or_left _ _ (same_bytes (key kinds.Package p.name))) in
    let stays : kept (is_visible rights rs) (Some (rows.Package p)) ≡ Some (rows.Package p) = rw visible refl in
    let seen : found kinds.Package n (visible_rows rights rs) ≡ Some (rows.Package p) = seen_at rights rs kinds.Package n ordered ∙ (ap (kept (is_visible rights rs)) stands ∙ stays) in
    ap as_package seen

-- each package is seen as it is stored, or not at all
as_kept : (q : Row → Bool) (o : Option Row) → (as_package (kept q o) ≡ as_package o) ⊎ (as_package (kept q o) ≡ None)
as_kept q None = inl refl
as_kept q (Some r) = by_test (q r) refl
  where
    by_test : (b : Bool) → q r ≡ b → (as_package (kept q (Some r)) ≡ as_package (Some r)) ⊎ (as_package (kept q (Some r)) ≡ None)
    by_test true e = inl (rw e refl)
    by_test false e = inr (rw e refl)

seen_or_none : (rights : ByText Rights) (rs : List Row) (n : FullName) → AreRows rs
    → (package_at (standing (visible_rows rights rs)) n ≡ package_at (standing rs) n) ⊎ (package_at (standing (visible_rows rights rs)) n ≡ None)
seen_or_none rights rs n ordered = rw (seen_at rights rs kinds.Package n ordered) (as_kept (is_visible rights rs) (found kinds.Package n rs))

-- what holds of the stored package, and also where there is none, holds of the one that is seen
seen_either : (P : Option Package → Type 0) (rights : ByText Rights) (rs : List Row) (n : FullName) → AreRows rs → P (package_at (standing rs) n) → P None → P (package_at (standing (visible_rows rights rs)) n)
seen_either P rights rs n ordered stands none =
    elim (seen_or_none rights rs n ordered) [ inl e ↦ subst P (sym e) stands | inr e ↦ subst P (sym e) none ]

shared_seen : (rights : ByText Rights) (rs : List Row) (n : FullName) → AreRows rs → is_shared (package_at (standing (visible_rows rights rs)) n) ≡ is_shared (package_at (standing rs) n)
shared_seen rights rs n ordered = by_row (package_at (standing rs) n) refl
  where
    by_row : (o : Option Package) → package_at (standing rs) n ≡ o → is_shared (package_at (standing (visible_rows rights rs)) n) ≡ is_shared (package_at (standing rs) n)
    by_row None e = seen_either (λ (x : Option Package). is_shared x ≡ is_shared (package_at (standing rs) n)) rights rs n ordered refl (rw e refl)
    by_row (Some p) e = by_test p.publish refl
      where
        by_test : (b : Bool) → p.publish ≡ b → is_shared (package_at (standing (visible_rows rights rs)) n) ≡ is_shared (package_at (standing rs) n)
        by_test true f = ap is_shared (open_seen rights rs n p ordered e (or_right (may_read rights p.name.namespace) p.publish f) ∙ sym e)
        by_test false f = seen_either (λ (x : Option Package). is_shared x ≡ is_shared (package_at (standing rs) n)) rights rs n ordered refl (sym (ap is_shared e ∙ f))

pub shared_at_seen : (rights : ByText Rights) (rs : List Row) (o : Option FullName) → AreRows rs → is_shared_at (visible_rows rights rs) o ≡ is_shared_at rs o
shared_at_seen rights rs None ordered = refl
shared_at_seen rights rs (Some n) ordered = shared_seen rights rs n ordered

-- ---- the package that a binding binds

reached_at : (t : FullName) (from : List ℕ) (o : Option Package) (p : Package) → if_reached t.namespace from o ≡ Some p → o ≡ Some p
reached_at t from None p is = cc
reached_at t from (Some q) p is = by_test (q.publish || bytes_eq t.namespace from) refl
  where
    by_test : (b : Bool) → (q.publish || bytes_eq t.namespace from) ≡ b → Some q ≡ Some p
    by_test true e = rw e at is
    by_test false e = let h : None ≡ Some p = rw e at is in cc

target_seen : (rights : ByText Rights) (rs : List Row) (n t : FullName) (p : Package) → AreRows rs → found kinds.Package n rs ≡ Some (rows.Package p) → is_open rights p ≡ true → p.binding ≡ Some t
    → reached_package (standing (visible_rows rights rs)) t p.name.namespace ≡ reached_package (standing rs) t p.name.namespace
target_seen rights rs n t p ordered is opened binds = by_reached (reached_package (standing rs) t p.name.namespace) refl
  where
    by_reached : (o : Option Package) → reached_package (standing rs) t p.name.namespace ≡ o
        → reached_package (standing (visible_rows rights rs)) t p.name.namespace ≡ reached_package (standing rs) t p.name.namespace
    by_reached None e = seen_either (λ (x : Option Package). if_reached t.namespace p.name.namespace x ≡ reached_package (standing rs) t p.name.namespace) rights rs t ordered refl (sym e)
    by_reached (Some q) e =
        let at = reached_at t p.name.namespace (package_at (standing rs) t) q e in
        let stands = as_one (found kinds.Package t rs) q at in
        let passes = find_passes (is_row kinds.Package t) (rows.Package q) rs stands in
        let visible = visible_bound rights rs n t p (rows.Package q) is opened binds (ap is_some e) (or_left _ _ passes) in
        let stays : kept (is_visible rights rs) (Some (rows.Package q)) ≡ Some (rows.Package q) = rw visible refl in
        let found' : found kinds.Package t (visible_rows rights rs) ≡ Some (rows.Package q) = seen_at rights rs kinds.Package t ordered ∙ (ap (kept (is_visible rights rs)) stands ∙ stays) in
        let seen : package_at (standing (visible_rows rights rs)) t ≡ Some q = ap as_package found' in
        ap (if_reached t.namespace p.name.namespace) (seen ∙ sym at)

-- ---- actions

inside_seen : (rights : ByText Rights) (rs : List Row) (n : FullName) (p : Package) → found kinds.Package n rs ≡ Some (rows.Package p) → is_open rights p ≡ true
    → actions_in p.name (visible_rows rights rs) ≡ actions_in p.name rs
inside_seen rights rs n p is opened =
    filter_filter (lies_in p.name) (is_visible rights rs) rs (λ r lies. visible_inside rights rs n p r is opened (or_right (is_row kinds.Package p.name r) _ lies))

bound_seen : (rights : ByText Rights) (rs : List Row) (n t : FullName) (p : Package) → found kinds.Package n rs ≡ Some (rows.Package p) → is_open rights p ≡ true → p.binding ≡ Some t
    → is_some (reached_package (standing rs) t p.name.namespace) ≡ true → actions_in t (visible_rows rights rs) ≡ actions_in t rs
bound_seen rights rs n t p is opened binds reached =
    filter_filter (lies_in t) (is_visible rights rs) rs (λ r lies. visible_bound rights rs n t p r is opened binds reached (or_right (is_row kinds.Package t r) _ lies))

actions_if_same : (o : Option Package) (t : FullName) (xs ys : List Row) → (is_some o ≡ true → actions_in t xs ≡ actions_in t ys) → actions_if o t xs ≡ actions_if o t ys
actions_if_same None t xs ys same = refl
actions_if_same (Some p) t xs ys same = same refl

behind_seen : (rights : ByText Rights) (rs : List Row) (n : FullName) (p : Package) (o : Option FullName) → AreRows rs → found kinds.Package n rs ≡ Some (rows.Package p) → is_open rights p ≡ true → p.binding ≡ o
    → actions_behind p o (visible_rows rights rs) ≡ actions_behind p o rs
behind_seen rights rs n p None ordered is opened binds = inside_seen rights rs n p is opened
behind_seen rights rs n p (Some t) ordered is opened binds =
    ap (λ (x : Option Package). actions_if x t (visible_rows rights rs)) (target_seen rights rs n t p ordered is opened binds)
    ∙ actions_if_same (reached_package (standing rs) t p.name.namespace) t (visible_rows rights rs) rs (bound_seen rights rs n t p is opened binds)

-- what an open package shows
shown_seen : (rights : ByText Rights) (rs : List Row) (n : FullName) (p : Package) → AreRows rs → found kinds.Package n rs ≡ Some (rows.Package p) → is_open rights p ≡ true
    → shown_actions p (visible_rows rights rs) ≡ shown_actions p rs
shown_seen rights rs n p ordered is opened = ap (λ (xs : List Row). map package_entry xs) (behind_seen rights rs n p p.binding ordered is opened refl)

-- ---- what is found by a name for which it is granted

-- the package that grants it where it is shared: of an action the one in which it lies
abbrev pub granting : EntityKind → FullName → Option FullName
granting kinds.Action name = package_of name
granting kinds.Package name = Some name
granting kinds.Rule name = None
granting kinds.Trigger name = None

-- it lies in a namespace in which the caller may read, or belongs to a shared package
abbrev pub IsOpenTo : ByText Rights → List Row → EntityKind → FullName → Type 0
IsOpenTo rights rs kind name = (may_read rights name.namespace || is_shared_at rs (granting kind name)) ≡ true

-- where any row that is found is seen, the same is found among the rows that are seen
seen_if : (rights : ByText Rights) (rs : List Row) (kind : EntityKind) (n : FullName) → AreRows rs → ((r : Row) → found kind n rs ≡ Some r → is_visible rights rs r ≡ true)
    → found kind n (visible_rows rights rs) ≡ found kind n rs
seen_if rights rs kind n ordered visible = seen_at rights rs kind n ordered ∙ by_row (found kind n rs) refl
  where
    by_row : (o : Option Row) → found kind n rs ≡ o → kept (is_visible rights rs) o ≡ o
    by_row None e = refl
    by_row (Some r) e = rw (visible r e) refl

pub kind_is : (kind : EntityKind) (n : FullName) (r : Row) → is_row kind n r ≡ true → kind_place kind ≡ kind_place (kind_of r)
kind_is kind n r is = let h = (bytes_eq-Decides (key kind n) (key_of r)).0 is in cc

-- an action of this name lies in the package
lies_so : (m n : FullName) (r : Row) → is_row kinds.Action n r ≡ true → name_of r ≡ n → m.namespace ≡ n.namespace → n.package ≡ Some m.name → lies_in m r ≡ true
lies_so m n r is named there inside =
    and_from (stands_in kinds.Action m.namespace r) (lies_under m.name r)
    (and_from (kind_place kinds.Action == kind_place (kind_of r)) (bytes_eq m.namespace (name_of r).namespace)
    (subst (λ (k : ℕ). (0 == k) ≡ true) (kind_is kinds.Action n r is) refl)
    ((bytes_eq-Decides m.namespace (name_of r).namespace).1 (there ∙ sym (ap (λ (x : FullName). x.namespace) named))))
    (subst (λ (o : Option (List ℕ)). is_called m.name o ≡ true) (sym (ap (λ (x : FullName). x.package) named ∙ inside)) (same_bytes m.name))

named_at : (rs : List Row) (kind : EntityKind) (n : FullName) (r : Row) → IsNamed rs kind n → found kind n rs ≡ Some r → name_of r ≡ n
named_at rs kind n r named is = subst (λ (o : Option Row). IfSome o (λ x. name_of x ≡ n)) is named

pub only_left : (b : Bool) → (b || false) ≡ true → b ≡ true
only_left true e = refl
only_left false e = cc

-- the name lies in that package
pub place_of : (name m : FullName) (o : Option (List ℕ)) → name.package ≡ o → package_of name ≡ Some m → (m.namespace ≡ name.namespace) × (name.package ≡ Some m.name)
place_of name m None e is = let h : None ≡ Some m = rw e at is in cc
place_of name m (Some p) e is =
    let h : Some (record { namespace = name.namespace; «package» = None; name = p }) ≡ Some m = rw e at is in
    (cc, let same : p ≡ m.name = cc in e ∙ ap Some same)

-- what a binding calls
bound_action : (rights : ByText Rights) (rs : List Row) (n t : FullName) (p : Package) (name : FullName) → AreRows rs → found kinds.Package n rs ≡ Some (rows.Package p) → is_open rights p ≡ true → p.binding ≡ Some t
    → IsNamed rs kinds.Action (lying_in t name.name) → behind_in (standing (visible_rows rights rs)) name p (Some t) ≡ behind_in (standing rs) name p (Some t)
bound_action rights rs n t p name ordered is opened binds named =
    ap (λ (x : Option Package). option_and_then (λ (bound : Package). option_map (made bound) (action_at (standing (visible_rows rights rs)) (lying_in t name.name))) x) (target_seen rights rs n t p ordered is opened binds)
    ∙ by_reached (reached_package (standing rs) t p.name.namespace) refl
  where
    made : Package → Action → Behind
    made bound a = record { action = a; binding = Some p; inside = Some bound }

    by_reached : (o : Option Package) → reached_package (standing rs) t p.name.namespace ≡ o
        → option_and_then (λ (bound : Package). option_map (made bound) (action_at (standing (visible_rows rights rs)) (lying_in t name.name))) o
        ≡ option_and_then (λ (bound : Package). option_map (made bound) (action_at (standing rs) (lying_in t name.name))) o
    by_reached None e = refl
    by_reached (Some q) e = ap (λ (x : Option Row). option_map (made q) (as_action x)) (seen_if rights rs kinds.Action (lying_in t name.name) ordered (λ r at.
        visible_bound rights rs n t p r is opened binds (ap is_some e)
        (or_right (is_row kinds.Package t r) _ (lies_so t (lying_in t name.name) r (find_passes (is_row kinds.Action (lying_in t name.name)) r rs at) (named_at rs kinds.Action (lying_in t name.name) r named at) refl refl))))

reached_same : (standing' standing'' : EntityKind → FullName → Option Row) (name : FullName) (p : Package) (b : Bool) → behind_in standing' name p p.binding ≡ behind_in standing'' name p p.binding
    → behind_package standing' name (if b then Some p else None) ≡ behind_package standing'' name (if b then Some p else None)
reached_same standing' standing'' name p true same = same
reached_same standing' standing'' name p false same = refl

-- what a name in a binding calls
effective_seen : (rights : ByText Rights) (rs : List Row) (m t : FullName) (p : Package) (name : FullName) → AreRows rs → package_of name ≡ Some m → package_at (standing rs) m ≡ Some p → is_open rights p ≡ true → p.binding ≡ Some t
    → IsNamed rs kinds.Action (lying_in t name.name) → effective (standing (visible_rows rights rs)) name name.namespace ≡ effective (standing rs) name name.namespace
unfolding effective
effective_seen rights rs m t p name ordered lies is opened binds named =
    let stands = as_one (found kinds.Package m rs) p is in
    let same : behind_in (standing (visible_rows rights rs)) name p p.binding ≡ behind_in (standing rs) name p p.binding =
    subst (λ (o : Option FullName). behind_in (standing (visible_rows rights rs)) name p o ≡ behind_in (standing rs) name p o) (sym binds) (bound_action rights rs m t p name ordered stands opened binds named) in
    ap (option_map effective_of)
    (ap (λ (o : Option FullName). behind_name (standing (visible_rows rights rs)) name name.namespace o) lies
    ∙ (ap (λ (o : Option Package). behind_package (standing (visible_rows rights rs)) name (if_reached m.namespace name.namespace o)) (open_seen rights rs m p ordered is opened)
    ∙ (reached_same (standing (visible_rows rights rs)) (standing rs) name p (p.publish || bytes_eq m.namespace name.namespace) same
    ∙ (ap (λ (o : Option Package). behind_package (standing rs) name (if_reached m.namespace name.namespace o)) (sym is)
    ∙ ap (λ (o : Option FullName). behind_name (standing rs) name name.namespace o) (sym lies)))))

-- the action that is read: in a binding the one that the name calls there, and elsewhere the stored one of that name
abbrev chosen : Option FullName → Option Row → Option Row → Option Row
chosen target behind stands = if is_some target then behind else stands

-- a row in a namespace that may be read is seen as it is stored
own_seen : (rights : ByText Rights) (rs : List Row) (kind : EntityKind) (name : FullName) → AreRows rs → may_read rights name.namespace ≡ true → IsNamed rs kind name
    → found kind name (visible_rows rights rs) ≡ found kind name rs
own_seen rights rs kind name ordered reads named = seen_if rights rs kind name ordered (λ r at.
    visible_own rights rs r (ap (λ (x : FullName). may_read rights x.namespace) (named_at rs kind name r named at) ∙ reads))

action_by : (rights : ByText Rights) (rs : List Row) (name : FullName) (o : Option FullName) → AreRows rs → package_of name ≡ o → (may_read rights name.namespace || is_shared_at rs o) ≡ true
    → IsPackageNamed rs o → IsNamed rs kinds.Action (bound_name name (target_of rs o))
    → chosen (target_of (visible_rows rights rs) o) (action_behind (visible_rows rights rs) name) (found kinds.Action name (visible_rows rights rs))
    ≡ chosen (target_of rs o) (action_behind rs name) (found kinds.Action name rs)
action_by rights rs name None ordered lies opened package_named named = own_seen rights rs kinds.Action name ordered (only_left _ opened) named
action_by rights rs name (Some m) ordered lies opened package_named named = by_row (package_at (standing rs) m) refl
  where
    binding_of : Option Package → Option FullName
    binding_of o = option_and_then (λ p. p.binding) o

    by_binding : (p : Package) (b : Option FullName) → package_at (standing rs) m ≡ Some p → p.binding ≡ b → is_open rights p ≡ true → p.name ≡ m
        → chosen b (action_behind (visible_rows rights rs) name) (found kinds.Action name (visible_rows rights rs)) ≡ chosen b (action_behind rs name) (found kinds.Action name rs)
    by_binding p None e binds opens called =
        let own : IsNamed rs kinds.Action name = subst (λ (x : Option FullName). IsNamed rs kinds.Action (bound_name name x)) (ap binding_of e ∙ binds) named in
        let stands = as_one (found kinds.Package m rs) p e in
        let there = place_of name m name.package refl lies in
        seen_if rights rs kinds.Action name ordered (λ r at.
        visible_inside rights rs m p r stands opens
        (or_right (is_row kinds.Package p.name r) _ (lies_so p.name name r (find_passes (is_row kinds.Action name) r rs at) (named_at rs kinds.Action name r own at)
        (ap (λ (x : FullName). x.namespace) called ∙ there.0) (there.1 ∙ ap (λ (x : FullName). Some x.name) (sym called)))))
    by_binding p (Some t) e binds opens called =
        let behind' : IsNamed rs kinds.Action (lying_in t name.name) = subst (λ (x : Option FullName). IsNamed rs kinds.Action (bound_name name x)) (ap binding_of e ∙ binds) named in
        ap (option_map (λ (x : Effective). rows.Action x.action)) (effective_seen rights rs m t p name ordered lies e opens binds behind')

    by_row : (o : Option Package) → package_at (standing rs) m ≡ o
        → chosen (binding_of (package_at (standing (visible_rows rights rs)) m)) (action_behind (visible_rows rights rs) name) (found kinds.Action name (visible_rows rights rs))
        ≡ chosen (binding_of (package_at (standing rs) m)) (action_behind rs name) (found kinds.Action name rs)
    by_row None e =
        let none : package_at (standing (visible_rows rights rs)) m ≡ None = seen_either (λ (x : Option Package). x ≡ None) rights rs m ordered e refl in
        let reads : may_read rights name.namespace ≡ true = only_left _ (ap (λ (x : Option Package). may_read rights name.namespace || is_shared x) (sym e) ∙ opened) in
        let own : IsNamed rs kinds.Action name = subst (λ (x : Option FullName). IsNamed rs kinds.Action (bound_name name x)) (ap binding_of e) named in
        rw (none, e) (own_seen rights rs kinds.Action name ordered reads own)
    by_row (Some p) e =
        let stands = as_one (found kinds.Package m rs) p e in
        let called : p.name ≡ m = named_at rs kinds.Package m (rows.Package p) package_named stands in
        let there = place_of name m name.package refl lies in
        let opens : is_open rights p ≡ true = ap (λ (ns : List ℕ). may_read rights ns || p.publish) (ap (λ (x : FullName). x.namespace) called ∙ there.0)
        ∙ (ap (λ (x : Option Package). may_read rights name.namespace || is_shared x) (sym e) ∙ opened) in
        rw (open_seen rights rs m p ordered e opens, e) (by_binding p p.binding e refl opens called)

-- ---- the row that is read

open_package : (rights : ByText Rights) (rs : List Row) (name : FullName) (p : Package) → IsOpenTo rights rs kinds.Package name → IsNamed rs kinds.Package name → found kinds.Package name rs ≡ Some (rows.Package p) → is_open rights p ≡ true
open_package rights rs name p opened named stands =
    ap (λ (x : FullName). may_read rights x.namespace || p.publish) (named_at rs kinds.Package name (rows.Package p) named stands)
    ∙ (ap (λ (x : Option Row). may_read rights name.namespace || is_shared (as_package x)) (sym stands) ∙ opened)

package_visible : (rights : ByText Rights) (rs : List Row) (name : FullName) (r : Row) → IsOpenTo rights rs kinds.Package name → IsNamed rs kinds.Package name → found kinds.Package name rs ≡ Some r → is_visible rights rs r ≡ true
package_visible rights rs name (rows.Action a) opened named stands =
    let h = kind_is kinds.Package name (rows.Action a) (find_passes (is_row kinds.Package name) (rows.Action a) rs stands) in cc
package_visible rights rs name (rows.Rule x) opened named stands =
    let h = kind_is kinds.Package name (rows.Rule x) (find_passes (is_row kinds.Package name) (rows.Rule x) rs stands) in cc
package_visible rights rs name (rows.Trigger x) opened named stands =
    let h = kind_is kinds.Package name (rows.Trigger x) (find_passes (is_row kinds.Package name) (rows.Trigger x) rs stands) in cc
package_visible rights rs name (rows.Package p) opened named stands =
    visible_inside rights rs name p (rows.Package p) stands (open_package rights rs name p opened named stands) (or_left _ _ (same_bytes (key kinds.Package p.name)))

row_seen : (rights : ByText Rights) (rs : List Row) (kind : EntityKind) (name : FullName) → AreRows rs → IsOpenTo rights rs kind name → AreNamed rs kind name
    → row_read (visible_rows rights rs) kind name ≡ row_read rs kind name
row_seen rights rs kinds.Action name ordered opened named = action_by rights rs name (package_of name) ordered refl opened named.0 named.1
row_seen rights rs kinds.Package name ordered opened named = seen_if rights rs kinds.Package name ordered (λ r at. package_visible rights rs name r opened named at)
row_seen rights rs kinds.Rule name ordered opened named = own_seen rights rs kinds.Rule name ordered (only_left _ opened) named
row_seen rights rs kinds.Trigger name ordered opened named = own_seen rights rs kinds.Trigger name ordered (only_left _ opened) named

-- how it is shown

-- a row that isn't a package is shown alone
shown_alone : (rs ss : List Row) (kind : EntityKind) (name : FullName) (r : Row) → (kind_place kind == 1) ≡ false → found kind name rs ≡ Some r → shown_row ss r ≡ shown_row rs r
shown_alone rs ss kind name (rows.Action a) other at = refl
shown_alone rs ss kind name (rows.Rule x) other at = refl
shown_alone rs ss kind name (rows.Trigger x) other at = refl
shown_alone rs ss kind name (rows.Package p) other at =
    let h = kind_is kind name (rows.Package p) (find_passes (is_row kind name) (rows.Package p) rs at) in
    let g : (1 == 1) ≡ false = subst (λ (k : ℕ). (k == 1) ≡ false) h other in cc

called_action : (rs ss : List Row) (o : Option Effective) (r : Row) → option_map (λ (x : Effective). rows.Action x.action) o ≡ Some r → shown_row ss r ≡ shown_row rs r
called_action rs ss None r at = cc
called_action rs ss (Some e) (rows.Action a) at = refl
called_action rs ss (Some e) (rows.Package p) at = cc
called_action rs ss (Some e) (rows.Rule x) at = refl
called_action rs ss (Some e) (rows.Trigger x) at = refl

action_shown : (rs ss : List Row) (name : FullName) (r : Row) (b : Bool) → (if b then action_behind rs name else found kinds.Action name rs) ≡ Some r → shown_row ss r ≡ shown_row rs r
action_shown rs ss name r true at = called_action rs ss (effective (standing rs) name name.namespace) r at
action_shown rs ss name r false at = shown_alone rs ss kinds.Action name r refl at

shown_so : (rights : ByText Rights) (rs : List Row) (kind : EntityKind) (name : FullName) (r : Row) → AreRows rs → IsOpenTo rights rs kind name → AreNamed rs kind name → row_read rs kind name ≡ Some r
    → shown_row (visible_rows rights rs) r ≡ shown_row rs r
shown_so rights rs kinds.Action name r ordered opened named at = action_shown rs (visible_rows rights rs) name r (is_some (target_of rs (package_of name))) at
shown_so rights rs kinds.Package name (rows.Action a) ordered opened named at = refl
shown_so rights rs kinds.Package name (rows.Rule x) ordered opened named at = refl
shown_so rights rs kinds.Package name (rows.Trigger x) ordered opened named at = refl
shown_so rights rs kinds.Package name (rows.Package p) ordered opened named at =
    ap (λ (vs : List V). shown_with vs (rows.Package p)) (shown_seen rights rs name p ordered at (open_package rights rs name p opened named at))
shown_so rights rs kinds.Rule name r ordered opened named at = shown_alone rs (visible_rows rights rs) kinds.Rule name r refl at
shown_so rights rs kinds.Trigger name r ordered opened named at = shown_alone rs (visible_rows rights rs) kinds.Trigger name r refl at

-- what is shown of a row, where there is one
abbrev pub option_shown : List Row → Option Row → Option V
option_shown rs o = option_map (shown_row rs) o

-- what is shown of the rows that are seen is what is shown of all
pub value_seen : (rights : ByText Rights) (rs : List Row) (kind : EntityKind) (name : FullName) → AreRows rs → IsOpenTo rights rs kind name → AreNamed rs kind name
    → option_shown (visible_rows rights rs) (row_read (visible_rows rights rs) kind name) ≡ option_shown rs (row_read rs kind name)
value_seen rights rs kind name ordered opened named =
    ap (option_shown (visible_rows rights rs)) (row_seen rights rs kind name ordered opened named) ∙ by_row (row_read rs kind name) refl
  where
    by_row : (o : Option Row) → row_read rs kind name ≡ o → option_shown (visible_rows rights rs) o ≡ option_shown rs o
    by_row None e = refl
    by_row (Some r) e = ap Some (shown_so rights rs kind name r ordered opened named e)
