-- Changes of rules and triggers that the holder of a key may not read leave the rows that it sees.
use Rattle.std.proofs.Common.{◌≡◌, ◌∙◌, ◌&&◌, ◌||◌, ℕ, Bool, true, false, cond, not, List, [], ◌∷◌, filter, find, Option, Some, None, is_some, Ordering, Less, Equal, Greater, refl, sym, ap, arith}
use Rattle.std.specs.List.{AllByRecursion, list_any}
use Rattle.std.specs.Ordering.{match_ordering}
use Rattle.std.proofs.lemmas.Slice.Eq.{bytes_eq-Decides}
use Rattle.ow_value.specs.ByText.{ByText}
use Rattle.ow_value.specs.Value.{text_cmp}
use Rattle.ow_value.proofs.KeySearch.{equal_texts}
use Rattle.ow_names.specs.declared.full.FullName.{FullName}
use Rattle.ow_entity.specs.Finish.{as_package}
use Rattle.ow_entity.specs.Row.{kind_of, name_of}
use Rattle.ow_entity.specs.declared.kinds.EntityKind.TheVariants as kinds
use Rattle.ow_entity.specs.declared.rows.Row.{Row}
use Rattle.ow_entity.specs.declared.rows.Row.TheVariants as rows
use Rattle.ow_packages.specs.Access.{if_reached, reached_package}
use Rattle.ow_tables.specs.Contents.{Change}
use Rattle.ow_tables.specs.Rows.{changed, found, is_row, key_of, standing, with_row, without}
use Rattle.ow_tenant.specs.declared.entries.Holder.{Holder}
use Rattle.ow_tenant.specs.declared.rights.Rights.{Rights}
use Rattle.ow_reads.specs.View.{belongs_to, is_bound, is_open, is_shown_by, is_visible, may_read, visible_rows}
use Rattle.ow_decide.specs.Decision.{all_changed}
use Rattle.ow_isolation.specs.Unseen.{AreUnseenChanges, IsHidden, IsUnseenChange, stands_apart}

-- ---- tests that neither a changed row nor the row that it replaces passes

-- no row of the kind and name of this one passes
abbrev NonePass : (Row → Bool) → Row → List Row → Type 0
NonePass p c rs = AllByRecursion (λ r. is_row (kind_of c) (name_of c) r ≡ true → p r ≡ false) rs

filter_with : (p : Row → Bool) (c : Row) (rs : List Row) → p c ≡ false → NonePass p c rs → filter p (with_row c rs) ≡ filter p rs
filter_with p c [] e others = ap (λ b. cond b (c ∷ []) []) e
filter_with p c (x ∷ xs) e others = by_order (text_cmp (key_of c) (key_of x)) refl (filter_with p c xs e others.1)
  where
    by_order : (o : Ordering) → text_cmp (key_of c) (key_of x) ≡ o → filter p (with_row c xs) ≡ filter p xs → filter p (match_ordering o (c ∷ x ∷ xs) (c ∷ xs) (x ∷ with_row c xs)) ≡ filter p (x ∷ xs)
    by_order Less is more = ap (λ b. cond b (c ∷ filter p (x ∷ xs)) (filter p (x ∷ xs))) e
    by_order Equal is more =
        let hidden = others.0 ((bytes_eq-Decides (key_of c) (key_of x)).1 (equal_texts (key_of c) (key_of x) is)) in
        ap (λ b. cond b (c ∷ filter p xs) (filter p xs)) e ∙ sym (ap (λ b. cond b (x ∷ filter p xs) (filter p xs)) hidden)
    by_order Greater is more = ap (λ ys. cond (p x) (x ∷ ys) ys) more

filter_without : (p : Row → Bool) (c : Row) (rs : List Row) → NonePass p c rs → filter p (without (kind_of c) (name_of c) rs) ≡ filter p rs
filter_without p c [] others = refl
filter_without p c (x ∷ xs) others = by_test (is_row (kind_of c) (name_of c) x) refl (filter_without p c xs others.1)
  where
    by_test : (b : Bool) → is_row (kind_of c) (name_of c) x ≡ b → filter p (without (kind_of c) (name_of c) xs) ≡ filter p xs
        → filter p (cond (not b) (x ∷ without (kind_of c) (name_of c) xs) (without (kind_of c) (name_of c) xs)) ≡ filter p (x ∷ xs)
    by_test true is more = more ∙ sym (ap (λ b. cond b (x ∷ filter p xs) (filter p xs)) (others.0 is))
    by_test false is more = ap (λ ys. cond (p x) (x ∷ ys) ys) more

filter_changed : (p : Row → Bool) (c : Change) (rs : List Row) → p c.row ≡ false → NonePass p c.row rs → filter p (changed c rs) ≡ filter p rs
filter_changed p c rs e others = by_form c.removes
  where
    by_form : (b : Bool) → filter p (cond b (without (kind_of c.row) (name_of c.row) rs) (with_row c.row rs)) ≡ filter p rs
    by_form true = filter_without p c.row rs others
    by_form false = filter_with p c.row rs e others

any_filtered : (p : Row → Bool) (rs : List Row) → list_any p (filter p rs) ≡ list_any p rs
any_filtered p [] = refl
any_filtered p (x ∷ xs) = by_test (p x) refl (any_filtered p xs)
  where
    by_test : (b : Bool) → p x ≡ b → list_any p (filter p xs) ≡ list_any p xs → list_any p (cond b (x ∷ filter p xs) (filter p xs)) ≡ (b || list_any p xs)
    by_test true is more = ap (λ b. b || list_any p (filter p xs)) is
    by_test false is more = more

find_filtered : (p : Row → Bool) (rs : List Row) → find p (filter p rs) ≡ find p rs
find_filtered p [] = refl
find_filtered p (x ∷ xs) = by_test (p x) refl (find_filtered p xs)
  where
    by_test : (b : Bool) → p x ≡ b → find p (filter p xs) ≡ find p xs → find p (cond b (x ∷ filter p xs) (filter p xs)) ≡ cond b (Some x) (find p xs)
    by_test true is more = ap (λ b. cond b (Some x) (find p (filter p xs))) is
    by_test false is more = more

any_changed : (p : Row → Bool) (c : Change) (rs : List Row) → p c.row ≡ false → NonePass p c.row rs → list_any p (changed c rs) ≡ list_any p rs
any_changed p c rs e others = sym (any_filtered p (changed c rs)) ∙ (ap (list_any p) (filter_changed p c rs e others) ∙ any_filtered p rs)

find_changed : (p : Row → Bool) (c : Change) (rs : List Row) → p c.row ≡ false → NonePass p c.row rs → find p (changed c rs) ≡ find p rs
find_changed p c rs e others = sym (find_filtered p (changed c rs)) ∙ (ap (find p) (filter_changed p c rs e others) ∙ find_filtered p rs)

-- tests that agree
filter_same : (p q : Row → Bool) (rs : List Row) → ((r : Row) → p r ≡ q r) → filter p rs ≡ filter q rs
filter_same p q [] same = refl
filter_same p q (x ∷ xs) same = ap (λ b. cond b (x ∷ filter p xs) (filter p xs)) (same x) ∙ ap (λ ys. cond (q x) (x ∷ ys) ys) (filter_same p q xs same)

any_same : (p q : Row → Bool) (rs : List Row) → ((r : Row) → p r ≡ q r) → list_any p rs ≡ list_any q rs
any_same p q [] same = refl
any_same p q (x ∷ xs) same = ap (λ b. b || list_any p xs) (same x) ∙ ap (λ b. q x || b) (any_same p q xs same)

none_any : (p : Row → Bool) (rs : List Row) → ((r : Row) → p r ≡ false) → list_any p rs ≡ false
none_any p [] none = refl
none_any p (x ∷ xs) none = ap (λ b. b || list_any p xs) (none x) ∙ none_any p xs none

-- ---- rules and triggers

and_false : (b : Bool) → (b && false) ≡ false
and_false true = refl
and_false false = refl

-- no package is reached through one, shows one, or has one's place
abbrev IsApart : Row → Type 0
IsApart r = stands_apart r ≡ true

no_package : (name : FullName) (r : Row) → IsApart r → is_row kinds.Package name r ≡ false
no_package name (rows.Action a) apart = cc
no_package name (rows.Package p) apart = cc
no_package name (rows.Rule x) apart = refl
no_package name (rows.Trigger x) apart = refl

outside : (name : FullName) (r : Row) → IsApart r → belongs_to name r ≡ false
outside name (rows.Action a) apart = cc
outside name (rows.Package p) apart = cc
outside name (rows.Rule x) apart = refl
outside name (rows.Trigger x) apart = refl

unbound : (rs : List Row) (from : List ℕ) (o : Option FullName) (r : Row) → IsApart r → is_bound rs from o r ≡ false
unbound rs from None r apart = refl
unbound rs from (Some t) r apart = ap (λ b. is_some (reached_package (standing rs) t from) && b) (outside t r apart) ∙ and_false (is_some (reached_package (standing rs) t from))

-- no package shows it
unshown : (rights : ByText Rights) (rs : List Row) (b r : Row) → IsApart r → is_shown_by rights rs b r ≡ false
unshown rights rs (rows.Action a) r apart = refl
unshown rights rs (rows.Rule x) r apart = refl
unshown rights rs (rows.Trigger x) r apart = refl
unshown rights rs (rows.Package p) r apart =
    ap (λ b. is_open rights p && (b || is_bound rs p.name.namespace p.binding r)) (outside p.name r apart)
    ∙ (ap (λ b. is_open rights p && b) (unbound rs p.name.namespace p.binding r apart) ∙ and_false (is_open rights p))

-- nor does it show another
shows_none : (rights : ByText Rights) (rs : List Row) (b r : Row) → IsApart b → is_shown_by rights rs b r ≡ false
shows_none rights rs (rows.Action a) r apart = cc
shows_none rights rs (rows.Package p) r apart = cc
shows_none rights rs (rows.Rule x) r apart = refl
shows_none rights rs (rows.Trigger x) r apart = refl

not_visible : (h : Holder) (rs : List Row) (r : Row) → IsApart r → IsHidden h r → is_visible h.rights rs r ≡ false
unfolding is_visible
not_visible h rs r apart hidden =
    ap (λ b. b || list_any (λ b. is_shown_by h.rights rs b r) rs) hidden ∙ none_any (λ b. is_shown_by h.rights rs b r) rs (λ b. unshown h.rights rs b r apart)

-- what has the key of one is one
first_of : List ℕ → ℕ
first_of [] = 0
first_of (b ∷ bs) = b

apart_by : (c r : Row) → IsApart c → key_of c ≡ key_of r → IsApart r
unfolding first_of
apart_by c (rows.Rule x) apart e = refl
apart_by c (rows.Trigger x) apart e = refl
apart_by (rows.Rule y) (rows.Action a) apart e = absurd (omega (arith, ap first_of e))
apart_by (rows.Trigger y) (rows.Action a) apart e = absurd (omega (arith, ap first_of e))
apart_by (rows.Action y) (rows.Action a) apart e = cc
apart_by (rows.Package y) (rows.Action a) apart e = cc
apart_by (rows.Rule y) (rows.Package p) apart e = absurd (omega (arith, ap first_of e))
apart_by (rows.Trigger y) (rows.Package p) apart e = absurd (omega (arith, ap first_of e))
apart_by (rows.Action y) (rows.Package p) apart e = cc
apart_by (rows.Package y) (rows.Package p) apart e = cc

also_apart : (c r : Row) → IsApart c → is_row (kind_of c) (name_of c) r ≡ true → IsApart r
also_apart c r apart is = apart_by c r apart ((bytes_eq-Decides (key_of c) (key_of r)).0 is)

-- what no rule and no trigger passes
none_pass : (p : Row → Bool) (c : Row) (rs : List Row) → IsApart c → ((r : Row) → IsApart r → p r ≡ false) → NonePass p c rs
none_pass p c [] apart none = tt
none_pass p c (x ∷ xs) apart none = (λ is. none x (also_apart c x apart is), none_pass p c xs apart none)

-- ---- the rows that are seen

module _ (h : Holder) (rs : List Row) (c : Change) (unseen : IsUnseenChange h rs c) where
  package_stays : (name : FullName) → found kinds.Package name (changed c rs) ≡ found kinds.Package name rs
  package_stays name = find_changed (is_row kinds.Package name) c rs (no_package name c.row unseen.apart) (none_pass (is_row kinds.Package name) c.row rs unseen.apart (no_package name))

  bound_stays : (from : List ℕ) (o : Option FullName) (r : Row) → is_bound (changed c rs) from o r ≡ is_bound rs from o r
  bound_stays from None r = refl
  bound_stays from (Some t) r = ap (λ (o : Option Row). is_some (if_reached t.namespace from (as_package o)) && belongs_to t r) (package_stays t)

  shown_stays : (r b : Row) → is_shown_by h.rights (changed c rs) b r ≡ is_shown_by h.rights rs b r
  shown_stays r (rows.Action a) = refl
  shown_stays r (rows.Rule x) = refl
  shown_stays r (rows.Trigger x) = refl
  shown_stays r (rows.Package p) = ap (λ b. is_open h.rights p && (belongs_to p.name r || b)) (bound_stays p.name.namespace p.binding r)

  visible_stays : (r : Row) → is_visible h.rights (changed c rs) r ≡ is_visible h.rights rs r
  unfolding is_visible
  visible_stays r = ap (λ b. may_read h.rights (name_of r).namespace || b)
      (any_same (λ b. is_shown_by h.rights (changed c rs) b r) (λ b. is_shown_by h.rights rs b r) (changed c rs) (shown_stays r)
      ∙ any_changed (λ b. is_shown_by h.rights rs b r) c rs (shows_none h.rights rs c.row r unseen.apart)
      (none_pass (λ b. is_shown_by h.rights rs b r) c.row rs unseen.apart (λ b apart. shows_none h.rights rs b r apart)))

  -- the row that it replaces is hidden too
  before_hidden : (xs : List Row) → AllByRecursion (λ r. is_row (kind_of c.row) (name_of c.row) r ≡ true → IsHidden h r) xs → NonePass (is_visible h.rights rs) c.row xs
  before_hidden [] before = tt
  before_hidden (x ∷ xs) before = (λ is. not_visible h rs x (also_apart c.row x unseen.apart is) (before.0 is), before_hidden xs before.1)

  rows_stay : visible_rows h.rights (changed c rs) ≡ visible_rows h.rights rs
  rows_stay =
      filter_same (is_visible h.rights (changed c rs)) (is_visible h.rights rs) (changed c rs) visible_stays
      ∙ filter_changed (is_visible h.rights rs) c rs (not_visible h rs c.row unseen.apart unseen.hidden) (before_hidden rs unseen.before)

-- so do many, one after another
pub all_stay : (h : Holder) (cs : List Change) (rs : List Row) → AreUnseenChanges h rs cs → visible_rows h.rights (all_changed cs rs) ≡ visible_rows h.rights rs
all_stay h [] rs unseen = refl
all_stay h (c ∷ cs) rs unseen = all_stay h cs (changed c rs) unseen.1 ∙ rows_stay h rs c unseen.0
