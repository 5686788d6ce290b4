-- What a package shows once it is put itself: a put of a package changes no action, and a package reaches itself.
use Rattle.std.proofs.Common.{◌≡◌, ◌||◌, ℕ, Bool, true, false, cond, is_some, List, [], ◌∷◌, map, Option, Some, None, Ordering, Less, Equal, Greater, is_eq, refl, sym, ap, ◌∙◌, arith}
use Rattle.std.specs.Ordering.{match_ordering}
use Rattle.std.specs.Str.{bytes_eq}
use Rattle.std.proofs.lemmas.Slice.Eq.{bytes_eq-Decides}
use Rattle.ow_value.specs.Value.{text_cmp}
use Rattle.ow_value.proofs.KeySearch.{test_of, equal_texts}
use Rattle.ow_names.specs.FullName.{full_text}
use Rattle.ow_names.specs.declared.full.FullName.{FullName}
use Rattle.ow_entity.specs.declared.kinds.EntityKind.TheVariants as kinds
use Rattle.ow_entity.specs.declared.packages.Package.{Package}
use Rattle.ow_entity.specs.declared.rows.Row.{Row}
use Rattle.ow_entity.specs.declared.rows.Row.TheVariants as entities
use Rattle.ow_entity.specs.Written.{package_entry}
use Rattle.ow_entity.specs.Finish.{as_package}
use Rattle.ow_packages.specs.Access.{if_reached, reached_package}
use Rattle.ow_tables.specs.Rows.{key, key_of, found, standing, with_row}
use Rattle.ow_tables.specs.Inside.{lies_in, actions_in, actions_if}
use Rattle.ow_tables.proofs.Found.{put_finds}

-- ---- actions stay

first_of_key : List ℕ → ℕ
first_of_key [] = 0
first_of_key (b ∷ bs) = b

-- a row with the key of a package is no action
no_action : (name : FullName) (p : Package) (x : Row) → key_of (entities.Package p) ≡ key_of x → lies_in name x ≡ false
unfolding first_of_key
no_action name p (entities.Action a) e = absurd (omega (arith, ap first_of_key e))
no_action name p (entities.Package q) e = refl
no_action name p (entities.Rule r) e = refl
no_action name p (entities.Trigger t) e = refl

pub actions_stay : (name : FullName) (p : Package) (xs : List Row) → actions_in name (with_row (entities.Package p) xs) ≡ actions_in name xs
actions_stay name p [] = refl
actions_stay name p (x ∷ xs) = by_order (text_cmp (key_of (entities.Package p)) (key_of x)) refl (actions_stay name p xs)
  where
    by_order : (o : Ordering) → text_cmp (key_of (entities.Package p)) (key_of x) ≡ o → actions_in name (with_row (entities.Package p) xs) ≡ actions_in name xs
        → actions_in name (match_ordering o (entities.Package p ∷ x ∷ xs) (entities.Package p ∷ xs) (x ∷ with_row (entities.Package p) xs)) ≡ actions_in name (x ∷ xs)
    by_order Less e more = refl
    by_order Equal e more = sym (ap (λ t. cond t (x ∷ actions_in name xs) (actions_in name xs)) (no_action name p x (equal_texts _ _ e)))
    by_order Greater e more = ap (λ ys. cond (lies_in name x) (x ∷ ys) ys) more

-- ---- what is reached

own : (p : Package) (a b : Bool) → b ≡ true → is_some (cond (a || b) (Some p) None) ≡ true
own p true b e = refl
own p false b e = rw e refl

pub reached_once_put : (p : Package) (t : FullName) (xs : List Row) (o : Ordering) → o ≡ text_cmp (full_text t) (full_text p.name) → (o ≡ Equal → t ≡ p.name)
    → is_some (reached_package (standing (with_row (entities.Package p) xs)) t p.name.namespace) ≡ (is_eq o || is_some (reached_package (standing xs) t p.name.namespace))
reached_once_put p t xs o e same =
    ap (λ f. is_some (if_reached t.namespace p.name.namespace (as_package f)))
    (put_finds (key kinds.Package t) (entities.Package p) xs
    ∙ ap (λ b. cond b (Some (entities.Package p)) (found kinds.Package t xs)) (test_of (key kinds.Package t) (key kinds.Package p.name) o (sym e)))
    ∙ by_order o same
  where
    by_order : (o : Ordering) → (o ≡ Equal → t ≡ p.name)
        → is_some (if_reached t.namespace p.name.namespace (as_package (cond (is_eq o) (Some (entities.Package p)) (found kinds.Package t xs))))
        ≡ (is_eq o || is_some (if_reached t.namespace p.name.namespace (as_package (found kinds.Package t xs))))
    by_order Less h = refl
    by_order Equal h = own p p.publish (bytes_eq t.namespace p.name.namespace) ((bytes_eq-Decides _ _).1 (ap (λ (n : FullName). n.namespace) (h refl)))
    by_order Greater h = refl

-- ---- what is shown

shown_if : (o : Option Package) (b : Bool) (t : FullName) (xs : List Row) → is_some o ≡ b → actions_if o t xs ≡ cond b (actions_in t xs) []
shown_if None b t xs e = rw (← e) refl
shown_if (Some p) b t xs e = rw (← e) refl

pub shown_once_put : (p : Package) (t : FullName) (xs : List Row) (b : Bool) → is_some (reached_package (standing (with_row (entities.Package p) xs)) t p.name.namespace) ≡ b
    → map package_entry (actions_if (reached_package (standing (with_row (entities.Package p) xs)) t p.name.namespace) t (with_row (entities.Package p) xs)) ≡ map package_entry (cond b (actions_in t xs) [])
shown_once_put p t xs b e =
    ap (map package_entry) (shown_if (reached_package (standing (with_row (entities.Package p) xs)) t p.name.namespace) b t (with_row (entities.Package p) xs) e
    ∙ ap (λ ys. cond b ys []) (actions_stay t p xs))
