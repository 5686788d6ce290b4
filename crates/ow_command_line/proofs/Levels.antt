-- What `clap` finds in the words of a command of options.
use Rattle.std.proofs.Common.{◌≡◌, ◌∙◌, ◌&&◌, ◌||◌, refl, ap, ap₂, ℕ, Bool, true, false, not, List, [], ◌∷◌, Some, None, codes, cond, option_map}
use Rattle.std.specs.List.{find, fold, list_any}
use Rattle.std.specs.Str.{bytes_eq}
use Rattle.std.specs.Prelude.{option_and_then, slice_get}
use Rattle.clap.specs.Words.{App, Row, Rule, fault_of, matches_of}
use Rattle.clap.specs.Kinds.{Kinds, check_kinds, or_else}
use Rattle.clap.specs.Faults.{built_fault, check_fault, default_fault, defaults_fault, settle_fault, walk_fault}
use Rattle.clap.specs.Takes.{is_given as is_held}
use Rattle.clap.specs.Walk.{first_of, has_row, idle, nothing_held, settled, walk, with_default}
use Rattle.clap.proofs.FaultLemmas.{leaf_fault}
use Rattle.ow_command_line.specs.Parse.{app_with}
use Rattle.ow_command_line.specs.Words.{Given, each_once, given_from, values_in}
use Rattle.ow_command_line.proofs.Apps.{app, is_built, rule, shape}
use Rattle.ow_command_line.proofs.Walks.{Judged, Judged-is, at, faults, found, held, judged, row, rows, rules}

or_else-nil : (a : Kinds) → or_else a [] ≡ a
or_else-nil [] = refl
or_else-nil (k ∷ ks) = refl

-- ---- an option has no default, and none is required

default_none : (name : List ℕ) (rs : List Row) → (default_fault rs (rule name) ≡ []) × (with_default rs (rule name) ≡ rs)
default_none name rs = go (has_row name rs)
  where
    go : (b : Bool) → (cond (b || true) [] (Rattle.clap.specs.Faults.given_default_fault (rule name) []) ≡ []) × (cond b rs rs ≡ rs)
    go true = (refl, refl)
    go false = (refl, refl)

defaults_none : (names : List (List ℕ)) (rs : List Row) → (defaults_fault rs (rules names) ≡ []) × (fold with_default rs (rules names) ≡ rs)
unfolding defaults_fault
defaults_none [] rs = (refl, refl)
defaults_none (name ∷ names) rs =
    let here = default_none name rs in
    let rest = defaults_none names rs in (
      ap₂ (λ x y. or_else x (defaults_fault y (rules names))) here.0 here.1 ∙ rest.0,
      ap (λ y. fold with_default y (rules names)) here.1 ∙ rest.1,
    )

none_wanted : (names : List (List ℕ)) (rs : List Row) → list_any (λ (a : Rule). a.required && not (is_held a.id rs)) (rules names) ≡ false
none_wanted [] rs = refl
none_wanted (name ∷ names) rs = none_wanted names rs

check_none : (name : List ℕ) (names : List (List ℕ)) (rs : List Row) → check_fault (shape name names) rs false ≡ []
check_none name names rs = ap (λ b. check_kinds false false b) (none_wanted names rs)

-- ---- the whole parse

module _ (name : List ℕ) (names : List (List ℕ)) (words : List (List ℕ)) where
  fault_is : built_fault (app name names) nothing_held words ≡ faults (shape name names) (at (held []) idle) words
  fault_is =
      let end = (walk (rules names) [] nothing_held words).held in
      let last : or_else (defaults_fault (settled (rules names) end).rows (rules names)) (check_fault (shape name names) (fold with_default (settled (rules names) end).rows (rules names)) false) ≡ [] =
      ap₂ or_else (defaults_none names (settled (rules names) end).rows).0 (check_none name names (fold with_default (settled (rules names) end).rows (rules names))) in
      leaf_fault (app name names) nothing_held words refl
      ∙ ap (λ x. or_else (walk_fault (shape name names) [] (at (held []) idle) words) (or_else (settle_fault (rules names) false end) x)) last
      ∙ ap (or_else (walk_fault (shape name names) [] (at (held []) idle) words)) (or_else-nil (settle_fault (rules names) false end))

  rows_are : fold with_default (found (shape name names) (at (held []) idle) words) (rules names) ≡ found (shape name names) (at (held []) idle) words
  rows_are = (defaults_none names (found (shape name names) (at (held []) idle) words)).1

-- the options are accepted exactly where each is known and occurs once, and these are their rows
pub options_judged : (names words : List (List ℕ)) (all : List Given) → given_from words None ≡ Some all
    → Judged (each_once names [] all) (fault_of (app_with names) words) (matches_of (app_with names) words) (rows all)
options_judged names words all e =
    let name = codes "ow_whisk" in
    let s = shape name names in
    let wrong = ap (λ (a : App). built_fault a nothing_held words) (is_built names) ∙ fault_is name names words in
    let rs = ap (λ (a : App). fold with_default (found a.top (at (held []) idle) words) a.top.rules) (is_built names) ∙ rows_are name names words in
    Judged-is (each_once names [] all) (each_once names [] all) (fault_of (app_with names) words) (faults s (at (held []) idle) words)
    (matches_of (app_with names) words) (found s (at (held []) idle) words) (rows all) (rows all) refl wrong rs refl (judged name names words all e)

-- ---- values

pub value_of_rows : (name : List ℕ) (given : List Given) → first_of name (rows given) ≡ values_in given name
value_of_rows name [] = refl
value_of_rows name (g ∷ given) = go (bytes_eq g.0 name) (value_of_rows name given)
  where
    go : (b : Bool) → first_of name (rows given) ≡ values_in given name
        → option_and_then (λ (r : Row). slice_get r.values 0) (cond b (Some (row g)) (find (λ (r : Row). bytes_eq r.id name) (rows given)))
        ≡ option_map (λ (x : Given). x.1) (cond b (Some g) (find (λ (x : Given). bytes_eq x.0 name) given))
    go true rest = refl
    go false rest = rest
