-- A command of options, as `clap` builds it.
use Rattle.std.proofs.Common.{◌≡◌, ◌<◌, ◌+◌, ◌∙◌, ◌&&◌, ◌++◌, refl, ap, ap₂, sym, ℕ, Bool, true, false, is_some, not, List, [], ◌∷◌, codes, get_or, length, map, take}
use Rattle.std.proofs.lemmas.List.{map-append, take_more}
use Rattle.std.specs.List.{count_by, list_all, list_any}
use Rattle.clap.specs.Faults.{is_free_app}
use Rattle.clap.specs.Words.{App, Rule, Shape, built, is_simple, is_simple_and_free, with_rule}
use Rattle.clap.specs.Simple.{filled, filled_from, new_shape, with_index}
use Rattle.clap.specs.Walk.{is_early_multiple}
use Rattle.ow_command_line.specs.Parse.{app_with, option_rule}

-- an option once it is built
abbrev pub rule : List ℕ → Rule
rule name = with_index 1 (filled (option_rule name))

-- a command with these rules once it is built
abbrev shape_by : List ℕ → List Rule → Shape
shape_by name rules = record (new_shape name) {
  rules = rules;
  no_binary_name = true;
  disable_help_flag = true;
  disable_help_subcommand = true;
  is_built = true;
}

-- a command of options once it is built
abbrev pub shape : List ℕ → List (List ℕ) → Shape
shape name names = shape_by name (map rule names)

abbrev pub app : List ℕ → List (List ℕ) → App
app name names = record { top = shape name names; subs = [] }

-- ---- options that are added one by one

-- a command with these rules before it is built
abbrev app_by : List Rule → App
app_by rules = record {
  top = record (new_shape (codes "ow_whisk")) { rules = rules; no_binary_name = true; disable_help_flag = true };
  subs = [];
}

pub app_with-more : {X : Type 0} (text : X → List ℕ) (xs : List X) (i : ℕ) (d : X) → i < length xs
    → with_rule (app_with (map text (take i xs))) (option_rule (text (get_or xs i d))) ≡ app_with (map text (take (i + 1) xs))
app_with-more text xs i d lt =
    let names = map text (take i xs) in
    let name = text (get_or xs i d) in
    let more : map text (take (i + 1) xs) ≡ names ++ name ∷ [] = ap (map text) (take_more xs i d lt) ∙ map-append text (take i xs) (get_or xs i d ∷ []) in
    ap app_by (sym (ap (map option_rule) more ∙ map-append option_rule names (name ∷ [])))

-- ---- what building makes of it

filled_rules : (names : List (List ℕ)) → filled_from 1 (map option_rule names) ≡ map rule names
filled_rules [] = refl
filled_rules (name ∷ names) = ap (λ rs. rule name ∷ rs) (filled_rules names)

pub is_built : (names : List (List ℕ)) → built (app_with names) ≡ app (codes "ow_whisk") names
is_built names = ap (λ rs. record { top = shape_by (codes "ow_whisk") rs; subs = [] }) (filled_rules names)

-- ---- `clap` says what it finds for such a command, and how it fails

are_simple : (names : List (List ℕ)) → list_all (λ (a : Rule). a.is_simple) (map option_rule names) ≡ true
are_simple [] = refl
are_simple (name ∷ names) = are_simple names

are_built_simple : (names : List (List ℕ)) → list_all (λ (a : Rule). a.is_simple) (map rule names) ≡ true
are_built_simple [] = refl
are_built_simple (name ∷ names) = are_built_simple names

are_free : (names : List (List ℕ)) → list_all (λ (a : Rule). a.is_free) (map rule names) ≡ true
are_free [] = refl
are_free (name ∷ names) = are_free names

none_early : (n : ℕ) (names : List (List ℕ)) → list_any (is_early_multiple n) (map rule names) ≡ false
none_early n [] = refl
none_early n (name ∷ names) = none_early n names

-- the test of the rules once they are built
abbrev ready_by : List Rule → Bool
ready_by rules = list_all (λ a. a.is_simple) rules && not (list_any (is_early_multiple (count_by (λ a. is_some a.index) rules)) rules)

are_ready : (names : List (List ℕ)) → ready_by (map rule names) ≡ true
are_ready names = ap₂ (λ x y. x && not y) (are_built_simple names) (none_early (count_by (λ (a : Rule). is_some a.index) (map rule names)) names)

pub app_is_simple : (names : List (List ℕ)) → is_simple (app_with names) ≡ true
app_is_simple names =
    ap₂ (λ x y. (x && true) && (y && true)) (are_simple names) (ap ready_by (filled_rules names) ∙ are_ready names)

pub app_is_free : (names : List (List ℕ)) → is_simple_and_free (app_with names) ≡ true
app_is_free names =
    ap₂ ◌&&◌ (app_is_simple names) (ap (λ (b : App). is_free_app b) (is_built names) ∙ ap (λ x. x && true) (are_free names))
