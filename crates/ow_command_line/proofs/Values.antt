-- Whether each option has its value, by the options that the words give.
use Rattle.std.proofs.Common.{◌≡◌, ◌∙◌, ◌∷◌, ◌<◌, ◌≤◌, ◌+◌, refl, ap, ap₂, sym, drop, map, true, false, ℕ, zero, suc, Bool, List, [], arith, Option, Some, None, option_map, is_some, not, length, cond}
use Rattle.std.specs.List.{slice_index_or}
use Rattle.std.specs.Option.{option_map_or}
use Rattle.clap.specs.Lexer.{long_of}
use Rattle.ow_command_line.specs.Plain.{behind, behind_option, behind_value, has_values}
use Rattle.ow_command_line.specs.Words.{Given, given_from, is_value, with_given, with_option, with_option_word}

-- ---- a loop over the words

module _ {X : Type 0} (text : X → List ℕ) where
  at_word : (xs : List X) (i : ℕ) (x : X) (waits : Bool) → i < length xs → x ≡ slice_index_or xs i x
      → has_values (map text (drop i xs)) waits ≡ option_map_or (has_values (map text (drop (suc i) xs))) (behind (text x) waits) false
  unfolding has_values
  at_word [] i x waits lt at = absurd (omega arith)
  at_word (y ∷ ys) zero x waits lt at = ap (λ z. has_values (text z ∷ map text ys) waits) (sym at)
  at_word (y ∷ ys) (suc i) x waits lt at = at_word ys i x waits (omega arith) at

  pub has_values-next : (xs : List X) (i : ℕ) (x : X) (waits next : Bool) → i < length xs → x ≡ slice_index_or xs i x → behind (text x) waits ≡ Some next
      → has_values (map text (drop i xs)) waits ≡ has_values (map text (drop (i + 1) xs)) next
  has_values-next xs i x waits next lt at is =
      let one : suc i ≡ i + 1 = omega arith in
      at_word xs i x waits lt at ∙ ap₂ (λ k o. option_map_or (has_values (map text (drop k xs))) o false) one is

  pub has_values-none : (xs : List X) (i : ℕ) (x : X) (waits : Bool) → i < length xs → x ≡ slice_index_or xs i x → behind (text x) waits ≡ None
      → has_values (map text (drop i xs)) waits ≡ false
  has_values-none xs i x waits lt at is = at_word xs i x waits lt at ∙ ap (λ o. option_map_or (has_values (map text (drop (suc i) xs))) o false) is

  pub has_values-end : (xs : List X) (i : ℕ) (waits : Bool) → length xs ≤ i → has_values (map text (drop i xs)) waits ≡ not waits
  unfolding has_values
  has_values-end [] zero waits past = refl
  has_values-end [] (suc i) waits past = refl
  has_values-end (y ∷ ys) zero waits past = absurd (omega arith)
  has_values-end (y ∷ ys) (suc i) waits past = has_values-end ys i waits (omega arith)

-- ---- the words have values exactly where they give options

-- a value, and what the words after it give
value_then : (name value : List ℕ) (words : List (List ℕ)) → is_some (given_from words None) ≡ has_values words false
    → is_some (with_given name value (given_from words None)) ≡ option_map_or (has_values words) (behind value true) false
unfolding behind
value_then name value words rest = go (is_value value) (given_from words None) rest
  where
    go : (b : Bool) (given : Option (List Given)) → is_some given ≡ has_values words false
        → is_some (cond b (option_map (λ (r : List Given). (name, value) ∷ r) given) None) ≡ option_map_or (has_values words) (cond b (Some false) None) false
    go true None e = e
    go true (Some given) e = e
    go false given e = refl

option_then : (name : List ℕ) (value : Option (List ℕ)) (words : List (List ℕ)) → is_some (given_from words None) ≡ has_values words false
    → is_some (given_from words (Some name)) ≡ has_values words true
    → is_some (with_option name value (given_from words)) ≡ option_map_or (has_values words) (behind_value value) false
unfolding behind
option_then name None words rest waiting = waiting
option_then name (Some value) words rest waiting = value_then name value words rest

word_then : (option : Option (List ℕ × Option (List ℕ))) (words : List (List ℕ)) → is_some (given_from words None) ≡ has_values words false
    → ((name : List ℕ) → is_some (given_from words (Some name)) ≡ has_values words true)
    → is_some (with_option_word option (given_from words)) ≡ option_map_or (has_values words) (behind_option option) false
word_then None words rest waiting = refl
word_then (Some p) words rest waiting = option_then p.0 p.1 words rest (waiting p.0)

both_ways : (words : List (List ℕ)) → (is_some (given_from words None) ≡ has_values words false) × ((name : List ℕ) → is_some (given_from words (Some name)) ≡ has_values words true)
unfolding given_from has_values behind
both_ways [] = (refl, λ name. refl)
both_ways (word ∷ words) =
    let rest = both_ways words in (
      word_then (long_of word) words rest.0 rest.1,
      λ name. value_then name word words rest.0,
    )

pub given_where : (words : List (List ℕ)) → is_some (given_from words None) ≡ has_values words false
given_where words = (both_ways words).0
