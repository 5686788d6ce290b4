-- Plain words apart from options.
use Rattle.std.proofs.Common.{◌≡◌, ◌∙◌, ◌∷◌, ◌++◌, ◌<◌, ◌≤◌, ◌+◌, refl, ap, sym, drop, map, true, false, ℕ, zero, suc, Bool, List, [], arith, cond, Option, Some, None, is_none, is_some, length, option_map, append_assoc, append-nil, true≢false}
use Rattle.std.specs.List.{slice_index_or}
use Rattle.clap.specs.Lexer.{long_of}
use Rattle.ow_command_line.specs.Words.{Given, given_from, is_open, is_plain, is_value, leaves_open, option_words, plain_words, with_given, with_option, with_option_word}

module _ {X : Type 0} (text : X → List ℕ) where
  plain_at : (xs : List X) (i : ℕ) (x : X) (waits : Bool) → i < length xs → x ≡ slice_index_or xs i x
      → plain_words (map text (drop i xs)) waits
      ≡ cond (is_plain (text x) waits) (text x ∷ plain_words (map text (drop (suc i) xs)) (leaves_open (text x) waits)) (plain_words (map text (drop (suc i) xs)) (leaves_open (text x) waits))
  unfolding plain_words
  plain_at [] i x waits lt at = absurd (omega arith)
  plain_at (y ∷ ys) zero x waits lt at =
      ap (λ z. cond (is_plain (text z) waits) (text z ∷ plain_words (map text ys) (leaves_open (text z) waits)) (plain_words (map text ys) (leaves_open (text z) waits))) (sym at)
  plain_at (y ∷ ys) (suc i) x waits lt at = plain_at ys i x waits (omega arith) at

  option_at : (xs : List X) (i : ℕ) (x : X) (waits : Bool) → i < length xs → x ≡ slice_index_or xs i x
      → option_words (map text (drop i xs)) waits
      ≡ cond (is_plain (text x) waits) (option_words (map text (drop (suc i) xs)) (leaves_open (text x) waits)) (text x ∷ option_words (map text (drop (suc i) xs)) (leaves_open (text x) waits))
  unfolding option_words
  option_at [] i x waits lt at = absurd (omega arith)
  option_at (y ∷ ys) zero x waits lt at =
      ap (λ z. cond (is_plain (text z) waits) (option_words (map text ys) (leaves_open (text z) waits)) (text z ∷ option_words (map text ys) (leaves_open (text z) waits))) (sym at)
  option_at (y ∷ ys) (suc i) x waits lt at = option_at ys i x waits (omega arith) at

  -- a word that is put among the plain ones, or isn't
  put_or : (b : Bool) (before rest : List (List ℕ)) (word : List ℕ) → before ++ cond b (word ∷ rest) rest ≡ cond b (before ++ word ∷ []) before ++ rest
  put_or true before rest word = sym (append_assoc before (word ∷ []) rest)
  put_or false before rest word = refl

  put_else : (b : Bool) (before rest : List (List ℕ)) (word : List ℕ) → before ++ cond b rest (word ∷ rest) ≡ cond b before (before ++ word ∷ []) ++ rest
  put_else true before rest word = refl
  put_else false before rest word = sym (append_assoc before (word ∷ []) rest)

  pub plain_on : (whole before now : List (List ℕ)) (xs : List X) (i : ℕ) (x : X) (waits plain next : Bool) → i < length xs → x ≡ slice_index_or xs i x → plain ≡ is_plain (text x) waits
      → next ≡ leaves_open (text x) waits → now ≡ cond plain (before ++ text x ∷ []) before
      → whole ≡ before ++ plain_words (map text (drop i xs)) waits → whole ≡ now ++ plain_words (map text (drop (i + 1) xs)) next
  plain_on whole before now xs i x waits plain next lt at is opens put so_far =
      let one : suc i ≡ i + 1 = omega arith in
      let rest = plain_words (map text (drop (i + 1) xs)) next in
      so_far ∙ (ap (λ ws. before ++ ws) (plain_at xs i x waits lt at)
      ∙ (rw (one, ← is, ← opens) (put_or plain before rest (text x)) ∙ ap (λ ws. ws ++ rest) (sym put)))

  pub options_on : (whole before now : List (List ℕ)) (xs : List X) (i : ℕ) (x : X) (waits plain next : Bool) → i < length xs → x ≡ slice_index_or xs i x → plain ≡ is_plain (text x) waits
      → next ≡ leaves_open (text x) waits → now ≡ cond plain before (before ++ text x ∷ [])
      → whole ≡ before ++ option_words (map text (drop i xs)) waits → whole ≡ now ++ option_words (map text (drop (i + 1) xs)) next
  options_on whole before now xs i x waits plain next lt at is opens put so_far =
      let one : suc i ≡ i + 1 = omega arith in
      let rest = option_words (map text (drop (i + 1) xs)) next in
      so_far ∙ (ap (λ ws. before ++ ws) (option_at xs i x waits lt at)
      ∙ (rw (one, ← is, ← opens) (put_else plain before rest (text x)) ∙ ap (λ ws. ws ++ rest) (sym put)))

  plain_end : (xs : List X) (i : ℕ) (waits : Bool) → length xs ≤ i → plain_words (map text (drop i xs)) waits ≡ []
  unfolding plain_words
  plain_end [] zero waits past = refl
  plain_end [] (suc i) waits past = refl
  plain_end (y ∷ ys) zero waits past = absurd (omega arith)
  plain_end (y ∷ ys) (suc i) waits past = plain_end ys i waits (omega arith)

  option_end : (xs : List X) (i : ℕ) (waits : Bool) → length xs ≤ i → option_words (map text (drop i xs)) waits ≡ []
  unfolding option_words
  option_end [] zero waits past = refl
  option_end [] (suc i) waits past = refl
  option_end (y ∷ ys) zero waits past = absurd (omega arith)
  option_end (y ∷ ys) (suc i) waits past = option_end ys i waits (omega arith)

  pub plain_all : (whole now : List (List ℕ)) (xs : List X) (i : ℕ) (waits : Bool) → length xs ≤ i → whole ≡ now ++ plain_words (map text (drop i xs)) waits → now ≡ whole
  plain_all whole now xs i waits past e = sym (e ∙ (ap (λ ws. now ++ ws) (plain_end xs i waits past) ∙ append-nil now))

  pub options_all : (whole now : List (List ℕ)) (xs : List X) (i : ℕ) (waits : Bool) → length xs ≤ i → whole ≡ now ++ option_words (map text (drop i xs)) waits → now ≡ whole
  options_all whole now xs i waits past e = sym (e ∙ (ap (λ ws. now ++ ws) (option_end xs i waits past) ∙ append-nil now))

-- ---- options alone have no plain words

no_some : {X : Type 0} (x : X) → None ≡ Some x → ⊥
no_some x i = true≢false (sym (ap is_some i))

rest_of : (name value : List ℕ) (behind : Option (List Given)) (all : List Given) → with_given name value behind ≡ Some all → (rest : List Given) × (behind ≡ Some rest)
rest_of name value behind all e = go (is_value value) behind e
  where
    go : (b : Bool) (found : Option (List Given)) → cond b (option_map (λ (r : List Given). (name, value) ∷ r) found) None ≡ Some all → (rest : List Given) × (found ≡ Some rest)
    go false found i = absurd (no_some all i)
    go true None i = absurd (no_some all i)
    go true (Some rest) i = (rest, refl)

abbrev NoPlain : List (List ℕ) → Type 0
NoPlain words = ((all : List Given) → given_from words None ≡ Some all → plain_words words false ≡ [])
    × ((name : List ℕ) (all : List Given) → given_from words (Some name) ≡ Some all → plain_words words true ≡ [])

word_none : (word : List ℕ) (words : List (List ℕ)) (o : Option (List ℕ × Option (List ℕ))) (all : List Given) → NoPlain words → with_option_word o (given_from words) ≡ Some all
    → cond (is_none o) (word ∷ plain_words words (is_open o)) (plain_words words (is_open o)) ≡ []
word_none word words None all rest e = absurd (no_some all e)
word_none word words (Some p) all rest e = go p.1 e
  where
    go : (value : Option (List ℕ)) → with_option p.0 value (given_from words) ≡ Some all → plain_words words (is_none value) ≡ []
    go None i = rest.1 p.0 all i
    go (Some v) i = let r = rest_of p.0 v (given_from words None) all i in rest.0 r.0 r.1

none_plain : (words : List (List ℕ)) → NoPlain words
unfolding given_from plain_words
none_plain [] = (λ all e. refl, λ name all e. refl)
none_plain (word ∷ words) =
    let rest = none_plain words in (
      λ all e. word_none word words (long_of word) all rest e,
      λ name all e. let r = rest_of name word (given_from words None) all e in rest.0 r.0 r.1,
    )

pub no_plain : (words : List (List ℕ)) (all : List Given) → given_from words None ≡ Some all → plain_words words false ≡ []
no_plain words all e = (none_plain words).0 all e
