-- How `clap` walks over the words of a command of options.
use Rattle.std.proofs.Common.{◌≡◌, ◌≢◌, ◌∙◌, ◌&&◌, ◌||◌, ◌==◌, refl, sym, ap, ap₂, subst, ℕ, Bool, true, false, not, List, [], ◌∷◌, ◌++◌, map, Option, Some, None, append-nil, append_assoc, true≢false, cond, is_some, nat_lt, option_map}
use Rattle.std.specs.List.{fold}
use Rattle.std.specs.Option.{option_map_or}
use Rattle.std.specs.Str.{bytes_eq}
use Rattle.std.proofs.lemmas.List.{map-append}
use Rattle.std.proofs.lemmas.Slice.Eq.{bytes_eq-Decides}
use Rattle.clap.specs.Lexer.{long_of, short_of}
use Rattle.clap.specs.Kinds.{Kinds, or_else}
use Rattle.clap.specs.Faults.{bundle_fault, flag_word_fault, long_fault, react_fault, settle_fault, step_fault, turn_fault, use_fault, walk_fault}
use Rattle.clap.specs.Simple.{Shape}
use Rattle.clap.specs.Walk.{Held, Row, Rule, Step, Waiting, Walk, after_flag, after_step, arg_by_id, arg_by_long, at_row, has_row, idle, long_met, long_or_other, more_values, option, option_word, reacted, reading_by, settled, short_or_plain, trailing, used, used_by_id, walked, without}
use Rattle.clap.specs.declared.error.kind.ErrorKind.{ErrorKind}
use Rattle.clap.specs.declared.error.kind.ErrorKind.TheVariants.{ArgumentConflict, UnknownArgument}
use Rattle.clap.specs.declared.parser.matches.ValueSource.TheVariants.{CommandLine}
use Rattle.clap.proofs.WalkLemmas.{list_any-map}
use Rattle.ow_command_line.specs.Words.{Given, each_once, given_from, is_among, is_given, is_value, with_given, with_option, with_option_word}
use Rattle.ow_command_line.proofs.Apps.{rule, shape}

-- ---- the options of a command, by their names

abbrev pub rules : List (List ℕ) → List Rule
rules names = map rule names

pub by_id : (names : List (List ℕ)) (name : List ℕ) → is_among name names ≡ true → arg_by_id (rules names) name ≡ Some (rule name)
by_id [] name e = absurd (true≢false (sym e))
by_id (other ∷ names) name e = go (bytes_eq other name) refl e (by_id names name)
  where
    go : (t : Bool) → bytes_eq other name ≡ t → (t || is_among name names) ≡ true → (is_among name names ≡ true → arg_by_id (rules names) name ≡ Some (rule name))
        → arg_by_id (rules (other ∷ names)) name ≡ Some (rule name)
    go true same among rest = rw same (ap (λ n. Some (rule n)) ((bytes_eq-Decides other name).0 same))
    go false differs among rest = rw differs (rest among)

pub by_long : (names : List (List ℕ)) (name : List ℕ) → is_among name names ≡ true → arg_by_long (rules names) name ≡ Some (rule name)
by_long [] name e = absurd (true≢false (sym e))
by_long (other ∷ names) name e = go (bytes_eq other name) refl e (by_long names name)
  where
    go : (t : Bool) → bytes_eq other name ≡ t → (t || is_among name names) ≡ true → (is_among name names ≡ true → arg_by_long (rules names) name ≡ Some (rule name))
        → arg_by_long (rules (other ∷ names)) name ≡ Some (rule name)
    go true same among rest = rw same (ap (λ n. Some (rule n)) ((bytes_eq-Decides other name).0 same))
    go false differs among rest = rw differs (rest among)

pub no_long : (names : List (List ℕ)) (name : List ℕ) → is_among name names ≡ false → arg_by_long (rules names) name ≡ None
no_long [] name e = refl
no_long (other ∷ names) name e = go (bytes_eq other name) refl e (no_long names name)
  where
    go : (t : Bool) → bytes_eq other name ≡ t → (t || is_among name names) ≡ false → (is_among name names ≡ false → arg_by_long (rules names) name ≡ None)
        → arg_by_long (rules (other ∷ names)) name ≡ None
    go true same among rest = absurd (true≢false among)
    go false differs among rest = rw differs (rest among)

-- ---- rows

abbrev pub row : Given → Row
row g = record {
  id = g.0;
  values = g.1 ∷ [];
  count = None;
  source = Some CommandLine;
  reading = reading_by (rule g.0);
}

abbrev pub rows : List Given → List Row
rows = map row

pub has_row-is_given : (name : List ℕ) (given : List Given) → has_row name (rows given) ≡ is_given name given
has_row-is_given name given = sym (list_any-map (λ (r : Row). bytes_eq r.id name) row given)

pub at_new : (name : List ℕ) (change : Row → List Row) (missing : List Row) (given : List Given) → is_given name given ≡ false
    → at_row name change missing (rows given) ≡ rows given ++ missing
at_new name change missing [] e = refl
at_new name change missing (g ∷ given) e = go (bytes_eq g.0 name) refl e (at_new name change missing given)
  where
    go : (t : Bool) → bytes_eq g.0 name ≡ t → (t || is_given name given) ≡ false
        → (is_given name given ≡ false → at_row name change missing (rows given) ≡ rows given ++ missing) → at_row name change missing (rows (g ∷ given)) ≡ rows (g ∷ given) ++ missing
    go true same new rest = absurd (true≢false new)
    go false differs new rest = rw differs (ap (λ rs. row g ∷ rs) (rest new))

pub used_new : (name value : List ℕ) (given : List Given) → is_given name given ≡ false
    → used (rule name) (value ∷ []) (rows given) ≡ rows (given ++ (name, value) ∷ [])
used_new name value given e =
    let gone : without name (rows given) ≡ rows given = at_new name (λ _. []) [] given e ∙ append-nil (rows given) in
    rw gone (at_new name (more_values CommandLine (value ∷ [])) (row (name, value) ∷ []) given e ∙ sym (map-append row given ((name, value) ∷ [])))

-- ---- one use of an option

use_by : (name value : List ℕ) (rs : List Row) → use_fault false (rule name) (value ∷ []) rs ≡ or_else (cond (has_row name rs && true) (ArgumentConflict ∷ []) []) []
use_by name value rs = refl

use_is : (name value : List ℕ) (given : List Given)
    → use_fault false (rule name) (value ∷ []) (rows given) ≡ or_else (cond (is_given name given && true) (ArgumentConflict ∷ []) []) []
use_is name value given = use_by name value (rows given) ∙ ap (λ b. or_else (cond (b && true) (ArgumentConflict ∷ []) []) []) (has_row-is_given name given)

use_again : (name value : List ℕ) (given : List Given) → is_given name given ≡ true → use_fault false (rule name) (value ∷ []) (rows given) ≡ ArgumentConflict ∷ []
use_again name value given e = use_is name value given ∙ ap (λ b. or_else (cond (b && true) (ArgumentConflict ∷ []) []) []) e

use_new : (name value : List ℕ) (given : List Given) → is_given name given ≡ false → use_fault false (rule name) (value ∷ []) (rows given) ≡ []
use_new name value given e = use_is name value given ∙ ap (λ b. or_else (cond (b && true) (ArgumentConflict ∷ []) []) []) e

-- ---- what is held between two words

abbrev pub held : List Row → Held
held rs = record { rows = rs; pending = None; skip = 0 }

-- these options were given, and nothing is wrong with them
pub record Stands (names : List (List ℕ)) (given : List Given) (h : Held) : Type 0 where
  pub settles : settled (rules names) h ≡ held (rows given)
  pub passes : settle_fault (rules names) false h ≡ []

pub none_stands : (names : List (List ℕ)) → Stands names [] (held [])
none_stands names = record { settles = refl; passes = refl }

-- an option with its value is held
abbrev holding : List Given → (name value : List ℕ) → Held
holding given name value = record { rows = rows given; pending = Some (name, value ∷ []); skip = 0 }

new_stands : (names : List (List ℕ)) (given : List Given) (name value : List ℕ) → is_among name names ≡ true → is_given name given ≡ false
    → Stands names (given ++ (name, value) ∷ []) (holding given name value)
new_stands names given name value known new =
    let found = by_id names name known in
    record {
      settles = ap (λ o. held (used_by_id o (value ∷ []) (rows given))) found ∙ ap held (used_new name value given new);
      passes = ap (λ o. option_map_or (λ a. use_fault false a (value ∷ []) (rows given)) o []) found ∙ use_new name value given new;
    }

again_fails : (names : List (List ℕ)) (given : List Given) (name value : List ℕ) → is_among name names ≡ true → is_given name given ≡ true
    → settle_fault (rules names) false (holding given name value) ≡ ArgumentConflict ∷ []
again_fails names given name value known again =
    ap (λ o. option_map_or (λ a. use_fault false a (value ∷ []) (rows given)) o []) (by_id names name known) ∙ use_again name value given again

module _ (names : List (List ℕ)) (given : List Given) (h : Held) (stands : Stands names given h) where
  react_is : (name value : List ℕ) → react_fault (rules names) false (rule name) (value ∷ []) h ≡ use_fault false (rule name) (value ∷ []) (rows given)
  react_is name value = ap₂ (λ k (g : Held). or_else k (use_fault false (rule name) (value ∷ []) g.rows)) stands.passes stands.settles

  -- an option that is new is added
  reacted_is : (name value : List ℕ) → is_given name given ≡ false → reacted (rules names) (rule name) (value ∷ []) h ≡ held (rows (given ++ (name, value) ∷ []))
  reacted_is name value new =
      ap (λ (g : Held). record g { rows = used (rule name) (value ∷ []) g.rows; pending = None }) stands.settles ∙ ap held (used_new name value given new)

-- ---- one word

abbrev dashes : List ℕ
dashes = 45 ∷ 45 ∷ []

-- between two words
abbrev pub at : Held → Waiting → Walk
at h waiting = record { held = h; waiting = waiting; position = 1; is_trailing = false; stopped = None }

-- what a word does that is no subcommand, by the test for `--` and the option that it names
abbrev met : List Rule → Waiting → List ℕ → Held → Bool → Option (List ℕ × Option (List ℕ)) → Held × Step
met c waiting word h true o = (h, trailing 1)
met c waiting word h false o = long_or_other c waiting word o h

abbrev turn : Shape → Waiting → List ℕ → Held → Bool → Option (List ℕ × Option (List ℕ)) → Kinds
turn s waiting word h b o =
    or_else (cond b [] (flag_word_fault s.rules false o word h)) (step_fault s 1 (met s.rules waiting word h b o).0 (met s.rules waiting word h b o).1)

abbrev after : List Rule → Waiting → List ℕ → Held → Bool → Option (List ℕ × Option (List ℕ)) → Walk
after c waiting word h b o = after_step c word (at h waiting) (met c waiting word h b o).0 (met c waiting word h b o).1

met_is : (c : List Rule) (waiting : Waiting) (word : List ℕ) (h : Held) (b : Bool) (o : Option (List ℕ × Option (List ℕ)))
    → ◌≡◌ {A = Held × Step} (cond b (h, trailing 1) (long_or_other c waiting word o h)) (met c waiting word h b o)
met_is c waiting word h true o = refl
met_is c waiting word h false o = refl

module _ (name : List ℕ) (names : List (List ℕ)) where
  abbrev s : Shape
  s = shape name names

  turn_idle : (word : List ℕ) (h : Held) → turn_fault s [] (at h idle) word ≡ turn s idle word h (bytes_eq word dashes) (long_of word)
  turn_idle word h =
      ap (λ (m : Held × Step). or_else (cond (bytes_eq word dashes) [] (flag_word_fault s.rules false (long_of word) word h)) (step_fault s 1 m.0 m.1))
      (met_is s.rules idle word h (bytes_eq word dashes) (long_of word))

  turn_waiting : (id word : List ℕ) (h : Held) → turn_fault s [] (at h (option id)) word ≡ turn s (option id) word h (bytes_eq word dashes) (long_of word)
  turn_waiting id word h =
      ap (λ (m : Held × Step). or_else (cond (bytes_eq word dashes) [] (flag_word_fault s.rules false (long_of word) word h)) (step_fault s 1 m.0 m.1))
      (met_is s.rules (option id) word h (bytes_eq word dashes) (long_of word))

  after_idle : (word : List ℕ) (h : Held) → walked s.rules [] (at h idle) word ≡ after s.rules idle word h (bytes_eq word dashes) (long_of word)
  unfolding walked
  after_idle word h = ap (λ (m : Held × Step). after_step s.rules word (at h idle) m.0 m.1) (met_is s.rules idle word h (bytes_eq word dashes) (long_of word))

  after_waiting : (id word : List ℕ) (h : Held) → walked s.rules [] (at h (option id)) word ≡ after s.rules (option id) word h (bytes_eq word dashes) (long_of word)
  unfolding walked
  after_waiting id word h = ap (λ (m : Held × Step). after_step s.rules word (at h (option id)) m.0 m.1) (met_is s.rules (option id) word h (bytes_eq word dashes) (long_of word))

-- a word that names an option isn't `--`
not_dashes : (word : List ℕ) (p : List ℕ × Option (List ℕ)) → long_of word ≡ Some p → bytes_eq word dashes ≡ false
not_dashes word p e = go (bytes_eq word dashes) refl
  where
    none : {X : Type 0} (x : X) → None ≡ Some x → ⊥
    none x i = true≢false (sym (ap is_some i))

    go : (t : Bool) → bytes_eq word dashes ≡ t → t ≡ false
    go true same = absurd (none p (sym (ap long_of ((bytes_eq-Decides word dashes).0 same)) ∙ e))
    go false differs = refl

-- ---- a word that names an option

abbrev named_met : List Rule → List ℕ → Held → Option Rule → Option (List ℕ) → Held × Step
named_met c word h a value = after_flag c idle word (long_met c a value h).0 (long_met c a value h).1

abbrev turn_named : Shape → List ℕ → Held → Option Rule → Option (List ℕ) → Kinds
turn_named s word h a value = or_else (long_fault s.rules false a value h) (step_fault s 1 (named_met s.rules word h a value).0 (named_met s.rules word h a value).1)

abbrev after_named : List Rule → List ℕ → Held → Option Rule → Option (List ℕ) → Walk
after_named c word h a value = after_step c word (at h idle) (named_met c word h a value).0 (named_met c word h a value).1

module _ (name : List ℕ) (names : List (List ℕ)) (word option_name : List ℕ) (value : Option (List ℕ)) (h : Held)
    (names_it : long_of word ≡ Some (option_name, value)) where
  named_turn : (a : Option Rule) → arg_by_long (rules names) option_name ≡ a → turn_fault (shape name names) [] (at h idle) word ≡ turn_named (shape name names) word h a value
  named_turn a is =
      turn_idle name names word h ∙ ap₂ (turn (shape name names) idle word h) (not_dashes word (option_name, value) names_it) names_it
      ∙ ap (λ o. turn_named (shape name names) word h o value) is

  named_after : (a : Option Rule) → arg_by_long (rules names) option_name ≡ a → walked (rules names) [] (at h idle) word ≡ after_named (rules names) word h a value
  named_after a is =
      after_idle name names word h ∙ ap₂ (after (rules names) idle word h) (not_dashes word (option_name, value) names_it) names_it
      ∙ ap (λ o. after_named (rules names) word h o value) is

-- ---- a value

value_facts : (word : List ℕ) → is_value word ≡ true → (bytes_eq word dashes ≡ false) × (long_of word ≡ None) × (short_of word ≡ None)
value_facts [] e = absurd (true≢false (sym e))
value_facts (c ∷ cs) e = go (c == 45) refl e
  where
    go : (t : Bool) → (c == 45) ≡ t → not t ≡ true → (bytes_eq (c ∷ cs) dashes ≡ false) × (long_of (c ∷ cs) ≡ None) × (short_of (c ∷ cs) ≡ None)
    go true is kept = absurd (true≢false (sym kept))
    go false is kept = (rw is refl, rw is refl, rw is refl)

-- an option waits for its value
abbrev wanting : List Given → List ℕ → Held
wanting given name = record { rows = rows given; pending = Some (name, []); skip = 0 }

module _ (name : List ℕ) (names : List (List ℕ)) (given : List Given) (option_name word : List ℕ) (is : is_value word ≡ true) where
  value_turn : turn_fault (shape name names) [] (at (wanting given option_name) (option option_name)) word ≡ []
  value_turn =
      let facts = value_facts word is in
      turn_waiting name names option_name word (wanting given option_name)
      ∙ ap₂ (turn (shape name names) (option option_name) word (wanting given option_name)) facts.0 facts.1
      ∙ ap (λ o. or_else (option_map_or (λ flags. bundle_fault (rules names) false flags (wanting given option_name)) o [])
      (step_fault (shape name names) 1 (short_or_plain (rules names) (option option_name) word o (wanting given option_name)).0 (short_or_plain (rules names) (option option_name) word o (wanting given option_name)).1)) facts.2

  value_after : is_among option_name names ≡ true
      → walked (rules names) [] (at (wanting given option_name) (option option_name)) word ≡ at (holding given option_name word) idle
  value_after known =
      let facts = value_facts word is in
      after_waiting name names option_name word (wanting given option_name)
      ∙ ap₂ (after (rules names) (option option_name) word (wanting given option_name)) facts.0 facts.1
      ∙ ap (λ o. stepped (short_or_plain (rules names) (option option_name) word o (wanting given option_name))) facts.2
      ∙ ap (λ o. at (option_word o option_name word (wanting given option_name)).0 (option_word o option_name word (wanting given option_name)).1) (by_id names option_name known)
      ∙ ap (λ b. at (holding given option_name word) (cond (nat_lt (cond b 1 0) 1) (option option_name) idle)) ((bytes_eq-Decides option_name option_name).1 refl)
    where
      stepped : Held × Step → Walk
      stepped m = after_step (rules names) word (at (wanting given option_name) (option option_name)) m.0 m.1

-- ---- all the words

-- what is wrong with the words after what was read, and with what is held at their end
abbrev pub faults : Shape → Walk → List (List ℕ) → Kinds
faults s w words = or_else (walk_fault s [] w words) (settle_fault s.rules false (fold (walked s.rules []) w words).held)

-- the rows at their end
abbrev pub found : Shape → Walk → List (List ℕ) → List Row
found s w words = (settled s.rules (fold (walked s.rules []) w words).held).rows

or_else-assoc : (a b c : Kinds) → or_else (or_else a b) c ≡ or_else a (or_else b c)
or_else-assoc [] b c = refl
or_else-assoc (k ∷ ks) b c = refl

word_first : (s : Shape) (w : Walk) (word : List ℕ) (words : List (List ℕ)) → faults s w (word ∷ words) ≡ or_else (turn_fault s [] w word) (faults s (walked s.rules [] w word) words)
unfolding walk_fault
word_first s w word words =
    or_else-assoc (turn_fault s [] w word) (walk_fault s [] (walked s.rules [] w word) words) (settle_fault s.rules false (fold (walked s.rules []) (walked s.rules [] w word) words).held)

abbrev is_cons : Kinds → Bool
is_cons [] = false
is_cons (k ∷ ks) = true

cons≢nil : (k : ErrorKind) (ks rest xs : Kinds) → xs ≡ or_else (k ∷ ks) rest → xs ≢ []
cons≢nil k ks rest xs e none = true≢false (sym (ap is_cons (sym none ∙ e)))

-- a word that is wrong
wrong_first : (s : Shape) (w : Walk) (word : List ℕ) (words : List (List ℕ)) (k : ErrorKind) (ks : Kinds) → turn_fault s [] w word ≡ k ∷ ks → faults s w (word ∷ words) ≢ []
wrong_first s w word words k ks e =
    cons≢nil k ks (faults s (walked s.rules [] w word) words) (faults s w (word ∷ words)) (word_first s w word words ∙ ap (λ x. or_else x (faults s (walked s.rules [] w word) words)) e)

-- a word that is right
right_first : (s : Shape) (w next : Walk) (word : List ℕ) (words : List (List ℕ)) → turn_fault s [] w word ≡ [] → walked s.rules [] w word ≡ next
    → (faults s w (word ∷ words) ≡ faults s next words) × (found s w (word ∷ words) ≡ found s next words)
right_first s w next word words e is = (
  word_first s w word words ∙ ap₂ (λ x v. or_else x (faults s v words)) e is,
  ap (λ v. found s v words) is,
)

-- the result of words that give options: their rows, or a fault
abbrev pub Judged : Bool → Kinds → List Row → List Row → Type 0
Judged true wrong rs expected = (wrong ≡ []) × (rs ≡ expected)
Judged false wrong rs expected = wrong ≢ []

pub Judged-is : (b c : Bool) (wrong other : Kinds) (rs ss expected wanted : List Row) → b ≡ c → wrong ≡ other → rs ≡ ss → expected ≡ wanted
    → Judged c other ss wanted → Judged b wrong rs expected
Judged-is true true wrong other rs ss expected wanted same e f g j = (e ∙ j.0, f ∙ j.1 ∙ sym g)
Judged-is true false wrong other rs ss expected wanted same e f g j = absurd (true≢false same)
Judged-is false true wrong other rs ss expected wanted same e f g j = absurd (true≢false (sym same))
Judged-is false false wrong other rs ss expected wanted same e f g j = λ none. j (sym e ∙ none)

Judged-wrong : (b : Bool) (wrong : Kinds) (rs expected : List Row) → b ≡ false → wrong ≢ [] → Judged b wrong rs expected
Judged-wrong true wrong rs expected e h = absurd (true≢false e)
Judged-wrong false wrong rs expected e h = h

-- what an option with a value comes from
record Gives (name value : List ℕ) (behind : Option (List Given)) (all : List Given) : Type 0 where
  good : is_value value ≡ true
  rest : List Given
  gives : behind ≡ Some rest
  is : all ≡ (name, value) ∷ rest

gives_from : (name value : List ℕ) (behind : Option (List Given)) (all : List Given) → with_given name value behind ≡ Some all → Gives name value behind all
gives_from name value behind all e = go (is_value value) behind refl e
  where
    none : {X : Type 0} (x : X) → None ≡ Some x → ⊥
    none x i = true≢false (sym (ap is_some i))

    go : (b : Bool) (found : Option (List Given)) → is_value value ≡ b → cond b (option_map (λ (r : List Given). (name, value) ∷ r) found) None ≡ Some all → Gives name value found all
    go false found is i = absurd (none all i)
    go true None is i = absurd (none all i)
    go true (Some rest) is i = record { good = is; rest = rest; gives = refl; is = cc }

no_some : {X : Type 0} (x : X) → None ≡ Some x → ⊥
no_some x i = true≢false (sym (ap is_some i))

module _ (name : List ℕ) (names : List (List ℕ)) where
  -- the words give these options, after options that were given
  abbrev Judges : List (List ℕ) → Type 0
  Judges words = (given : List Given) (h : Held) (all : List Given) → Stands names given h → given_from words None ≡ Some all
      → Judged (each_once names given all) (faults (shape name names) (at h idle) words) (found (shape name names) (at h idle) words) (rows (given ++ all))

  -- and after the name of an option
  abbrev Waits : List (List ℕ) → Type 0
  Waits words = (given : List Given) (option_name : List ℕ) (all : List Given) → is_among option_name names ≡ true → given_from words (Some option_name) ≡ Some all
      → Judged (each_once names given all) (faults (shape name names) (at (wanting given option_name) (option option_name)) words)
      (found (shape name names) (at (wanting given option_name) (option option_name)) words) (rows (given ++ all))

  each_once-cons : (given : List Given) (g : Given) (rest : List Given)
      → each_once names given (g ∷ rest) ≡ (is_among g.0 names && (not (is_given g.0 given) && each_once names (given ++ g ∷ []) rest))
  unfolding each_once
  each_once-cons given g rest = refl

  -- an option that is no option of the command, or is given again
  unknown_once : (given : List Given) (g : Given) (rest : List Given) → is_among g.0 names ≡ false → each_once names given (g ∷ rest) ≡ false
  unknown_once given g rest e = each_once-cons given g rest ∙ ap (λ b. b && (not (is_given g.0 given) && each_once names (given ++ g ∷ []) rest)) e

  again_once : (given : List Given) (g : Given) (rest : List Given) → is_among g.0 names ≡ true → is_given g.0 given ≡ true → each_once names given (g ∷ rest) ≡ false
  again_once given g rest e f = each_once-cons given g rest ∙ ap₂ (λ b c. b && (not c && each_once names (given ++ g ∷ []) rest)) e f

  new_once : (given : List Given) (g : Given) (rest : List Given) → is_among g.0 names ≡ true → is_given g.0 given ≡ false
      → each_once names given (g ∷ rest) ≡ each_once names (given ++ g ∷ []) rest
  new_once given g rest e f = each_once-cons given g rest ∙ ap₂ (λ b c. b && (not c && each_once names (given ++ g ∷ []) rest)) e f

  more_rows : (given : List Given) (g : Given) (rest : List Given) → rows (given ++ g ∷ rest) ≡ rows ((given ++ g ∷ []) ++ rest)
  more_rows given g rest = ap rows (sym (append_assoc given (g ∷ []) rest))

  -- ---- what is held is wrong

  wrong_word : (word option_name : List ℕ) (value : Option (List ℕ)) (words : List (List ℕ)) (h : Held) (k : ErrorKind) (ks : Kinds)
      → long_of word ≡ Some (option_name, value) → is_among option_name names ≡ true → settle_fault (rules names) false h ≡ k ∷ ks
      → faults (shape name names) (at h idle) (word ∷ words) ≢ []
  wrong_word word option_name (Some v) words h k ks names_it known bad =
      wrong_first (shape name names) (at h idle) word words k ks
      (named_turn name names word option_name (Some v) h names_it (Some (rule option_name)) (by_long names option_name known)
      ∙ ap (λ x. or_else (or_else x (use_fault false (rule option_name) (v ∷ []) (settled (rules names) h).rows)) []) bad)
  wrong_word word option_name None words h k ks names_it known bad =
      wrong_first (shape name names) (at h idle) word words k ks
      (named_turn name names word option_name None h names_it (Some (rule option_name)) (by_long names option_name known) ∙ ap (λ x. or_else x []) bad)

  unknown_word : (word option_name : List ℕ) (value : Option (List ℕ)) (words : List (List ℕ)) (h : Held)
      → long_of word ≡ Some (option_name, value) → is_among option_name names ≡ false → faults (shape name names) (at h idle) (word ∷ words) ≢ []
  unknown_word word option_name value words h names_it unknown =
      wrong_first (shape name names) (at h idle) word words UnknownArgument []
      (named_turn name names word option_name value h names_it None (no_long names option_name unknown))

  held_fails : (words : List (List ℕ)) (h : Held) (k : ErrorKind) (ks : Kinds) (all : List Given) → settle_fault (rules names) false h ≡ k ∷ ks → given_from words None ≡ Some all
      → faults (shape name names) (at h idle) words ≢ []
  unfolding given_from walk_fault
  held_fails [] h k ks all bad e = cons≢nil k ks [] (faults (shape name names) (at h idle) []) bad
  held_fails (word ∷ words) h k ks all bad e = go (long_of word) refl e
    where
      known_or : (p : List ℕ × Option (List ℕ)) (b : Bool) → long_of word ≡ Some p → is_among p.0 names ≡ b → faults (shape name names) (at h idle) (word ∷ words) ≢ []
      known_or p true names_it known = wrong_word word p.0 p.1 words h k ks names_it known bad
      known_or p false names_it unknown = unknown_word word p.0 p.1 words h names_it unknown

      go : (o : Option (List ℕ × Option (List ℕ))) → long_of word ≡ o → with_option_word o (given_from words) ≡ Some all → faults (shape name names) (at h idle) (word ∷ words) ≢ []
      go None names_it i = absurd (no_some all i)
      go (Some p) names_it i = known_or p (is_among p.0 names) names_it refl

  -- ---- `--x=V`

  module _ (word option_name v : List ℕ) (words : List (List ℕ)) (names_it : long_of word ≡ Some (option_name, Some v)) (judges : Judges words)
      (given : List Given) (h : Held) (stands : Stands names given h) where
    abbrev one : Given
    one = (option_name, v)

    joined_at : (b c : Bool) (rest : List Given) → is_among option_name names ≡ b → is_given option_name given ≡ c → given_from words None ≡ Some rest
        → Judged (each_once names given (one ∷ rest)) (faults (shape name names) (at h idle) (word ∷ words)) (found (shape name names) (at h idle) (word ∷ words)) (rows (given ++ one ∷ rest))
    joined_at false c rest known again gives =
        Judged-wrong (each_once names given (one ∷ rest)) (faults (shape name names) (at h idle) (word ∷ words)) (found (shape name names) (at h idle) (word ∷ words)) (rows (given ++ one ∷ rest))
        (unknown_once given one rest known) (unknown_word word option_name (Some v) words h names_it known)
    joined_at true true rest known again gives =
        let turned = named_turn name names word option_name (Some v) h names_it (Some (rule option_name)) (by_long names option_name known)
        ∙ ap (λ x. or_else x []) (react_is names given h stands option_name v ∙ use_again option_name v given again) in
        Judged-wrong (each_once names given (one ∷ rest)) (faults (shape name names) (at h idle) (word ∷ words)) (found (shape name names) (at h idle) (word ∷ words)) (rows (given ++ one ∷ rest))
        (again_once given one rest known again) (wrong_first (shape name names) (at h idle) word words ArgumentConflict [] turned)
    joined_at true false rest known new gives =
        let is = by_long names option_name known in
        let more = held (rows (given ++ one ∷ [])) in
        let turned = named_turn name names word option_name (Some v) h names_it (Some (rule option_name)) is
        ∙ ap (λ x. or_else x []) (react_is names given h stands option_name v ∙ use_new option_name v given new) in
        let went = named_after name names word option_name (Some v) h names_it (Some (rule option_name)) is
        ∙ ap (λ g. at g idle) (reacted_is names given h stands option_name v new) in
        let step = right_first (shape name names) (at h idle) (at more idle) word words turned went in
        Judged-is (each_once names given (one ∷ rest)) (each_once names (given ++ one ∷ []) rest) (faults (shape name names) (at h idle) (word ∷ words)) (faults (shape name names) (at more idle) words)
        (found (shape name names) (at h idle) (word ∷ words)) (found (shape name names) (at more idle) words) (rows (given ++ one ∷ rest)) (rows ((given ++ one ∷ []) ++ rest))
        (new_once given one rest known new) step.0 step.1 (more_rows given one rest)
        (judges (given ++ one ∷ []) more rest (record { settles = refl; passes = refl }) gives)

    joined : (all : List Given) → with_given option_name v (given_from words None) ≡ Some all
        → Judged (each_once names given all) (faults (shape name names) (at h idle) (word ∷ words)) (found (shape name names) (at h idle) (word ∷ words)) (rows (given ++ all))
    joined all e =
        let g = gives_from option_name v (given_from words None) all e in
        subst (λ r. Judged (each_once names given r) (faults (shape name names) (at h idle) (word ∷ words)) (found (shape name names) (at h idle) (word ∷ words)) (rows (given ++ r))) (sym g.is)
        (joined_at (is_among option_name names) (is_given option_name given) g.rest refl refl g.gives)

  -- ---- `--x V`

  module _ (word option_name : List ℕ) (words : List (List ℕ)) (names_it : long_of word ≡ Some (option_name, None)) (waits : Waits words)
      (given : List Given) (h : Held) (stands : Stands names given h) where
    -- the option that waits for its value is the first that is given
    waiting_given : (words : List (List ℕ)) (all : List Given) → given_from words (Some option_name) ≡ Some all → is_among option_name names ≡ false → each_once names given all ≡ false
    unfolding given_from
    waiting_given [] all e unknown = absurd (no_some all e)
    waiting_given (next ∷ words) all e unknown =
        let g = gives_from option_name next (given_from words None) all e in
        ap (each_once names given) g.is ∙ unknown_once given (option_name, next) g.rest unknown

    apart : (all : List Given) (b : Bool) → is_among option_name names ≡ b → given_from words (Some option_name) ≡ Some all
        → Judged (each_once names given all) (faults (shape name names) (at h idle) (word ∷ words)) (found (shape name names) (at h idle) (word ∷ words)) (rows (given ++ all))
    apart all false unknown e =
        Judged-wrong (each_once names given all) (faults (shape name names) (at h idle) (word ∷ words)) (found (shape name names) (at h idle) (word ∷ words)) (rows (given ++ all))
        (waiting_given words all e unknown) (unknown_word word option_name None words h names_it unknown)
    apart all true known e =
        let is = by_long names option_name known in
        let turned = named_turn name names word option_name None h names_it (Some (rule option_name)) is ∙ ap (λ x. or_else x []) stands.passes in
        let went = named_after name names word option_name None h names_it (Some (rule option_name)) is
        ∙ ap (λ (g : Held). at (record g { pending = Some (option_name, []) }) (option option_name)) stands.settles in
        let step = right_first (shape name names) (at h idle) (at (wanting given option_name) (option option_name)) word words turned went in
        Judged-is (each_once names given all) (each_once names given all)
        (faults (shape name names) (at h idle) (word ∷ words)) (faults (shape name names) (at (wanting given option_name) (option option_name)) words)
        (found (shape name names) (at h idle) (word ∷ words)) (found (shape name names) (at (wanting given option_name) (option option_name)) words)
        (rows (given ++ all)) (rows (given ++ all)) refl step.0 step.1 refl (waits given option_name all known e)

  -- ---- the value of `--x`

  module _ (option_name next : List ℕ) (words : List (List ℕ)) (judges : Judges words) (given : List Given) (known : is_among option_name names ≡ true) where
    abbrev taken : Given
    taken = (option_name, next)

    taken_step : is_value next ≡ true
        → (faults (shape name names) (at (wanting given option_name) (option option_name)) (next ∷ words) ≡ faults (shape name names) (at (holding given option_name next) idle) words)
        × (found (shape name names) (at (wanting given option_name) (option option_name)) (next ∷ words) ≡ found (shape name names) (at (holding given option_name next) idle) words)
    taken_step good =
        right_first (shape name names) (at (wanting given option_name) (option option_name)) (at (holding given option_name next) idle) next words
        (value_turn name names given option_name next good) (value_after name names given option_name next good known)

    taken_at : (c : Bool) (rest : List Given) → is_value next ≡ true → is_given option_name given ≡ c → given_from words None ≡ Some rest
        → Judged (each_once names given (taken ∷ rest)) (faults (shape name names) (at (wanting given option_name) (option option_name)) (next ∷ words))
        (found (shape name names) (at (wanting given option_name) (option option_name)) (next ∷ words)) (rows (given ++ taken ∷ rest))
    taken_at true rest good again gives =
        let step = taken_step good in
        Judged-wrong (each_once names given (taken ∷ rest)) (faults (shape name names) (at (wanting given option_name) (option option_name)) (next ∷ words))
        (found (shape name names) (at (wanting given option_name) (option option_name)) (next ∷ words)) (rows (given ++ taken ∷ rest))
        (again_once given taken rest known again)
        (λ none. held_fails words (holding given option_name next) ArgumentConflict [] rest (again_fails names given option_name next known again) gives (sym step.0 ∙ none))
    taken_at false rest good new gives =
        let step = taken_step good in
        Judged-is (each_once names given (taken ∷ rest)) (each_once names (given ++ taken ∷ []) rest)
        (faults (shape name names) (at (wanting given option_name) (option option_name)) (next ∷ words)) (faults (shape name names) (at (holding given option_name next) idle) words)
        (found (shape name names) (at (wanting given option_name) (option option_name)) (next ∷ words)) (found (shape name names) (at (holding given option_name next) idle) words)
        (rows (given ++ taken ∷ rest)) (rows ((given ++ taken ∷ []) ++ rest))
        (new_once given taken rest known new) step.0 step.1 (more_rows given taken rest)
        (judges (given ++ taken ∷ []) (holding given option_name next) rest (new_stands names given option_name next known new) gives)

  -- ---- all the words

  word_judged : (word : List ℕ) (words : List (List ℕ)) (o : Option (List ℕ × Option (List ℕ))) → long_of word ≡ o → Judges words → Waits words
      → (given : List Given) (h : Held) (all : List Given) → Stands names given h → with_option_word o (given_from words) ≡ Some all
      → Judged (each_once names given all) (faults (shape name names) (at h idle) (word ∷ words)) (found (shape name names) (at h idle) (word ∷ words)) (rows (given ++ all))
  word_judged word words None names_it judges waits given h all stands e = absurd (no_some all e)
  word_judged word words (Some p) names_it judges waits given h all stands e = go p.1 names_it e
    where
      go : (value : Option (List ℕ)) → long_of word ≡ Some (p.0, value) → with_option p.0 value (given_from words) ≡ Some all
          → Judged (each_once names given all) (faults (shape name names) (at h idle) (word ∷ words)) (found (shape name names) (at h idle) (word ∷ words)) (rows (given ++ all))
      go (Some v) is i = joined word p.0 v words is judges given h stands all i
      go None is i = apart word p.0 words is waits given h stands all (is_among p.0 names) refl i

  none_judged : Judges []
  unfolding given_from each_once walk_fault
  none_judged given h all stands e =
      let nothing : [] ≡ all = cc in
      subst (λ r. Judged (each_once names given r) (faults (shape name names) (at h idle) []) (found (shape name names) (at h idle) []) (rows (given ++ r))) nothing
      (stands.passes, ap (λ (g : Held). g.rows) stands.settles ∙ ap rows (sym (append-nil given)))

  both_judged : (words : List (List ℕ)) → Judges words × Waits words
  unfolding given_from
  both_judged [] = (none_judged, λ given option_name all known e. absurd (no_some all e))
  both_judged (word ∷ words) =
      let rest = both_judged words in (
        λ given h all stands e. word_judged word words (long_of word) refl rest.0 rest.1 given h all stands e,
        λ given option_name all known e.
            let g = gives_from option_name word (given_from words None) all e in
            subst (λ r. Judged (each_once names given r) (faults (shape name names) (at (wanting given option_name) (option option_name)) (word ∷ words))
            (found (shape name names) (at (wanting given option_name) (option option_name)) (word ∷ words)) (rows (given ++ r))) (sym g.is)
            (taken_at option_name word words rest.0 given known (is_given option_name given) g.rest g.good refl g.gives),
      )

  -- the words of a command whose options have their values
  pub judged : (words : List (List ℕ)) (all : List Given) → given_from words None ≡ Some all
      → Judged (each_once names [] all) (faults (shape name names) (at (held []) idle) words) (found (shape name names) (at (held []) idle) words) (rows all)
  judged words all e = (both_judged words).0 [] (held []) all (none_stands names) e
