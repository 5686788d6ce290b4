-- Options in any order.
use Rattle.std.proofs.Common.{is_some, ◌≡◌, ◌∙◌, ◌&&◌, ◌||◌, refl, ap, ap₂, sym, ℕ, Bool, true, false, not, List, [], ◌∷◌, ◌++◌, Option, Some, None, cond, option_map, true≢false}
use Rattle.std.specs.List.{position, find}
use Rattle.std.specs.Str.{bytes_eq}
use Rattle.std.proofs.lemmas.Slice.Eq.{bytes_eq-Decides}
use Rattle.ow_command_line.specs.Laws.{MovesNumbers, TurnsOptions, TurnsTwo, drill}
use Rattle.ow_command_line.specs.Words.{Given, alone, command_named, command_of, day_options, day_with, deploy_with, drill_by, drill_of, drill_options, drill_with, each_once, given_from, is_among, is_csv, is_day, is_deploy, is_drill, is_given, is_serve, is_usage, once_of, option_words, plain_words, serve_options, serve_with, usage_at, usage_from, usage_of, usage_options, usage_with, values_in, values_of}
use Rattle.std.specs.Prelude.{option_and_then}
use Rattle.std.proofs.lemmas.Bool.{and_parts}
use Rattle.ow_command_line.specs.declared.command.Command.{Command}
use Rattle.ow_value.specs.Decimal.{decimal_of, number_within}
use Rattle.ow_command_line.proofs.Parting.{no_plain}

same_either_way : (xs ys : List ℕ) (b c : Bool) → bytes_eq xs ys ≡ b → bytes_eq ys xs ≡ c → b ≡ c
same_either_way xs ys true true e d = refl
same_either_way xs ys false false e d = refl
same_either_way xs ys true false e d = sym ((bytes_eq-Decides ys xs).1 (sym ((bytes_eq-Decides xs ys).0 e))) ∙ d
same_either_way xs ys false true e d = sym e ∙ (bytes_eq-Decides xs ys).1 (sym ((bytes_eq-Decides ys xs).0 d))

symmetric : (xs ys : List ℕ) → bytes_eq xs ys ≡ bytes_eq ys xs
symmetric xs ys = same_either_way xs ys (bytes_eq xs ys) (bytes_eq ys xs) refl refl

-- ---- what was given before

or_assoc : (a b c : Bool) → ((a || b) || c) ≡ (a || (b || c))
or_assoc true b c = refl
or_assoc false b c = refl

or_false : (a : Bool) → (a || false) ≡ a
or_false true = refl
or_false false = refl

or_turned : (a b c : Bool) → ((a || b) || c) ≡ ((a || c) || b)
or_turned true b c = refl
or_turned false true true = refl
or_turned false true false = refl
or_turned false false true = refl
or_turned false false false = refl

given_more : (name : List ℕ) (before : List Given) (g : Given) → is_given name (before ++ g ∷ []) ≡ (is_given name before || bytes_eq g.0 name)
given_more name [] g = or_false (bytes_eq g.0 name)
given_more name (x ∷ before) g = ap (λ b. bytes_eq x.0 name || b) (given_more name before g) ∙ sym (or_assoc (bytes_eq x.0 name) (is_given name before) (bytes_eq g.0 name))

-- the same names were given
abbrev SameNames : List Given → List Given → Type 0
SameNames before after = (name : List ℕ) → is_given name before ≡ is_given name after

same_more : (before after : List Given) (g : Given) → SameNames before after → SameNames (before ++ g ∷ []) (after ++ g ∷ [])
same_more before after g same name = given_more name before g ∙ ap (λ b. b || bytes_eq g.0 name) (same name) ∙ sym (given_more name after g)

each_once-same : (names : List (List ℕ)) (before after given : List Given) → SameNames before after → each_once names before given ≡ each_once names after given
unfolding each_once
each_once-same names before after [] same = refl
each_once-same names before after (g ∷ given) same =
    ap₂ (λ b c. is_among g.0 names && (not b && c)) (same g.0) (each_once-same names (before ++ g ∷ []) (after ++ g ∷ []) given (same_more before after g same))

-- ---- two neighbours

module _ (first second : Given) where
  turned_given : (before : List Given) → SameNames ((before ++ first ∷ []) ++ second ∷ []) ((before ++ second ∷ []) ++ first ∷ [])
  turned_given before name =
      given_more name (before ++ first ∷ []) second ∙ ap (λ b. b || bytes_eq second.0 name) (given_more name before first)
      ∙ or_turned (is_given name before) (bytes_eq first.0 name) (bytes_eq second.0 name)
      ∙ sym (given_more name (before ++ second ∷ []) first ∙ ap (λ b. b || bytes_eq first.0 name) (given_more name before second))

  -- both are known, they differ, and neither is among the earlier ones
  both : (known given known' given' same rest : Bool)
      → (known && (not given && (known' && (not (given' || same) && rest)))) ≡ (known' && (not given' && (known && (not (given || same) && rest))))
  both false given false given' same rest = refl
  both false given true true same rest = refl
  both false given true false same rest = refl
  both true true false given' same rest = refl
  both true true true true same rest = refl
  both true true true false same rest = refl
  both true false false given' same rest = refl
  both true false true true same rest = refl
  both true false true false same rest = refl

  each_once-turned : (names : List (List ℕ)) (earlier before behind : List Given)
      → each_once names earlier (before ++ first ∷ second ∷ behind) ≡ each_once names earlier (before ++ second ∷ first ∷ behind)
  unfolding each_once
  each_once-turned names earlier [] behind =
      let known = is_among first.0 names in
      let known' = is_among second.0 names in
      let left = ap₂ (λ b r. known && (not (is_given first.0 earlier) && (known' && (not b && r)))) (given_more second.0 earlier first)
      (each_once-same names ((earlier ++ first ∷ []) ++ second ∷ []) ((earlier ++ second ∷ []) ++ first ∷ []) behind (turned_given earlier)) in
      let right = ap (λ b. known' && (not (is_given second.0 earlier) && (known && (not b && each_once names ((earlier ++ second ∷ []) ++ first ∷ []) behind))))
      (given_more first.0 earlier second ∙ ap (λ b. is_given first.0 earlier || b) (symmetric second.0 first.0)) in
      left
      ∙ both known (is_given first.0 earlier) known' (is_given second.0 earlier) (bytes_eq first.0 second.0) (each_once names ((earlier ++ second ∷ []) ++ first ∷ []) behind)
      ∙ sym right
  each_once-turned names earlier (g ∷ before) behind =
      ap (λ r. is_among g.0 names && (not (is_given g.0 earlier) && r)) (each_once-turned names (earlier ++ g ∷ []) before behind)

  left_not : (a b : Bool) → (not a && b) ≡ true → a ≡ false
  left_not true b e = absurd (true≢false (sym e))
  left_not false b e = refl

  either_false : (a b : Bool) → (a || b) ≡ false → b ≡ false
  either_false true b e = absurd (true≢false e)
  either_false false b e = e

  -- their names differ
  differ : (names : List (List ℕ)) (earlier before behind : List Given) → each_once names earlier (before ++ first ∷ second ∷ behind) ≡ true → bytes_eq first.0 second.0 ≡ false
  unfolding each_once
  differ names earlier [] behind e =
      let here = (and_parts (not (is_given first.0 earlier)) _ (and_parts (is_among first.0 names) _ e).1).1 in
      let new = left_not (is_given second.0 (earlier ++ first ∷ [])) _ (and_parts (is_among second.0 names) _ here).1 in
      either_false (is_given second.0 earlier) (bytes_eq first.0 second.0) (sym (given_more second.0 earlier first) ∙ new)
  differ names earlier (g ∷ before) behind e =
      differ names (earlier ++ g ∷ []) before behind (and_parts (not (is_given g.0 earlier)) _ (and_parts (is_among g.0 names) _ e).1).1

  -- so each name has its value in both orders
  value_turned : (name : List ℕ) (before behind : List Given) → bytes_eq first.0 second.0 ≡ false
      → values_in (before ++ first ∷ second ∷ behind) name ≡ values_in (before ++ second ∷ first ∷ behind) name
  value_turned name [] behind apart = go (bytes_eq first.0 name) (bytes_eq second.0 name) refl refl
    where
      rest : Option Given
      rest = find (λ g. bytes_eq g.0 name) behind

      go : (b c : Bool) → bytes_eq first.0 name ≡ b → bytes_eq second.0 name ≡ c
          → option_map (λ (g : Given). g.1) (cond b (Some first) (cond c (Some second) rest)) ≡ option_map (λ (g : Given). g.1) (cond c (Some second) (cond b (Some first) rest))
      go true true e d =
          absurd (true≢false (sym ((bytes_eq-Decides first.0 second.0).1 ((bytes_eq-Decides first.0 name).0 e ∙ sym ((bytes_eq-Decides second.0 name).0 d))) ∙ apart))
      go true false e d = refl
      go false true e d = refl
      go false false e d = refl
  value_turned name (g ∷ before) behind apart = go (bytes_eq g.0 name) (value_turned name before behind apart)
    where
      go : (b : Bool) → values_in (before ++ first ∷ second ∷ behind) name ≡ values_in (before ++ second ∷ first ∷ behind) name
          → option_map (λ (x : Given). x.1) (cond b (Some g) (find (λ x. bytes_eq x.0 name) (before ++ first ∷ second ∷ behind))) ≡ option_map (λ (x : Given). x.1) (cond b (Some g) (find (λ x. bytes_eq x.0 name) (before ++ second ∷ first ∷ behind)))
      go true e = refl
      go false e = e

  once_turned : (names : List (List ℕ)) (before behind : List Given)
      → option_map values_in (once_of names (Some (before ++ first ∷ second ∷ behind))) ≡ option_map values_in (once_of names (Some (before ++ second ∷ first ∷ behind)))
  once_turned names before behind =
      go (each_once names [] (before ++ first ∷ second ∷ behind)) refl
      ∙ ap (λ b. option_map values_in (cond b (Some (before ++ second ∷ first ∷ behind)) None)) (each_once-turned names [] before behind)
    where
      go : (b : Bool) → each_once names [] (before ++ first ∷ second ∷ behind) ≡ b
          → option_map values_in (cond b (Some (before ++ first ∷ second ∷ behind)) None) ≡ option_map values_in (cond b (Some (before ++ second ∷ first ∷ behind)) None)
      go true once = ap Some (λ i name. value_turned name before behind (differ names [] before behind once) i)
      go false again = refl

-- ---- the words

values_turned : (names words turned : List (List ℕ)) → TurnsTwo words turned → values_of names words ≡ values_of names turned
values_turned names words turned t =
    ap (λ o. option_map values_in (once_of names o)) t.in_order ∙ once_turned t.first t.second names t.before t.behind
    ∙ sym (ap (λ o. option_map values_in (once_of names o)) t.in_turn)

alone_more : (command : Option Command) (words : List (List ℕ)) (before behind : List Given) (g : Given) → given_from words None ≡ Some (before ++ g ∷ behind) → alone command words ≡ None
unfolding given_from
alone_more command [] [] behind g e = absurd (cc)
alone_more command [] (x ∷ before) behind g e = absurd (cc)
alone_more command (word ∷ words) before behind g e = refl

usage_turned : (words turned : List (List ℕ)) → TurnsTwo words turned → usage_of words ≡ usage_of turned
usage_turned words turned t =
    ap (λ o. cond (is_some o) (usage_from false words) (usage_at (position is_csv words) words)) t.in_order
    ∙ (ap (option_and_then (usage_with false)) (values_turned usage_options words turned t)
    ∙ sym (ap (λ o. cond (is_some o) (usage_from false turned) (usage_at (position is_csv turned) turned)) t.in_turn))

-- words that are options with values give no numbers
drill_none : (words : List (List ℕ)) (given : List Given) → given_from words None ≡ Some given → drill_of words ≡ None
drill_none words given e = ap (λ plain. drill_by plain (option_words words false)) (no_plain words given e)

drill_turned : (words turned : List (List ℕ)) → TurnsTwo words turned → drill_of words ≡ drill_of turned
drill_turned words turned t = drill_none words _ t.in_order ∙ sym (drill_none turned _ t.in_turn)

options_turned : (plain words turned : List (List ℕ)) → TurnsTwo words turned → drill_by plain words ≡ drill_by plain turned
options_turned [] words turned t = refl
options_turned (n ∷ []) words turned t = refl
options_turned (n ∷ seed ∷ []) words turned t = ap (option_and_then (drill_with (number_within 0 1000000 n) (decimal_of seed))) (values_turned drill_options words turned t)
options_turned (n ∷ seed ∷ more ∷ plain) words turned t = refl

-- numbers among options
pub moved_numbers : (words moved : List (List ℕ)) → MovesNumbers words moved → command_of (drill ∷ words) ≡ command_of (drill ∷ moved)
moved_numbers words moved m = ap₂ drill_by m.numbers m.options

pub turned_options : (words turned : List (List ℕ)) → TurnsOptions words turned → command_of (drill ∷ words) ≡ command_of (drill ∷ turned)
turned_options words turned t =
    ap (λ plain. drill_by plain (option_words words false)) t.numbers ∙ options_turned (plain_words turned false) (option_words words false) (option_words turned false) t.options

pub turned_command : (word : List ℕ) (words turned : List (List ℕ)) → TurnsTwo words turned → command_of (word ∷ words) ≡ command_of (word ∷ turned)
turned_command word words turned t =
    let day = ap (option_map day_with) (values_turned day_options words turned t) in
    let serve = ap (option_and_then serve_with) (values_turned serve_options words turned t) in
    let usage = usage_turned words turned t in
    let other = alone_more (command_named word) words t.before (t.second ∷ t.behind) t.first t.in_order
    ∙ sym (alone_more (command_named word) turned t.before (t.first ∷ t.behind) t.second t.in_turn) in
    let made = drill_turned words turned t in
    let deployed = ap (option_map deploy_with) (values_turned day_options words turned t) in
    λ i. cond (is_day word) (day i) (cond (is_serve word) (serve i) (cond (is_usage word) (usage i) (cond (is_drill word) (made i) (cond (is_deploy word) (deployed i) (other i)))))
