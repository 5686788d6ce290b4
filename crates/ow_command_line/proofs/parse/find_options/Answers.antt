use Rattle.std.proofs.Common.{◌≡◌, ◌≢◌, ◌∙◌, ◌⊎◌, inl, inr, List, ℕ, Bool, [], ◌∷◌, true, false, Option, Some, None, ap, sym, map, string_bytes, option_map, cond, is_some, true≢false, refl}
use Rattle.clap.specs.declared.parser.matches.ArgMatches.{ArgMatches}
use Rattle.clap.specs.Words.{app_of, fault_of, first_of, found_of, is_simple, is_simple_and_free, kind_of, matches_of, rows_of}
use Rattle.clap.specs.Kinds.{IsAmong, Kinds}
use Rattle.clap.specs.declared.error.kind.ErrorKind.{ErrorKind}
use Rattle.clap.specs.declared.error.kind.ErrorKind.TheVariants.{OutOfMemory}
use Rattle.clap.proofs.WalkLemmas.{first_value-rows}
use Rattle.ow_command_line.specs.Parse.{app_with, values_found}
use Rattle.ow_command_line.specs.Plain.{has_values}
use Rattle.ow_command_line.specs.Words.{Given, each_once, given_from, once_of, values_in, values_of}
use Rattle.ow_command_line.proofs.Apps.{app_is_free, app_is_simple}
use Rattle.ow_command_line.proofs.Levels.{options_judged, value_of_rows}
use Rattle.ow_command_line.proofs.Values.{given_where}
use Rattle.ow_command_line.proofs.Walks.{Judged, rows}
use Rattle.ow_command_line.proofs.parse.find_options.Goals as goal

none_given : (names words : List (List ℕ)) → has_values words false ≡ false → values_of names words ≡ None
none_given names words e = go (given_from words None) (given_where words ∙ e)
  where
    go : (o : Option (List Given)) → is_some o ≡ false → option_map values_in (once_of names o) ≡ None
    go None i = refl
    go (Some given) i = absurd (true≢false i)

-- what the words give, where each option has its value
record Has (words : List (List ℕ)) : Type 0 where
  given : List Given
  gives : given_from words None ≡ Some given

has_given : (words : List (List ℕ)) → has_values words false ≡ true → Has words
has_given words e = go (given_from words None) refl (given_where words ∙ e)
  where
    go : (o : Option (List Given)) → given_from words None ≡ o → is_some o ≡ true → Has words
    go None is i = absurd (true≢false (sym i))
    go (Some given) is i = record { given = given; gives = is }

values_given : (names words : List (List ℕ)) (given : List Given) (b : Bool) → given_from words None ≡ Some given → each_once names [] given ≡ b
    → values_of names words ≡ option_map values_in (cond b (Some given) None)
values_given names words given b gives once =
    ap (λ o. option_map values_in (once_of names o)) gives ∙ ap (λ c. option_map values_in (cond c (Some given) None)) once

-- the values in the rows
values_are : (found : ArgMatches) (given : List Given) → rows_of (found_of found) ≡ rows given → values_in given ≡ values_found found
values_are found given is = λ i name. (sym (first_value-rows (found_of found) name ∙ ap (first_of name) is ∙ value_of_rows name given)) i

accepted : (names words : List (List ℕ)) (found : ArgMatches) → has_values words false ≡ true → fault_of (app_with names) words ≡ []
    → rows_of (found_of found) ≡ matches_of (app_with names) words → values_of names words ≡ Some (values_found found)
accepted names words found e none is =
    let has = has_given words e in
    go has.given has.gives (each_once names [] has.given) refl (options_judged names words has.given has.gives)
  where
    go : (given : List Given) → given_from words None ≡ Some given → (b : Bool) → each_once names [] given ≡ b
        → Judged b (fault_of (app_with names) words) (matches_of (app_with names) words) (rows given) → values_of names words ≡ Some (values_found found)
    go given gives true once j = values_given names words given true gives once ∙ ap Some (values_are found given (is ∙ j.1))
    go given gives false once j = absurd (j none)

refused : (names words : List (List ℕ)) → has_values words false ≡ true → fault_of (app_with names) words ≢ [] → values_of names words ≡ None
refused names words e wrong =
    let has = has_given words e in
    go has.given has.gives (each_once names [] has.given) refl (options_judged names words has.given has.gives)
  where
    go : (given : List Given) → given_from words None ≡ Some given → (b : Bool) → each_once names [] given ≡ b
        → Judged b (fault_of (app_with names) words) (matches_of (app_with names) words) (rows given) → values_of names words ≡ None
    go given gives true once j = absurd (wrong j.0)
    go given gives false once j = values_given names words given false gives once

some_kind : (k : ErrorKind) (kinds : Kinds) → (k ≡ OutOfMemory) ⊎ IsAmong k kinds → (k ≡ OutOfMemory → ⊥) → kinds ≢ []
some_kind k [] (inl memory) other none = other memory
some_kind k [] (inr among) other none = among
some_kind k (x ∷ xs) h other none = absurd (cc)

pub returns-then-not-has_values : goal.returns-then-not-has_values
returns-then-not-has_values c = λ bad. none_given (map (λ name. name.now) c.args.names.now) (map string_bytes c.args.words.now) (sym c.if-not-has_values.ensures)

pub returns-in-Ok : goal.returns-in-Ok
returns-in-Ok c =
    let names = map (λ name. name.now) c.args.names.now in
    let words = map string_bytes c.args.words.now in
    let app_is = c.in_ok-command.ensures in
    accepted names words c.in-Ok.found (sym c.if-not-has_values.ensures)
    (ap (λ a. fault_of a words) (sym app_is) ∙ c.in-Ok.ensures.kinds (ap is_simple_and_free app_is ∙ app_is_free names))
    ((c.in-Ok.ensures.matches (ap is_simple app_is ∙ app_is_simple names)).0 ∙ ap (λ a. matches_of a words) app_is)

pub returns-in-Err : goal.returns-in-Err
returns-in-Err c = λ bad.
    let names = map (λ name. name.now) c.args.names.now in
    let words = map string_bytes c.args.words.now in
    let app_is = c.in_ok-command.ensures in
    let kinds = c.in-Err.ensures.kinds (ap is_simple_and_free app_is ∙ app_is_free names) in
    refused names words (sym c.if-not-has_values.ensures)
    (λ none. some_kind (kind_of c.in-Err.e) (fault_of (app_of c.in_ok-command.command) words) kinds (c.refusal_of.ensures bad) (ap (λ a. fault_of a words) app_is ∙ none))
