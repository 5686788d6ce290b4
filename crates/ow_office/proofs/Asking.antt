-- The claims of the office, by the command that the words name.
use Rattle.std.proofs.Common.{Err, Ok, Result, ◌≡◌, ◌⊎◌, ◌||◌, ℕ, Bool, true, false, codes, cond, ◌+◌, ◌++◌, List, [], ◌∷◌, take, drop, nat_le, Option, Some, None, is_some, ap, inl, inr, refl, subst, arith}
use Rattle.std.specs.List.{position}
use Rattle.std.specs.Option.{option_and_then, option_map}
use Rattle.std.proofs.lemmas.Bool.{false≢true}
use Rattle.ow_value.specs.Decimal.{decimal_of, number_within}
use Rattle.ow_command_line.specs.Words.{Values, alone, command_named, command_of, connections_of, day_of, day_options, day_with, deploy_with, drill_by, drill_of, drill_options, drill_with, given_from, is_csv, is_day, is_deploy, is_drill, is_serve, is_usage, option_words, plain_words, port_of, serve_by, serve_options, serve_with, takes_options, usage_at, usage_by, usage_from, usage_of, usage_options, usage_with, values_of, workers_of}
use Rattle.ow_command_line.specs.declared.command.Command.{Command}
use Rattle.ow_command_line.specs.declared.command.Command.TheVariants as commands
use Rattle.ow_command_line.specs.declared.command.ServeWords.{ServeWords}
use Rattle.ow_command_line.specs.declared.command.WordsRefusal.{WordsRefusal}
use Rattle.ow_command_line.specs.declared.command.WordsRefusal.TheVariants as words
use Rattle.ow_command_line.specs.declared.status.Status.{Status}
use Rattle.ow_command_line.specs.declared.status.Status.TheVariants as statuses
use Rattle.ow_tenant.specs.Table.{Table}
use Rattle.ow_tenant.specs.declared.refusal.TenantRefusal.{TenantRefusal}
use Rattle.ow_tenant.specs.declared.refusal.TenantRefusal.TheVariants as refusals
use Rattle.ow_office.specs.declared.words.Asked.{Asked}
use Rattle.ow_office.specs.declared.words.Asked.TheVariants as asks
use Rattle.ow_office.specs.Day.{DoesDay, EndsDay}
use Rattle.ow_office.specs.Deploy.{DoesDeploy}
use Rattle.ow_office.specs.Drill.{DoesDrill}
use Rattle.ow_drill.specs.Drilled.{EndsDrill}
use Rattle.ow_office.specs.Office.{TellsCommand}
use Rattle.ow_office.specs.Serve.{PassesOn}
use Rattle.ow_office.specs.Sides.{Sides, SinkView, SourceView}
use Rattle.ow_office.specs.Table.{TellsOver, unread}
use Rattle.ow_office.specs.Texts.{Writes}
use Rattle.ow_office.specs.Usage.{WritesUsage}
use Rattle.ow_traits.specs.Telling.{Telling}
use Rattle.ow_office.specs.Words.{asked_by, asked_of, unread_words}
use Rattle.ow_office.proofs.Tables.{wanted_over}

-- a command asks for something
pub asks_none : (c : Option Command) (a : Asked) → option_map asked_of c ≡ Some a → c ≡ None → ⊥
asks_none None a is none = cc
asks_none (Some command) a is none = cc

asked_none : (c : Option Command) → c ≡ None → option_map asked_of c ≡ None
asked_none c none = rw none refl

-- ---- out of memory

wanted_day : (help version : List ℕ) (o : Option Values) (s : Sides) → TellsCommand help version (option_map asked_of (option_map day_with o)) s s statuses.NoMemory
wanted_day help version None s = (inr refl, refl)
wanted_day help version (Some value) s = wanted_over DoesDay (is_some (value (codes "table"))) s

wanted_deployment : (help version : List ℕ) (o : Option Values) (s : Sides) → TellsCommand help version (option_map asked_of (option_map deploy_with o)) s s statuses.NoMemory
wanted_deployment help version None s = (inr refl, refl)
wanted_deployment help version (Some value) s = wanted_over DoesDeploy (is_some (value (codes "table"))) s

wanted_service : (help version : List ℕ) (port workers : Option ℕ) (connections : Option (Option ℕ)) (table store : Option (List ℕ)) (s : Sides)
    → TellsCommand help version (option_map asked_of (serve_by port workers connections table store)) s s statuses.NoMemory
wanted_service help version (Some port) (Some workers) (Some connections) table store s =
    let asked : ServeWords = record { port = port; workers = workers; connections = connections; table = table; store = store } in
    wanted_over (PassesOn asked) (is_some table) s
wanted_service help version port workers connections table store s = (inr refl, refl)

wanted_serve : (help version : List ℕ) (o : Option Values) (s : Sides) → TellsCommand help version (option_map asked_of (option_and_then serve_with o)) s s statuses.NoMemory
wanted_serve help version None s = (inr refl, refl)
wanted_serve help version (Some value) s =
    wanted_service help version (port_of (value (codes "port"))) (workers_of (value (codes "workers"))) (connections_of (value (codes "connections"))) (value (codes "table")) (value (codes "store")) s

wanted_by : (help version : List ℕ) (from to : Option ℕ) (csv : Bool) (store : Option (List ℕ)) (s : Sides)
    → TellsCommand help version (option_map asked_of (usage_by from to csv store)) s s statuses.NoMemory
wanted_by help version (Some from) (Some to) csv store s = go (nat_le from to)
  where
    go : (b : Bool) → TellsCommand help version (option_map asked_of (cond b (Some (commands.Usage from to csv store)) None)) s s statuses.NoMemory
    go true = record { writes = (refl, tt); stays = record { rows = refl; old_rows = refl; commits = refl; later = omega arith }; others = refl }
    go false = (inr refl, refl)
wanted_by help version from to csv store s = (inr refl, refl)

wanted_from : (help version : List ℕ) (csv : Bool) (o : Option Values) (s : Sides) → TellsCommand help version (option_map asked_of (option_and_then (usage_with csv) o)) s s statuses.NoMemory
wanted_from help version csv None s = (inr refl, refl)
wanted_from help version csv (Some value) s = wanted_by help version (day_of (value (codes "from"))) (day_of (value (codes "to"))) csv (value (codes "store")) s

wanted_usage : (help version : List ℕ) (place : Option ℕ) (ws : List (List ℕ)) (s : Sides) → TellsCommand help version (option_map asked_of (usage_at place ws)) s s statuses.NoMemory
wanted_usage help version None ws s = wanted_from help version false (values_of usage_options ws) s
wanted_usage help version (Some place) ws s = go (is_some (given_from (take place ws) None))
  where
    go : (b : Bool) → TellsCommand help version (option_map asked_of (cond b (usage_from true (take place ws ++ drop (place + 1) ws)) None)) s s statuses.NoMemory
    go true = wanted_from help version true (values_of usage_options (take place ws ++ drop (place + 1) ws)) s
    go false = (inr refl, refl)

wanted_any : (help version : List ℕ) (ws : List (List ℕ)) (s : Sides) → TellsCommand help version (option_map asked_of (usage_of ws)) s s statuses.NoMemory
wanted_any help version ws s = go (is_some (given_from ws None))
  where
    go : (b : Bool) → TellsCommand help version (option_map asked_of (cond b (usage_from false ws) (usage_at (position is_csv ws) ws))) s s statuses.NoMemory
    go true = wanted_from help version false (values_of usage_options ws) s
    go false = wanted_usage help version (position is_csv ws) ws s

wanted_drill : (help version : List ℕ) (n seed : Option ℕ) (o : Option Values) (s : Sides) → TellsCommand help version (option_map asked_of (option_and_then (drill_with n seed) o)) s s statuses.NoMemory
wanted_drill help version n seed None s = (inr refl, refl)
wanted_drill help version None seed (Some value) s = (inr refl, refl)
wanted_drill help version (Some n) None (Some value) s = (inr refl, refl)
wanted_drill help version (Some n) (Some seed) (Some value) s = wanted_over (DoesDrill n seed) (is_some (value (codes "table"))) s

wanted_calls : (help version : List ℕ) (plain options : List (List ℕ)) (s : Sides) → TellsCommand help version (option_map asked_of (drill_by plain options)) s s statuses.NoMemory
wanted_calls help version [] options s = (inr refl, refl)
wanted_calls help version (n ∷ []) options s = (inr refl, refl)
wanted_calls help version (n ∷ seed ∷ []) options s = wanted_drill help version (number_within 0 1000000 n) (decimal_of seed) (values_of drill_options options) s
wanted_calls help version (n ∷ seed ∷ more ∷ plain) options s = (inr refl, refl)

wanted_words : (help version : List ℕ) (ws : List (List ℕ)) (s : Sides) → takes_options ws ≡ true → TellsCommand help version (asked_by ws) s s statuses.NoMemory
wanted_words help version [] s takes = absurd (false≢true takes)
wanted_words help version (word ∷ ws) s takes = go (is_day word) (is_serve word) (is_usage word) (is_drill word) (is_deploy word) takes
  where
    go : (day serve usage drill deploy : Bool) → (day || (serve || (usage || (drill || deploy)))) ≡ true
        → TellsCommand help version
        (option_map asked_of (cond day (option_map day_with (values_of day_options ws)) (cond serve (option_and_then serve_with (values_of serve_options ws)) (cond usage (usage_of ws) (cond drill (drill_of ws) (cond deploy (option_map deploy_with (values_of day_options ws)) (alone (command_named word) ws)))))))
        s s statuses.NoMemory
    go true serve usage drill deploy e = wanted_day help version (values_of day_options ws) s
    go false true usage drill deploy e = wanted_serve help version (values_of serve_options ws) s
    go false false true drill deploy e = wanted_any help version ws s
    go false false false true deploy e = wanted_calls help version (plain_words ws false) (option_words ws false) s
    go false false false false true e = wanted_deployment help version (values_of day_options ws) s
    go false false false false false e = absurd (false≢true e)

-- ---- words that aren't read

pub unread_told : (help version : List ℕ) (ws : List (List ℕ)) (s : Sides) (refusal : WordsRefusal) → (refusal ≡ words.BadWords → command_of ws ≡ None) → (refusal ≡ words.NoMemory → takes_options ws ≡ true)
    → TellsCommand help version (asked_by ws) s s (unread_words refusal)
unread_told help version ws s words.BadWords bad memory = rw (asked_none (command_of ws) (bad refl)) (inl refl, refl)
unread_told help version ws s words.NoMemory bad memory = wanted_words help version ws s (memory refl)

pub unread_bad : (refusal : WordsRefusal) → unread_words refusal ≡ statuses.BadWords → refusal ≡ words.BadWords
unread_bad words.BadWords is = refl
unread_bad words.NoMemory is = cc

pub unread_refused : (ws : List (List ℕ)) (refusal : WordsRefusal) → (refusal ≡ words.NoMemory → takes_options ws ≡ true)
    → (unread_words refusal ≡ statuses.BadWords) ⊎ ((unread_words refusal ≡ statuses.NoMemory) × (takes_options ws ≡ true))
unread_refused ws words.BadWords memory = inl refl
unread_refused ws words.NoMemory memory = inr (refl, memory refl)

-- ---- statuses that don't come

-- where the table isn't read, nothing is passed on
pub unread_not_passed : (refusal : TenantRefusal) (asked : ServeWords) (t : Table) → unread refusal ≡ statuses.Passed asked t → ⊥
unread_not_passed (refusals.BadRow row) asked t is = cc
unread_not_passed refusals.ReadFault asked t is = cc
unread_not_passed refusals.NoMemory asked t is = cc
unread_not_passed refusals.UnknownKey asked t is = cc
unread_not_passed refusals.NotGranted asked t is = cc

pub words_not_passed : (refusal : WordsRefusal) (asked : ServeWords) (t : Table) → unread_words refusal ≡ statuses.Passed asked t → ⊥
words_not_passed words.BadWords asked t is = cc
words_not_passed words.NoMemory asked t is = cc

pub text_not_passed : (text : List ℕ) (old new : SinkView) (status : Status) → Writes text old new status → (asked : ServeWords) (t : Table) → status ≡ statuses.Passed asked t → ⊥
text_not_passed text old new status wrote asked t is = absurd (subst (λ s. Writes text old new s) is wrote)

pub day_not_passed : (status : Status) → EndsDay status → (asked : ServeWords) (t : Table) → status ≡ statuses.Passed asked t → ⊥
day_not_passed status ends asked t is = subst EndsDay is ends

pub day_not_bad : (status : Status) → EndsDay status → status ≡ statuses.BadWords → ⊥
day_not_bad status ends is = subst EndsDay is ends

-- words that ask for a service give the command of that service
pub command_is : (c : Option Command) (asked : ServeWords) → option_map asked_of c ≡ Some (asks.Serve asked) → c ≡ Some (commands.Serve asked)
command_is None asked is = cc
command_is (Some (commands.Day table store)) asked is = cc
command_is (Some (commands.Serve served)) asked is = let same : served ≡ asked = cc in ap (λ w. Some (commands.Serve w)) same
command_is (Some (commands.Usage from to csv store)) asked is = cc
command_is (Some (commands.Drill n seed table store)) asked is = cc
command_is (Some (commands.Deploy table store)) asked is = cc
command_is (Some commands.Help) asked is = cc
command_is (Some commands.Version) asked is = cc

-- usage passes nothing on, and its words are read
pub usage_not_passed : (from to : ℕ) (csv : Bool) (before after : Telling) (old new : SinkView) (status : Status) → WritesUsage from to csv before after old new status
    → (asked : ServeWords) (t : Table) → status ≡ statuses.Passed asked t → ⊥
usage_not_passed from to csv before after old new status wrote asked t is = (subst (λ s. WritesUsage from to csv before after old new s) is wrote).1

pub usage_not_bad : (from to : ℕ) (csv : Bool) (before after : Telling) (old new : SinkView) (status : Status) → WritesUsage from to csv before after old new status
    → status ≡ statuses.BadWords → ⊥
usage_not_bad from to csv before after old new status wrote is = (subst (λ s. WritesUsage from to csv before after old new s) is wrote).1

pub usage_not_read : (from to : ℕ) (csv : Bool) (before after : Telling) (old new : SinkView) (status : Status) → WritesUsage from to csv before after old new status
    → status ≡ statuses.ReadFault → ⊥
usage_not_read from to csv before after old new status wrote is = (subst (λ s. WritesUsage from to csv before after old new s) is wrote).1

pub usage_not_table : (from to : ℕ) (csv : Bool) (before after : Telling) (old new : SinkView) (status : Status) → WritesUsage from to csv before after old new status
    → (row : ℕ) → status ≡ statuses.BadTable row → ⊥
usage_not_table from to csv before after old new status wrote row is = (subst (λ s. WritesUsage from to csv before after old new s) is wrote).1

-- a drill reads words and a table that are good
pub drill_ends : (status : Status) → EndsDrill status → EndsDay status × (status ≡ statuses.ReadFault → ⊥) × ((row : ℕ) → status ≡ statuses.BadTable row → ⊥)
drill_ends statuses.Ok ends = (tt, λ e. cc, λ row e. cc)
drill_ends (statuses.BadDay statement) never = absurd never
drill_ends statuses.BadWords never = absurd never
drill_ends statuses.ReadFault never = absurd never
drill_ends statuses.WriteFault ends = (tt, λ e. cc, λ row e. cc)
drill_ends statuses.StoreFault ends = (tt, λ e. cc, λ row e. cc)
drill_ends (statuses.BadTable row) never = absurd never
drill_ends statuses.NoMemory ends = (tt, λ e. cc, λ row e. cc)
drill_ends statuses.DayTooLong never = absurd never
drill_ends (statuses.BadKept key) ends = (tt, λ e. cc, λ row e. cc)
drill_ends (statuses.BadManifest number text) never = absurd never
drill_ends (statuses.Undeployed place number text) never = absurd never
drill_ends (statuses.Passed words tenants) never = absurd never

-- a service that is passed on, or whose table isn't read, has read words and writes nothing
neither : ⊥ ⊎ ⊥ → ⊥
neither (inl x) = x
neither (inr x) = x

pub serve_not_bad : (asked : ServeWords) (want : Result Table ℕ) (before after : Sides) (status : Status) → TellsOver (PassesOn asked) want before after status → status ≡ statuses.BadWords → ⊥
serve_not_bad asked (Ok t) before after status told is = neither (subst (λ s. TellsOver (PassesOn asked) (Ok t) before after s) is told)
serve_not_bad asked (Err row) before after status told is = subst (λ s. TellsOver (PassesOn asked) (Err row) before after s) is told

pub serve_not_write : (asked : ServeWords) (want : Result Table ℕ) (before after : Sides) (status : Status) → TellsOver (PassesOn asked) want before after status → status ≡ statuses.WriteFault → ⊥
serve_not_write asked (Ok t) before after status told is = neither (subst (λ s. TellsOver (PassesOn asked) (Ok t) before after s) is told)
serve_not_write asked (Err row) before after status told is = subst (λ s. TellsOver (PassesOn asked) (Err row) before after s) is told

-- claims that hold whatever the other sides are
pub no_source : SourceView
no_source = record { left = None; faults = 0 }

pub no_sink : SinkView
no_sink = record { taken = None; faults = 0 }

pub no_store : Telling
no_store = record { rows = None; old_rows = None; faults = 0; commits = None }
