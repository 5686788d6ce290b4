-- Words that are in the command set, and words that aren't.
use Rattle.std.specs.Prelude.{◌≡◌, ◌&&◌, ℕ, List, [], ◌∷◌, ◌++◌, Option, Some, None, codes, false, if◌then◌else◌, nat_le, option_map}
use Rattle.ow_command_line.specs.declared.command.Command.{Command}
use Rattle.ow_command_line.specs.declared.command.Command.TheVariants.{Day, Serve, Drill, Deploy, Help, Version}
use Rattle.ow_command_line.specs.Words.{Given, command_of, given_from, option_words, plain_words, values_in}

abbrev day : List ℕ
day = codes "day"

abbrev table : List ℕ
table = codes "--table"

abbrev store : List ℕ
store = codes "--store"

-- an option and its value in one word
abbrev joined : (option value : List ℕ) → List ℕ
joined option value = option ++ (61 ∷ value)

-- a day with a table, with a store, or with both, in both orders and both forms
pub record TakesDays (f g : List ℕ) : Type 0 where
  pub alone : command_of (day ∷ []) ≡ Some (Day None None)
  pub table_apart : command_of (day ∷ table ∷ f ∷ []) ≡ Some (Day (Some f) None)
  pub table_joined : command_of (day ∷ joined table f ∷ []) ≡ Some (Day (Some f) None)
  pub store_apart : command_of (day ∷ store ∷ g ∷ []) ≡ Some (Day None (Some g))
  pub store_joined : command_of (day ∷ joined store g ∷ []) ≡ Some (Day None (Some g))
  pub both_apart : command_of (day ∷ table ∷ f ∷ store ∷ g ∷ []) ≡ Some (Day (Some f) (Some g))
  pub both_joined : command_of (day ∷ joined table f ∷ joined store g ∷ []) ≡ Some (Day (Some f) (Some g))
  pub apart_joined : command_of (day ∷ table ∷ f ∷ joined store g ∷ []) ≡ Some (Day (Some f) (Some g))
  pub joined_apart : command_of (day ∷ joined table f ∷ store ∷ g ∷ []) ≡ Some (Day (Some f) (Some g))
  pub turned_apart : command_of (day ∷ store ∷ g ∷ table ∷ f ∷ []) ≡ Some (Day (Some f) (Some g))
  pub turned_joined : command_of (day ∷ joined store g ∷ joined table f ∷ []) ≡ Some (Day (Some f) (Some g))
  pub turned_apart_joined : command_of (day ∷ store ∷ g ∷ joined table f ∷ []) ≡ Some (Day (Some f) (Some g))
  pub turned_joined_apart : command_of (day ∷ joined store g ∷ table ∷ f ∷ []) ≡ Some (Day (Some f) (Some g))

-- each option occurs once
pub record RefusesAgain (f g : List ℕ) : Type 0 where
  pub in_two_words : command_of (day ∷ table ∷ f ∷ table ∷ g ∷ []) ≡ None
  pub in_one_word : command_of (day ∷ joined table f ∷ joined table g ∷ []) ≡ None
  pub in_both_forms : command_of (day ∷ store ∷ f ∷ joined store g ∷ []) ≡ None

-- the words give the same options, except for the order of two neighbours
pub record TurnsTwo (words turned : List (List ℕ)) : Type 0 where
  pub before : List Given
  pub first : Given
  pub second : Given
  pub behind : List Given
  pub in_order : given_from words None ≡ Some (before ++ first ∷ second ∷ behind)
  pub in_turn : given_from turned None ≡ Some (before ++ second ∷ first ∷ behind)

-- ---- services

abbrev pub serve : List ℕ
serve = codes "serve"

abbrev pub port : List ℕ
port = codes "--port"

abbrev pub workers : List ℕ
workers = codes "--workers"

abbrev pub connections : List ℕ
connections = codes "--connections"

-- a service with these numbers and files
abbrev pub service : (port workers : ℕ) → Option ℕ → (table store : Option (List ℕ)) → Option Command
service port workers connections table store = Some (Serve (record {
  port = port;
  workers = workers;
  connections = connections;
  table = table;
  store = store;
}))

-- a service has a port, and perhaps workers, connections, a table and a store. The words p, w and n are these numbers
pub record TakesServices (p w n f g : List ℕ) (at many most : ℕ) : Type 0 where
  pub port_apart : command_of (serve ∷ port ∷ p ∷ []) ≡ service at 4 None None None
  pub port_joined : command_of (serve ∷ joined port p ∷ []) ≡ service at 4 None None None
  pub workers_behind : command_of (serve ∷ port ∷ p ∷ joined workers w ∷ []) ≡ service at many None None None
  pub workers_before : command_of (serve ∷ workers ∷ w ∷ port ∷ p ∷ []) ≡ service at many None None None
  pub connections_behind : command_of (serve ∷ port ∷ p ∷ connections ∷ n ∷ []) ≡ service at 4 (Some most) None None
  pub connections_before : command_of (serve ∷ joined connections n ∷ port ∷ p ∷ []) ≡ service at 4 (Some most) None None
  pub files : command_of (serve ∷ table ∷ f ∷ port ∷ p ∷ store ∷ g ∷ []) ≡ service at 4 None (Some f) (Some g)
  pub all_apart : command_of (serve ∷ port ∷ p ∷ workers ∷ w ∷ connections ∷ n ∷ table ∷ f ∷ store ∷ g ∷ []) ≡ service at many (Some most) (Some f) (Some g)
  pub all_joined : command_of (serve ∷ joined store g ∷ joined table f ∷ joined connections n ∷ joined workers w ∷ joined port p ∷ [])
      ≡ service at many (Some most) (Some f) (Some g)

-- n workers are taken exactly where they are 1 to 64
abbrev pub BoundsWorkers : (p w : List ℕ) (at n : ℕ) → Type 0
BoundsWorkers p w at n =
    command_of (serve ∷ port ∷ p ∷ workers ∷ w ∷ []) ≡ (if nat_le 1 n && nat_le n 64 then service at n None None None else None)

-- words that give no port ask for no service
abbrev pub NeedsPort : List (List ℕ) → Type 0
NeedsPort words = (given : List Given) → given_from words None ≡ Some given → values_in given (codes "port") ≡ None → command_of (serve ∷ words) ≡ None

-- the greatest and the least numbers that a service takes
pub record TakesNumbers : Type 0 where
  pub least : command_of (serve ∷ codes "--port=0" ∷ codes "--workers=1" ∷ codes "--connections=0" ∷ []) ≡ service 0 1 (Some 0) None None
  pub greatest : command_of (serve ∷ codes "--port=65535" ∷ codes "--workers=64" ∷ codes "--connections=18446744073709551615" ∷ [])
      ≡ service 65535 64 (Some 18446744073709551615) None None

-- what asks for no service
pub record RefusesServices : Type 0 where
  pub alone : command_of (serve ∷ []) ≡ None
  pub portless : command_of (serve ∷ codes "--workers=4" ∷ []) ≡ None
  pub no_worker : command_of (serve ∷ codes "--port=80" ∷ codes "--workers=0" ∷ []) ≡ None
  pub more_workers : command_of (serve ∷ codes "--port=80" ∷ codes "--workers=65" ∷ []) ≡ None
  pub past_ports : command_of (serve ∷ codes "--port=65536" ∷ []) ≡ None
  pub past_connections : command_of (serve ∷ codes "--port=80" ∷ codes "--connections=18446744073709551616" ∷ []) ≡ None
  pub zero_in_front : command_of (serve ∷ codes "--port=080" ∷ []) ≡ None
  pub signed : command_of (serve ∷ codes "--port=+80" ∷ []) ≡ None
  pub no_number : command_of (serve ∷ codes "--port=http" ∷ []) ≡ None
  pub empty_number : command_of (serve ∷ codes "--port=80" ∷ codes "--connections=" ∷ []) ≡ None
  pub port_twice : command_of (serve ∷ codes "--port=80" ∷ codes "--port=80" ∷ []) ≡ None
  pub port_of_day : command_of (day ∷ codes "--port" ∷ codes "1" ∷ []) ≡ None
  pub unknown : command_of (serve ∷ codes "--port=80" ∷ codes "--seed=1" ∷ []) ≡ None

-- ---- drills

abbrev pub drill : List ℕ
drill = codes "drill"

-- a drill of k calls by the number x, which the words n and s are, with a table, a store, or both, anywhere around the numbers
pub record TakesDrills (n s f g : List ℕ) (k x : ℕ) : Type 0 where
  pub alone : command_of (drill ∷ n ∷ s ∷ []) ≡ Some (Drill k x None None)
  pub table_before : command_of (drill ∷ table ∷ f ∷ n ∷ s ∷ []) ≡ Some (Drill k x (Some f) None)
  pub table_between : command_of (drill ∷ n ∷ table ∷ f ∷ s ∷ []) ≡ Some (Drill k x (Some f) None)
  pub table_after : command_of (drill ∷ n ∷ s ∷ table ∷ f ∷ []) ≡ Some (Drill k x (Some f) None)
  pub joined_before : command_of (drill ∷ joined store g ∷ n ∷ s ∷ []) ≡ Some (Drill k x None (Some g))
  pub joined_between : command_of (drill ∷ n ∷ joined store g ∷ s ∷ []) ≡ Some (Drill k x None (Some g))
  pub both_after : command_of (drill ∷ n ∷ s ∷ table ∷ f ∷ store ∷ g ∷ []) ≡ Some (Drill k x (Some f) (Some g))
  pub both_around : command_of (drill ∷ store ∷ g ∷ n ∷ joined table f ∷ s ∷ []) ≡ Some (Drill k x (Some f) (Some g))
  pub no_seed : command_of (drill ∷ n ∷ []) ≡ None
  pub three : command_of (drill ∷ n ∷ s ∷ n ∷ []) ≡ None
  pub number_as_file : command_of (drill ∷ n ∷ table ∷ s ∷ []) ≡ None
  pub table_twice : command_of (drill ∷ table ∷ f ∷ n ∷ s ∷ joined table f ∷ []) ≡ None
  pub open_table : command_of (drill ∷ n ∷ s ∷ table ∷ []) ≡ None
  pub port : command_of (drill ∷ n ∷ s ∷ codes "--port=1" ∷ []) ≡ None

-- the words have the same numbers in this order, and the same options
pub record MovesNumbers (words moved : List (List ℕ)) : Type 0 where
  pub numbers : plain_words words false ≡ plain_words moved false
  pub options : option_words words false ≡ option_words moved false

-- the same, except for the order of two options that are neighbours, whatever numbers are between them
pub record TurnsOptions (words turned : List (List ℕ)) : Type 0 where
  pub numbers : plain_words words false ≡ plain_words turned false
  pub options : TurnsTwo (option_words words false) (option_words turned false)

-- the greatest numbers that a drill takes, and the least
pub record TakesCounts : Type 0 where
  pub least : command_of (drill ∷ codes "0" ∷ codes "0" ∷ []) ≡ Some (Drill 0 0 None None)
  pub greatest : command_of (drill ∷ codes "1000000" ∷ codes "18446744073709551615" ∷ []) ≡ Some (Drill 1000000 18446744073709551615 None None)

-- what asks for no drill
pub record RefusesDrills : Type 0 where
  pub numberless : command_of (drill ∷ []) ≡ None
  pub past_calls : command_of (drill ∷ codes "1000001" ∷ codes "1" ∷ []) ≡ None
  pub past_seeds : command_of (drill ∷ codes "1" ∷ codes "18446744073709551616" ∷ []) ≡ None
  pub zero_in_calls : command_of (drill ∷ codes "01" ∷ codes "1" ∷ []) ≡ None
  pub zero_in_seed : command_of (drill ∷ codes "1" ∷ codes "01" ∷ []) ≡ None
  pub signed : command_of (drill ∷ codes "+1" ∷ codes "1" ∷ []) ≡ None
  pub negative : command_of (drill ∷ codes "-1" ∷ codes "1" ∷ []) ≡ None
  pub empty : command_of (drill ∷ [] ∷ codes "1" ∷ []) ≡ None
  pub dashes : command_of (drill ∷ codes "1" ∷ codes "--" ∷ codes "1" ∷ []) ≡ None
  pub unknown : command_of (drill ∷ codes "1" ∷ codes "1" ∷ codes "--workers=1" ∷ []) ≡ None

-- ---- deployments

abbrev pub deploy : List ℕ
deploy = codes "deploy"

-- what asks for a day with some files asks for a deployment with them
abbrev pub as_deployment : Command → Command
as_deployment (Day table store) = Deploy table store
as_deployment other = other

-- `deploy` takes the words that `day` takes
abbrev pub TakesWordsOfDays : List (List ℕ) → Type 0
TakesWordsOfDays words = command_of (deploy ∷ words) ≡ option_map as_deployment (command_of (day ∷ words))

-- a deployment with a table, a store, or both
pub record TakesDeployments (f g : List ℕ) : Type 0 where
  pub alone : command_of (deploy ∷ []) ≡ Some (Deploy None None)
  pub table_apart : command_of (deploy ∷ table ∷ f ∷ []) ≡ Some (Deploy (Some f) None)
  pub store_joined : command_of (deploy ∷ joined store g ∷ []) ≡ Some (Deploy None (Some g))
  pub both_apart : command_of (deploy ∷ table ∷ f ∷ store ∷ g ∷ []) ≡ Some (Deploy (Some f) (Some g))
  pub turned_joined : command_of (deploy ∷ joined store g ∷ joined table f ∷ []) ≡ Some (Deploy (Some f) (Some g))
  pub table_twice : command_of (deploy ∷ table ∷ f ∷ joined table g ∷ []) ≡ None
  pub file : command_of (deploy ∷ f ∷ []) ≡ None

-- ---- other words

-- words that ask for nothing
pub record RefusesWords : Type 0 where
  pub none : command_of [] ≡ None
  pub empty : command_of ([] ∷ []) ≡ None
  pub unknown : command_of (codes "days" ∷ []) ≡ None
  pub help_with_more : command_of (codes "--help" ∷ codes "day" ∷ []) ≡ None
  pub no_value : command_of (day ∷ table ∷ []) ≡ None
  pub empty_value : command_of (day ∷ codes "--table=" ∷ []) ≡ None
  pub empty_word : command_of (day ∷ table ∷ [] ∷ []) ≡ None
  pub dash_value : command_of (day ∷ table ∷ codes "-x" ∷ []) ≡ None
  pub dash_joined : command_of (day ∷ codes "--table=-x" ∷ []) ≡ None
  pub dashes : command_of (day ∷ codes "--" ∷ []) ≡ None
  pub dashes_behind : command_of (day ∷ table ∷ codes "f" ∷ codes "--" ∷ []) ≡ None
  pub twice : command_of (day ∷ day ∷ []) ≡ None
  pub help_of_day : command_of (day ∷ codes "--help" ∷ []) ≡ None
  pub short : command_of (day ∷ codes "-t" ∷ codes "f" ∷ []) ≡ None
  pub front : command_of (day ∷ codes "--tab" ∷ codes "f" ∷ []) ≡ None

pub record TakesWords : Type 0 where
  pub help : command_of (codes "--help" ∷ []) ≡ Some Help
  pub version : command_of (codes "--version" ∷ []) ≡ Some Version
