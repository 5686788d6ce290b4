-- The drill: calls whose moments are made from a number, each followed by a turn where it is accepted, over the machine of a day.
use Rattle.std.specs.Prelude.{◌≡◌, ◌+◌, ◌*◌, ◌/◌, ◌%◌, ◌^◌, ◌++◌, ℕ, zero, suc, Bool, true, false, List, codes}
use Rattle.std.specs.Fmt.{decimal}
use Rattle.std.specs.List.{count_by, sum_by}
use Rattle.ow_floor.specs.declared.answers.Happening.{Happening}
use Rattle.ow_floor.specs.declared.answers.Happening.TheVariants.{Accepted, Recorded}
use Rattle.ow_decide.specs.declared.replies.Called.{Called as Reply}
use Rattle.ow_decide.specs.declared.replies.Called.TheVariants as replies
use Rattle.ow_invoker.specs.declared.turn.TurnStep.{TurnStep}
use Rattle.ow_invoker.specs.declared.turn.TurnStep.TheVariants as steps
use Rattle.ow_day.specs.declared.statement_outcome.StatementOutcome.{StatementOutcome}
use Rattle.ow_day.specs.declared.statement_outcome.StatementOutcome.TheVariants.{Called, Silent, Turned}
use Rattle.ow_day.specs.Machine.{Machine, Does}
use Rattle.ow_day.specs.Statement.{Statement, At, Call, Drain, Turn}
use Rattle.ow_drill.specs.declared.tally.Tally.{Tally}

-- ---- the calls

-- the number after another: a linear congruential generator of 64 bits
abbrev pub next_number : ℕ → ℕ
next_number x = (x * 6364136223846793005 + 1442695040888963407) % 2 ^ 64

-- the number of the kth call, counted from 1
unfoldable pub number_of : (seed k : ℕ) → ℕ
number_of seed zero = seed
number_of seed (suc k) = next_number (number_of seed k)

-- how much later a call with this number is than the one before, in milliseconds
abbrev pub gap : ℕ → ℕ
gap x = x / 2 ^ 33 % 1000

-- the moment of the kth call
unfoldable pub moment_of : (seed k : ℕ) → ℕ
moment_of seed zero = 0
moment_of seed (suc k) = moment_of seed k + gap (number_of seed (suc k))

-- its parameters
abbrev pub call_text : ℕ → List ℕ
call_text k = codes "{\"k\":" ++ (decimal k ++ codes "}")

-- the kth call, as a statement of a day
abbrev pub call_of : ℕ → Statement
call_of k = Call (codes "/whisk.system/utils/echo") (call_text k)

-- ---- what is counted

abbrev pub has_happened : Reply → Bool
has_happened (replies.Happened happened) = true
has_happened (replies.Refused reason) = false

-- a call of which this comes was accepted
abbrev pub is_accepted : StatementOutcome → Bool
is_accepted (Called reply) = has_happened reply
is_accepted other = false

abbrev pub is_recorded : Happening → Bool
is_recorded (Accepted id) = false
is_recorded (Recorded id code) = true

abbrev pub recorded_in : TurnStep → ℕ
recorded_in (steps.Happened happened) = count_by is_recorded happened
recorded_in other = 0

-- how many activations a turn of which this comes recorded: each is one line `recorded`
abbrev pub recorded_of : StatementOutcome → ℕ
recorded_of (Turned turned) = sum_by recorded_in turned.steps
recorded_of other = 0

-- of no call, and of one that was refused
abbrev pub none : Tally
none = record { accepted = 0; refused = 0; recorded = 0 }

abbrev pub one_refused : Tally
one_refused = record { accepted = 0; refused = 1; recorded = 0 }

-- of a call that was accepted, with this many recordings by its turn
abbrev pub one_accepted : ℕ → Tally
one_accepted recorded = record { accepted = 1; refused = 0; recorded = recorded }

abbrev pub both : Tally → Tally → Tally
both a b = record { accepted = a.accepted + b.accepted; refused = a.refused + b.refused; recorded = a.recorded + b.recorded }

-- ---- what is done

-- what follows a call: a turn where it was accepted, and nothing where it was refused. This is counted, and the store failed at so
-- many of these statements
abbrev pub Follows : (accepted : Bool) → Machine → Tally → ℕ → Machine → Type 0
Follows true M tally failed N = (outcome : StatementOutcome) × Does M Turn failed outcome N × (tally ≡ one_accepted (recorded_of outcome))
Follows false M tally failed N = (tally ≡ one_refused) × (failed ≡ 0) × (N ≡ M)

-- the kth call at a moment, and what follows it
pub record Calls (k moment : ℕ) (M : Machine) (tally : Tally) (failed : ℕ) (N : Machine) : Type 0 where
  pub ready : Machine
  pub at : Does M (At moment) 0 Silent ready
  pub called : Machine
  pub outcome : StatementOutcome
  pub here : ℕ
  pub call : Does ready (call_of k) here outcome called
  pub later : ℕ
  pub follows : Follows (is_accepted outcome) called tally later N
  pub sum : failed ≡ here + later

-- the first n calls, each with what follows it
abbrev pub Drills : (seed n : ℕ) → Machine → Tally → ℕ → Machine → Type 0
Drills seed zero M tally failed N = (tally ≡ none) × (failed ≡ 0) × (N ≡ M)
Drills seed (suc k) M tally failed N = (K : Machine) × (before : Tally) × (now : Tally) × (earlier : ℕ) × (here : ℕ)
    × Drills seed k M before earlier K × Calls (suc k) (moment_of seed (suc k)) K now here N × (tally ≡ both before now) × (failed ≡ earlier + here)

-- a whole drill: its n calls, and then a drain
pub record IsMade (n seed : ℕ) (M : Machine) (tally : Tally) (failed : ℕ) (N : Machine) : Type 0 where
  pub called : Machine
  pub earlier : ℕ
  pub drills : Drills seed n M tally earlier called
  pub outcome : StatementOutcome
  pub here : ℕ
  pub drains : Does called Drain here outcome N
  pub sum : failed ≡ earlier + here

-- the line that is written
abbrev pub drill_text : (n seed : ℕ) → Tally → List ℕ
drill_text n seed t =
    codes "drill " ++ (decimal n
    ++ (codes " " ++ (decimal seed
    ++ (codes " accepted " ++ (decimal t.accepted
    ++ (codes " refused " ++ (decimal t.refused
    ++ (codes " recorded " ++ (decimal t.recorded
    ++ codes "\n")))))))))
