-- What runners reply, and when they may fail.
use Rattle.std.specs.Prelude.{◌≡◌, ◌≤◌, ◌+◌, ℕ, min, Bool, true, false, List, Option, Some, None}
use Rattle.ow_value.specs.Value.{Pairs}
use Rattle.ow_traits.specs.Streams.{Rose}
use Rattle.ow_traits.specs.declared.replies.Kind.{Kind}
use Rattle.ow_traits.specs.declared.replies.RunReply.{RunReply}
use Rattle.ow_traits.specs.declared.replies.RunReply.TheVariants.{Answer, Exit, NoStart, Fault}
use Rattle.ow_traits.specs.declared.runners.Started.{Started}
use Rattle.ow_traits.specs.declared.runners.Started.TheVariants.{Up, Down}

-- which replies a runner gives to which code, of which kind, with which parameters, and of which kinds its containers come up
pub record Giving : Type 1 where
  pub replies : Kind → List ℕ → Pairs → RunReply → Type 0
  pub starts : Kind → Type 0

-- how many of a runner's calls failed, and how often it ran code
pub record Tally : Type 0 where
  pub faults : ℕ
  pub runs : ℕ

-- the counts of a new runner
abbrev pub no_calls : Tally
no_calls = record { faults = 0; runs = 0 }

-- one more, up to the greatest u64
abbrev pub counted : ℕ → ℕ
counted n = min (n + 1) 18446744073709551615

-- no code was run
abbrev pub RanNone : Tally → Tally → Type 0
RanNone before now = now.runs ≡ before.runs

-- code was run once
abbrev pub RanOnce : Tally → Tally → Type 0
RanOnce before now = now.runs ≡ counted before.runs

-- a runner gives and starts what it did before, and its count of faults doesn't fall
pub record Steady (old new : Giving) (before now : Tally) : Type 0 where
  pub back : (kind : Kind) (code : List ℕ) (params : Pairs) (reply : RunReply) → new.replies kind code params reply → old.replies kind code params reply
  pub on : (kind : Kind) (code : List ℕ) (params : Pairs) (reply : RunReply) → old.replies kind code params reply → new.replies kind code params reply
  pub starts_back : (kind : Kind) → new.starts kind → old.starts kind
  pub starts_on : (kind : Kind) → old.starts kind → new.starts kind
  pub later : before.faults ≤ now.faults

-- a call that runs no code keeps this
pub record Idles (old new : Giving) (before now : Tally) : Type 0 where
  pub steady : Steady old new before now
  pub ran : RanNone before now

-- and so does a call that runs code once
pub record Runs (old new : Giving) (before now : Tally) : Type 0 where
  pub steady : Steady old new before now
  pub ran : RanOnce before now

-- a reply to a run: one that the runner gives, or a fault, where its count rose
abbrev pub Replies : Giving → Tally → Tally → Kind → List ℕ → Pairs → RunReply → Type 0
Replies gives before now kind code params Fault = Rose before.faults now.faults
Replies gives before now kind code params reply = gives.replies kind code params reply

abbrev pub is_answer : RunReply → Bool
is_answer (Answer text logs) = true
is_answer (Exit code logs) = false
is_answer (NoStart text) = false
is_answer Fault = false

-- no answer, and one to that code whatever the parameters
abbrev pub RefusesCode : Giving → Tally → Tally → Kind → List ℕ → RunReply → Type 0
RefusesCode gives before now kind code reply = (is_answer reply ≡ false) × ((params : Pairs) → Replies gives before now kind code params reply)

-- an initialisation that succeeds, or a reply in its place, which is no answer
abbrev pub Initialises : Giving → Tally → Tally → Kind → List ℕ → Option RunReply → Type 0
Initialises gives before now kind code None = Unit {0}
Initialises gives before now kind code (Some reply) = RefusesCode gives before now kind code reply

-- a reply in place of a start: that nothing starts, to each code of that kind whatever the parameters, or a fault
abbrev pub RefusesStart : Giving → Tally → Tally → Kind → RunReply → Type 0
RefusesStart gives before now kind (NoStart text) = (code : List ℕ) (params : Pairs) → gives.replies kind code params (NoStart text)
RefusesStart gives before now kind Fault = Rose before.faults now.faults
RefusesStart gives before now kind reply = ⊥

-- a start that succeeds, of a kind whose containers come up, or a reply in its place
abbrev pub Starts : {B : Type 0} → Giving → Tally → Tally → Kind → Started B → Type 0
Starts gives before now kind (Up container) = gives.starts kind
Starts gives before now kind (Down reply) = RefusesStart gives before now kind reply
