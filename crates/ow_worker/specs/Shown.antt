-- What the last step of a pass on a slot shows of the board.
use Rattle.std.specs.Prelude.{◌≡◌, ◌≢◌, ◌⊎◌, ◌<◌, ◌≤◌, ℕ, Option, Some, IfSome, min, ◌-◌, ◌/◌}
use Rattle.ow_slots.specs.declared.keys.Start.{Start}
use Rattle.ow_slots.specs.declared.keys.Start.TheVariants as starts
use Rattle.ow_floor.specs.declared.answers.RunOrder.{RunOrder}
use Rattle.ow_board.specs.declared.view.View.{View}
use Rattle.ow_board.specs.declared.view.LastStep.{LastStep}
use Rattle.ow_board.specs.declared.view.StepKind.TheVariants.{ClaimEmpty, Publish, ClaimFull, Release, Load}
use Rattle.ow_board.specs.Word.{held_word, full_word, IsFullOf}
use Rattle.ow_board.specs.View.{last_on}

-- ---- seconds

-- the second of a prewarmed container
abbrev pub prewarmed : ℕ
prewarmed = 4294967295

-- the second of what is put at a moment, since the opening: none is that of a prewarmed container
abbrev pub put_second : ℕ → ℕ → ℕ
put_second now opened = min ((now - opened) / 1000) 4294967294

-- it is the second of the clock's moment, where the clock reports one
abbrev pub IsSecond : Option ℕ → ℕ → ℕ → Type 0
IsSecond tells opened second = (now : ℕ) × IfSome tells (λ t. now ≡ t) × (second ≡ put_second now opened)

-- ---- steps

-- the last step on the slot is one of this call: its number is greater than this
pub record StepOfCall (slot start : ℕ) (w : View) (step : LastStep) : Type 0 where
  pub is_last : last_on slot w.last ≡ Some step
  pub of_call : start < step.number

-- a container was taken: a release left 0 in place of the held word of its generation
pub record WasTaken (slot generation start : ℕ) (w : View) : Type 0 where
  pub step : LastStep
  pub of_call : StepOfCall slot start w step
  pub kind : step.kind ≡ Release
  pub saw : step.saw ≡ held_word generation
  pub left : step.left ≡ 0

-- a container was put: a publish left the full word of its generation and this second
pub record WasPut (slot generation second start : ℕ) (w : View) : Type 0 where
  pub step : LastStep
  pub of_call : StepOfCall slot start w step
  pub kind : step.kind ≡ Publish
  pub left : step.left ≡ full_word generation second

-- a run has its container: the one that lay there was taken, unless a new one is to be started, for which the pass makes no step
abbrev pub HadBy : Start → ℕ → ℕ → View → View → Type 0
HadBy starts.Cold slot generation v w = w ≡ v
HadBy starts.Prewarmed slot generation v w = WasTaken slot generation v.steps w
HadBy starts.Warm slot generation v w = WasTaken slot generation v.steps w

abbrev pub WasHad : RunOrder → View → View → Type 0
WasHad order v w = HadBy order.start order.slot order.generation v w

-- a load saw no full word of this generation
abbrev pub SawNone : ℕ → ℕ → LastStep → Type 0
SawNone generation seen step = (step.kind ≡ Load) × ¬ IsFullOf generation seen

-- a claim of a full word of this generation failed, and the load of that word is a step of this call
abbrev pub Missed : ℕ → ℕ → ℕ → LastStep → Type 0
Missed generation seen start step = (step.kind ≡ ClaimFull)
    × ((word : ℕ) × (load : ℕ) × (step.claimed ≡ Some (word, load)) × (start < load) × IsFullOf generation word × (seen ≢ word))

-- a container isn't obtained: the step saw this word
pub record WasNotHad (slot generation seen start : ℕ) (w : View) : Type 0 where
  pub step : LastStep
  pub of_call : StepOfCall slot start w step
  pub saw : step.saw ≡ seen
  pub shows : SawNone generation seen step ⊎ Missed generation seen start step

-- a slot wasn't empty: a claim of it as empty saw another word
pub record WordTaken (slot start : ℕ) (w : View) : Type 0 where
  pub step : LastStep
  pub of_call : StepOfCall slot start w step
  pub kind : step.kind ≡ ClaimEmpty
  pub saw : step.saw ≢ 0

-- ---- for private clauses

-- the pass made more steps, or none
abbrev pub GoesOn : View → View → Type 0
GoesOn old new = old.steps ≤ new.steps
