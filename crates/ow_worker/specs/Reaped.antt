-- What a reaping did with each slot, as its last step there shows, and what it reported.
use Rattle.std.specs.Prelude.{◌≡◌, ◌≢◌, ◌⊎◌, ℕ, zero, suc, ◌+◌, ◌-◌, ◌/◌, ◌<◌, ◌≤◌, Option, Some, None, IfSome}
use Rattle.ow_board.specs.declared.view.View.{View}
use Rattle.ow_board.specs.declared.view.LastStep.{LastStep}
use Rattle.ow_board.specs.declared.view.StepKind.TheVariants.{ClaimFull, Release, Load}
use Rattle.ow_board.specs.Word.{IsFull, IsFullWord, held_word}
use Rattle.ow_board.specs.View.{last_on, KeepsOthers}
use Rattle.ow_desk.specs.Notes.{Notes}
use Rattle.ow_worker.specs.Shown.{prewarmed}
use Rattle.ow_worker.specs.Noted.{GoneNoted}

-- a container may lie on the board for this many seconds
abbrev pub most_idle : ℕ
most_idle = 600

-- nothing lies there, or what lies there is prewarmed, or lies there for less
abbrev pub IsNotDue : ℕ → ℕ → Type 0
IsNotDue elapsed word = ¬ IsFull word
    ⊎ ((generation : ℕ) × (second : ℕ) × IsFullWord generation second word × ((second ≡ prewarmed) ⊎ (elapsed < second + most_idle)))

-- a container of this generation lies there for so long, and isn't prewarmed
abbrev pub IsDue : ℕ → ℕ → ℕ → Type 0
IsDue elapsed generation word = (second : ℕ) × IsFullWord generation second word × (second ≢ prewarmed) × (second + most_idle ≤ elapsed)

module _ (elapsed start : ℕ) (step : LastStep) where
  -- a release left 0 in place of the held word; the word that was claimed was due, and its load is a step of this call
  abbrev pub Took : ℕ → Type 0
  Took generation = (step.kind ≡ Release) × (step.left ≡ 0) × (step.saw ≡ held_word generation)
      × ((word : ℕ) × (load : ℕ) × (step.claimed ≡ Some (word, load)) × (start < load) × IsDue elapsed generation word)

  -- a load saw what isn't due
  abbrev pub LeftIt : Type 0
  LeftIt = (step.kind ≡ Load) × IsNotDue elapsed step.saw

  -- a claim failed, whose load is a step of this call
  abbrev pub MissedIt : Type 0
  MissedIt = (step.kind ≡ ClaimFull) × ((word : ℕ) × (load : ℕ) × (step.claimed ≡ Some (word, load)) × (start < load) × (step.saw ≢ word))

  -- by the generation that was taken, if any
  abbrev pub Shows : Option ℕ → Type 0
  Shows (Some generation) = Took generation
  Shows None = LeftIt ⊎ MissedIt

-- the last step on the slot is one of this call, and shows that
pub record DealtWith (i elapsed start : ℕ) (taken : Option ℕ) (w : View) : Type 0 where
  pub step : LastStep
  pub is_last : last_on i w.last ≡ Some step
  pub of_call : start < step.number
  pub shows : Shows elapsed start step taken

abbrev pub one_if_some : Option ℕ → ℕ
one_if_some None = 0
one_if_some (Some generation) = 1

-- each call of the hall is at the clock's moment, where it reports one
module _ (tells : Option ℕ) where
  -- what was taken is reported as gone
  abbrev pub Reports : ℕ → Notes → Notes → Option ℕ → Type 0
  Reports i n m None = m ≡ n
  Reports i n m (Some generation) = GoneNoted tells i generation n m

  -- the first k slots, of which `count` were taken
  abbrev pub Reaped : ℕ → ℕ → Notes → ℕ → View → ℕ → Notes → Type 0
  Reaped elapsed start n zero w count m = (m ≡ n) × (count ≡ 0)
  Reaped elapsed start n (suc k) w count m = (middle : Notes) × (before : ℕ) × (taken : Option ℕ)
      × Reaped elapsed start n k w before middle × DealtWith k elapsed start taken w × Reports k middle m taken × (count ≡ before + one_if_some taken)

  -- at such a moment
  abbrev pub HasReaped : ℕ → Notes → Notes → View → View → ℕ → ℕ → Type 0
  HasReaped opened n m v w k count = (now : ℕ) × IfSome tells (λ t. now ≡ t) × Reaped ((now - opened) / 1000) v.steps n k w count m

-- of the slots from k on, the view shows what it showed before
abbrev pub KeepsBehind : ℕ → View → View → Type 0
KeepsBehind k v w = (j : ℕ) → k ≤ j → last_on j w.last ≡ last_on j v.last

-- ---- one slot, for private clauses

-- its steps
pub record Deals (i elapsed : ℕ) (taken : Option ℕ) (v w : View) : Type 0 where
  pub dealt : DealtWith i elapsed v.steps taken w
  pub others : KeepsOthers i v w
  pub later : v.steps ≤ w.steps

-- its steps, and what is reported
pub record SlotReaped (tells : Option ℕ) (i elapsed : ℕ) (n m : Notes) (v w : View) (count : ℕ) : Type 0 where
  pub taken : Option ℕ
  pub dealt : DealtWith i elapsed v.steps taken w
  pub reports : Reports tells i n m taken
  pub count_is : count ≡ one_if_some taken
  pub others : KeepsOthers i v w
  pub later : v.steps ≤ w.steps
