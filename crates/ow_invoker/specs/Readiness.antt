-- How a container comes up that is started, or is in hand.
use Rattle.ow_traits.specs.Runner.{Giving, RefusesCode, Tally}
use Rattle.ow_floor.specs.declared.answers.RunOrder.{RunOrder}
use Rattle.ow_invoker.specs.declared.readying.Readiness.{Readiness}
use Rattle.ow_invoker.specs.declared.readying.Readiness.TheVariants.{Early, NoMemory, NotHad, Up}

-- it is up, or its code is refused, or there was no memory
abbrev pub Initialised : {B S : Type 0} → Giving → Tally → Tally → RunOrder → Readiness B S → Type 0
Initialised gives before now order (Up living) = Unit {0}
Initialised gives before now order (Early held reply) = RefusesCode gives before now order.kind order.code reply
Initialised gives before now order (NotHad seen) = ⊥
Initialised gives before now order NoMemory = Unit {0}

-- one that is up is of a kind that the runner starts
abbrev pub UpStarts : {B S : Type 0} → Giving → RunOrder → Readiness B S → Type 0
UpStarts gives order (Up living) = gives.starts order.kind
UpStarts gives order (Early held reply) = Unit {0}
UpStarts gives order (NotHad seen) = Unit {0}
UpStarts gives order NoMemory = Unit {0}
