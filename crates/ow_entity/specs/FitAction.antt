-- Within which bounds the fields of actions lie.
use Rattle.ow_entity.specs.declared.bounds.TheConstants.{LEAST_TIMEOUT, MOST_TIMEOUT, LEAST_MEMORY, MOST_MEMORY, LEAST_LOGS, MOST_LOGS}
use Rattle.ow_entity.specs.declared.bounds.Limits.{Limits}
use Rattle.ow_entity.specs.declared.exec.Exec.{Exec}
use Rattle.ow_entity.specs.declared.exec.Exec.TheVariants.{Plain, Program, Sequence}
use Rattle.ow_entity.specs.declared.actions.Action.{Action}
use Rattle.ow_entity.specs.Bounds.{IsBetween}
use Rattle.ow_entity.specs.Fit.{IsFitPairs, IsFitText, IsFitPlain, IsFitSequence}

pub record IsFitLimits (l : Limits) : Type 0 where
  pub timeout : IsBetween LEAST_TIMEOUT MOST_TIMEOUT l.timeout
  pub memory : IsBetween LEAST_MEMORY MOST_MEMORY l.memory
  pub logs : IsBetween LEAST_LOGS MOST_LOGS l.logs

abbrev pub IsFitExec : Exec → Type 0
IsFitExec (Plain code) = IsFitPlain code
IsFitExec (Program code) = IsFitText code
IsFitExec (Sequence components) = IsFitSequence components

pub record IsFitAction (a : Action) : Type 0 where
  pub params : IsFitPairs a.params
  pub notes : IsFitPairs a.notes
  pub exec : IsFitExec a.exec
  pub limits : IsFitLimits a.limits
