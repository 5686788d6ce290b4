-- A step over what is kept of the children is the step over the children themselves.
use Rattle.std.specs.Prelude.{◌≡◌, List, length}
use Rattle.ow_value.specs.Value.{Pairs}
use Rattle.ow_names.specs.declared.full.FullName.{FullName}
use Rattle.ow_records.specs.declared.frames.Frame.{Frame}
use Rattle.ow_records.specs.declared.frames.Heard.{Heard}
use Rattle.ow_records.specs.declared.frames.Used.{Used}
use Rattle.ow_compose.specs.Conductor.{conduct_step_of, conduct_step_over, last_run}
use Rattle.ow_compose.specs.Sequence.{seq_step_of, seq_step_over}
use Rattle.ow_compose.specs.Step.{last_of}

-- the frame has heard of these children, by their acceptance; all have ended
pub record HasHeard (f : Frame) (children : List Heard) : Type 0 where
  pub count : length f.children ≡ length children
  pub last : f.last ≡ last_of children
  pub conducted : f.conducted ≡ last_run children

abbrev pub SequenceFramesAgree : Type 0
SequenceFramesAgree = (components : List FullName) (params : Pairs) (f : Frame) (children : List Heard) → HasHeard f children
    → seq_step_of components params f ≡ seq_step_over components params children

abbrev pub ConductorFramesAgree : Type 0
ConductorFramesAgree = (own params : Pairs) (used : Used) (f : Frame) (children : List Heard) → HasHeard f children
    → conduct_step_of own params used f ≡ conduct_step_over own params used children
