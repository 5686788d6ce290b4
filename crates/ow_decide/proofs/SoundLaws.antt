-- What is decided at an event may come, and keeps a trace sound.
use Rattle.std.proofs.Common.{◌++◌, refl}
use Rattle.ow_keep.specs.Judged.{judged}
use Rattle.ow_floor.specs.Growth.{AreRight}
use Rattle.ow_floor.specs.Trace.{shown}
use Rattle.ow_floor.specs.Laws.{IsSound}
use Rattle.ow_floor.proofs.Soundness.{sound_items}
use Rattle.ow_decide.specs.declared.events.Event.{Event}
use Rattle.ow_decide.specs.declared.events.Event.TheVariants as events
use Rattle.ow_decide.specs.Sight.{Sight}
use Rattle.ow_decide.specs.Decisions.{decide}
use Rattle.ow_decide.proofs.ChainLaws.{decided_steps, steps_right}
use Rattle.ow_decide.proofs.OpenLaws.{right_opened}

-- what is decided may come
pub decided_right : (S : Sight) (event : Event) → IsSound S.trace → AreRight (decide S event).items (shown S.trace)
decided_right S (events.Opened rows) sound = right_opened S.moment S.trace (judged rows)
decided_right S event sound = steps_right S (decide S event).items (decided_steps S event refl) sound

-- a trace is sound after what is decided
pub decided_sound : (S : Sight) (event : Event) → IsSound S.trace → IsSound ((decide S event).items ++ S.trace)
decided_sound S event sound = (sound_items (decide S event).items S.trace (decided_right S event sound) sound).0
