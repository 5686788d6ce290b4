-- The office's own fires of triggers, in its name. A note is kept with each that isn't refused.
use Rattle.std.specs.Prelude.{◌+◌, ◌++◌, ◌==◌, ◌≡◌, ℕ, nat_lt, List, [], ◌∷◌, if◌then◌else◌, Option, Some, None, Result, Ok, Err}
use Rattle.ow_value.specs.Nesting.{most_nested}
use Rattle.ow_value.specs.Value.{Pairs, depth, members_of, object}
use Rattle.ow_names.specs.declared.full.FullName.{FullName}
use Rattle.ow_entity.specs.declared.rules.Rule.{Rule}
use Rattle.ow_entity.specs.declared.triggers.Trigger.{Trigger}
use Rattle.ow_commits.specs.Keeping.{StandsFollowing}
use Rattle.ow_commits.specs.Kept.{OthersView, kept, others_bytes}
use Rattle.ow_commits.specs.Noting.{note_of, noting}
use Rattle.ow_floor.specs.Calls.{moved}
use Rattle.ow_floor.specs.Trace.{Trace}
use Rattle.ow_http.specs.Steps.{◌>>=◌}
use Rattle.ow_http.specs.declared.reason.Reason.{Reason}
use Rattle.ow_reads.specs.Steps.{unless}
use Rattle.ow_records.specs.declared.ids.Id.{Id}
use Rattle.ow_row_text.specs.Bytes.{bytes_of}
use Rattle.ow_row_text.specs.declared.item.Note.{Note}
use Rattle.ow_records.specs.declared.fires.Fire.{Fire}
use Rattle.ow_rules.specs.Fired.{fired}
use Rattle.ow_traits.specs.Changes.{changed}
use Rattle.ow_traits.specs.declared.change_list.Change.{Change as StoreChange}
use Rattle.ow_reads.specs.Tenants.{office}
use Rattle.ow_decide.specs.Decision.{Decision, KeepsNote, OtherChange, Same, items_changes, others_after, tells, with_others}
use Rattle.ow_decide.specs.Firing.{fire_plan, number_for, shot_items, trigger_for, within_fires}
use Rattle.ow_decide.specs.Reasons.{store_full, too_deep}
use Rattle.ow_decide.specs.Making.{telling}
use Rattle.ow_decide.specs.Sight.{Sight, is_store_full, room_for}
use Rattle.ow_decide.specs.declared.office_steps.Noted.{Noted}
use Rattle.ow_decide.specs.declared.step.OthersStep.{OthersStep}
use Rattle.ow_decide.specs.declared.step.OthersStep.TheVariants as others_steps
use Rattle.ow_decide.specs.declared.step.RowChange.TheVariants as rows
use Rattle.ow_decide.specs.declared.step.Step.{Step}
use Rattle.ow_decide.specs.declared.events.Told.TheVariants as told
use Rattle.ow_decide.specs.declared.replies.Fired.{Fired as FiredReply}
use Rattle.ow_decide.specs.declared.replies.Fired.TheVariants as fires
use Rattle.ow_decide.specs.declared.waits.Waits.TheVariants.{Keep}

-- ---- the note

-- what becomes of a note over the number that is kept under its key, if there is one
abbrev pub note_change_by : Note → Option ℕ → OtherChange
note_change_by n None = KeepsNote n
note_change_by n (Some value) = if value == n.value then Same else KeepsNote n

-- the note is kept in place of one with its key. Where it is kept already, nothing changes
abbrev pub note_change : OthersView → Note → OtherChange
note_change o n = note_change_by n (note_of n.key o.notes)

-- the store has room for what is kept after these changes, with the note
abbrev pub noted_room : Sight → Note → List StoreChange → Result (Unit {0}) Reason
noted_room S n changes = unless (is_store_full (others_bytes (noting n S.others) + bytes_of (changed changes (kept S.rows S.trace)))) store_full

-- ---- the fire

-- the items of a fire, and the id of its trigger's activation; where no rule is active, nothing happens
pub record Shot : Type 0 where
  pub items : Trace
  pub id : Option Id

abbrev pub quiet_shot : Shot
quiet_shot = record { items = []; id = None }

-- the outcome where no rule is active
abbrev pub office_quiet : Sight → Note → Result Shot Reason
office_quiet S n = do
  room ← noted_room S n []
  Ok quiet_shot

-- the outcome of a fire of these rules: the limit of fires is tested last
abbrev pub office_made : Sight → Note → List Rule → Fire → Result Shot Reason
office_made S n rs f = do
  room ← noted_room S n (items_changes (shot_items S f rs))
  within ← within_fires S f.namespace
  Ok (record { items = shot_items S f rs; id = Some f.id })

-- parameters nest no deeper than a body may
abbrev pub shallow_params : Pairs → Result (Unit {0}) Reason
shallow_params given = unless (nat_lt most_nested (depth (object (members_of given)))) too_deep

-- the fire in the name of the office, where the parameters aren't nested too deep
abbrev pub own_plan : Sight → FullName → ℕ → Trigger → Pairs → Result Fire Reason
own_plan S name number t given = do
  shallow ← shallow_params given
  fire_plan S office name number t given

-- the outcome for these active rules
abbrev pub office_rules : Sight → FullName → ℕ → Trigger → Pairs → Note → List Rule → Result Shot Reason
office_rules S name number t given n [] = office_quiet S n
office_rules S name number t given n (r ∷ rs) = own_plan S name number t given >>= office_made S n (r ∷ rs)

-- the outcome of a fire. Its refusals are in the order of their places: the book; the trigger, and the number of its namespace; where a rule
-- is active, how deep the parameters nest, the merged parameters and the drain; what is kept; where a rule is active, the limit of fires
abbrev pub office_shot : Sight → FullName → Pairs → Note → Result Shot Reason
office_shot S name given n = do
  room ← room_for S 0
  t ← trigger_for S name
  number ← number_for S name.namespace
  office_rules S name number t given n (fired S.rows name)

abbrev pub fired_told : Option Id → FiredReply
fired_told None = fires.Quiet
fired_told (Some id) = fires.Made id

-- what is done at a fire of the office: its note is kept, unless it is refused
abbrev pub office_decision : OthersView → Note → Result Shot Reason → Decision
office_decision o n (Ok shot) = record { told = told.Fired (fired_told shot.id); items = shot.items; changes = []; waits = Keep; others = note_change o n }
office_decision o n (Err reason) = tells (told.Fired (fires.Refused reason))

-- ---- a step, for private clauses

-- a fire that is refused
abbrev pub shot_refused : Reason → Step
shot_refused reason = telling (told.Fired (fires.Refused reason))

-- the note is to be kept, or is kept already
abbrev pub IsNoteStep : Option OthersStep → OtherChange → Type 0
IsNoteStep o (KeepsNote n) = o ≡ Some (others_steps.KeepsNote n)
IsNoteStep o change = (o ≡ None) × (change ≡ Same)

-- what was made on the floor, with all that is committed of it and of a note
pub record IsNoted (noted : Noted) (items : Trace) (n : Note) (S : Sight) : Type 0 where
  pub moves : noted.moves ≡ moved items
  pub changes : noted.commit.changes ≡ with_others (note_change S.others n) (items_changes items)
  pub bytes : noted.commit.bytes ≡ others_bytes (noting n S.others) + bytes_of (changed (items_changes items) (kept S.rows S.trace))
  pub stands : StandsFollowing noted.commit (others_after (note_change S.others n) S.others) S.rows (items ++ S.trace)
  pub others : IsNoteStep noted.others (note_change S.others n)

abbrev pub noted_step : Noted → FiredReply → Step
noted_step noted fired = record { told = told.Fired fired; change = rows.Nothing; waits = Keep; moves = noted.moves; commit = Some noted.commit; others = noted.others }
