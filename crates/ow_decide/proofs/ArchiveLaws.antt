-- What becomes of the archive at an event: at a sweep due records are archived once all else is done, and nothing at any other event.
use Rattle.std.proofs.Common.{◌≡◌, ◌++◌, ℕ, Bool, true, false, if◌then◌else◌, List, [], ◌∷◌, Option, Some, None, Result, Ok, Err, append-nil, refl, sym, ap, subst}
use Rattle.std.specs.Prelude.{◌==◌}
use Rattle.ow_records.specs.declared.record.Record.{Record}
use Rattle.ow_row_text.specs.declared.item.Archive.{Archive}
use Rattle.ow_floor.specs.Calls.{archive_items, due_in, moved}
use Rattle.ow_floor.specs.declared.activations.Plan.{Plan}
use Rattle.ow_http.specs.Request.{parts_of}
use Rattle.ow_http.specs.Steps.{◌>>=◌}
use Rattle.ow_http.specs.declared.reason.Reason.{Reason}
use Rattle.ow_decide.specs.declared.events.Event.{Event}
use Rattle.ow_decide.specs.declared.events.Event.TheVariants as events
use Rattle.ow_decide.specs.declared.events.Told.TheVariants as told
use Rattle.ow_decide.specs.Asking.{Changed, Done, Invoked, Quiet, Shown, ask_decision, request_done}
use Rattle.ow_decide.specs.Asking as asking
use Rattle.ow_decide.specs.Calling.{admitted_plan, call_plan, called_decision}
use Rattle.ow_decide.specs.Decision.{Archives, Decision, KeepsNote, OtherChange, Same, TakesOver, held, held_by}
use Rattle.ow_decide.specs.Decisions.{archived_until, decide, is_opening, sweep_by, sweep_decision, sweep_with, swept_all, swept_told}
use Rattle.ow_decide.specs.Deploying.{Progress, Refusal, deploy_decision, deployed}
use Rattle.ow_decide.specs.Sight.{Sight}
use Rattle.ow_decide.proofs.MadeLaws.{AreOfSweep, swept_so}
use Rattle.ow_decide.specs.OfficeFiring.{Shot, note_change_by, office_decision, office_shot}
use Rattle.ow_decide.proofs.OfficeLaws.{office_held}
use Rattle.ow_commits.specs.Noting.{note_of}
use Rattle.ow_row_text.specs.declared.item.Note.{Note}

-- ---- what is archived

-- an archive is the newest item, after all that is held. It has the records that are due then, over what was archived before, and nothing
-- moves with it. No row changes, and what is held is of a sweep
pub record IsArchive (until : ℕ) (before : Archive) (due : List Record) (d : Decision) (S : Sight) : Type 0 where
  pub items : d.items ≡ archive_items until (held d ++ S.trace) ++ held d
  pub over : before ≡ S.others.archive
  pub of_due : due ≡ due_in until (held d ++ S.trace)
  pub moves : moved d.items ≡ moved (held d)
  pub changes : d.changes ≡ []
  pub sweeps : AreOfSweep (held d)

-- where the archive stays, all is held; nothing is taken over
abbrev pub IsArchivedWell : OtherChange → Decision → Sight → Type 0
IsArchivedWell Same d S = held d ≡ d.items
IsArchivedWell (Archives until before due) d S = IsArchive until before due d S
IsArchivedWell (KeepsNote note) d S = held d ≡ d.items
IsArchivedWell (TakesOver others) d S = ⊥

-- ---- all events but sweeps and openings

pub held_same : (d : Decision) → d.others ≡ Same → held d ≡ d.items
held_same d same = ap (λ (o : OtherChange). held_by o d.items) same

same_well : (d : Decision) (S : Sight) → d.others ≡ Same → IsArchivedWell d.others d S
same_well d S same = subst (λ (o : OtherChange). IsArchivedWell o d S) (sym same) (held_same d same)

pub asked_same : (d : Result Done Reason) → (ask_decision d).others ≡ Same
asked_same (Ok (Shown value)) = refl
asked_same (Ok (Changed change value)) = refl
asked_same (Ok (Invoked items plan shows)) = refl
asked_same (Ok Quiet) = refl
asked_same (Ok (asking.Fired items id)) = refl
asked_same (Err reason) = refl

pub called_same : (S : Sight) (p : Result Plan Reason) → (called_decision S p).others ≡ Same
called_same S (Ok plan) = refl
called_same S (Err reason) = refl

pub deployed_same : (r : Result Progress Refusal) → (deploy_decision r).others ≡ Same
deployed_same (Ok p) = refl
deployed_same (Err refusal) = refl

-- ---- the office's own fires

if_well : (S : Sight) (d : Decision) (n : Note) (b : Bool) → held d ≡ d.items → IsArchivedWell (if b then Same else KeepsNote n) d S
if_well S d n true all = all
if_well S d n false all = all

old_well : (S : Sight) (d : Decision) (n : Note) (old : Option ℕ) → held d ≡ d.items → IsArchivedWell (note_change_by n old) d S
old_well S d n None all = all
old_well S d n (Some value) all = if_well S d n (value == n.value) all

office_well : (S : Sight) (n : Note) (r : Result Shot Reason) → IsArchivedWell (office_decision S.others n r).others (office_decision S.others n r) S
office_well S n (Ok shot) = old_well S (office_decision S.others n (Ok shot)) n (note_of n.key S.others.notes) (office_held S.others n (Ok shot))
office_well S n (Err reason) = refl

-- ---- sweeps

module _ (S : Sight) where
  abbrev swept_by : Option ℕ → Decision
  swept_by o = sweep_by S (told.Swept (swept_told (swept_all S))) (swept_all S) o

  due_well : (until : ℕ) (due : List Record) → due_in until (swept_all S ++ S.trace) ≡ due
      → IsArchivedWell (sweep_with S (told.Swept (swept_told (swept_all S))) (swept_all S) until due).others (sweep_with S (told.Swept (swept_told (swept_all S))) (swept_all S) until due) S
  due_well until [] is = refl
  due_well until (r ∷ rs) is = record { items = refl; over = refl; of_due = sym is; moves = append-nil (moved (swept_all S)); changes = refl; sweeps = swept_so S }

  swept_well : (o : Option ℕ) → IsArchivedWell (swept_by o).others (swept_by o) S
  swept_well None = refl
  swept_well (Some until) = due_well until (due_in until (swept_all S ++ S.trace)) refl

  due_held : (until : ℕ) (due : List Record) → held (sweep_with S (told.Swept (swept_told (swept_all S))) (swept_all S) until due) ≡ swept_all S
  due_held until [] = refl
  due_held until (r ∷ rs) = refl

  swept_held : (o : Option ℕ) → held (swept_by o) ≡ swept_all S
  swept_held None = refl
  swept_held (Some until) = due_held until (due_in until (swept_all S ++ S.trace))

  -- all but the archive
  pub held_sweep : held (sweep_decision S) ≡ swept_all S
  held_sweep = swept_held (archived_until S.tenants.retain S.moment)

-- ---- what is decided

pub decided_archives : (S : Sight) (event : Event) → is_opening event ≡ false → IsArchivedWell (decide S event).others (decide S event) S
decided_archives S (events.Opened rows) other = cc
decided_archives S (events.Asked r) other = same_well (ask_decision (request_done S (parts_of r))) S (asked_same (request_done S (parts_of r)))
decided_archives S (events.Called name params) other =
    same_well (called_decision S (call_plan S name params >>= admitted_plan S)) S (called_same S (call_plan S name params >>= admitted_plan S))
decided_archives S (events.Fired trigger params note) other = office_well S note (office_shot S trigger params note)
decided_archives S (events.Deployed drafts) other = same_well (deploy_decision (deployed S drafts)) S (deployed_same (deployed S drafts))
decided_archives S events.Sweep other = swept_well S (archived_until S.tenants.retain S.moment)
decided_archives S event other = refl
