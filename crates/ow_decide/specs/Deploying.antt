-- A deployment of the office: drafts are put in their order, all or none.
use Rattle.std.specs.Prelude.{◌+◌, ◌++◌, ℕ, true, List, [], ◌∷◌, not, if◌then◌else◌, Option, Some, None, Result, Ok, Err}
use Rattle.std.specs.List.{flat_map}
use Rattle.ow_entity.specs.Finish.{finished_row}
use Rattle.ow_entity.specs.Row.{draft_name}
use Rattle.ow_entity.specs.declared.rows.Draft.{Draft}
use Rattle.ow_entity.specs.declared.rows.Row.{Row}
use Rattle.ow_tables.specs.Contents.{Change}
use Rattle.ow_tables.specs.Refusal.{old_row, put_refusal}
use Rattle.ow_tables.specs.Rows.{with_row}
use Rattle.ow_row_text.specs.Unchanged.{is_unchanged}
use Rattle.ow_commits.specs.Commits.{row_changes}
use Rattle.ow_http.specs.Steps.{◌>>=◌}
use Rattle.ow_http.specs.declared.reason.Reason.{Reason}
use Rattle.ow_tenant.specs.Table.{Table}
use Rattle.ow_tenant.specs.Tenants.{is_listed}
use Rattle.ow_reads.specs.Reasons.{not_granted}
use Rattle.ow_reads.specs.Steps.{unless}
use Rattle.ow_decide.specs.Asking.{or_table_reason, put_of, unless_refused}
use Rattle.ow_decide.specs.Decision.{Decision, Same, tells}
use Rattle.ow_decide.specs.Sight.{Sight, room_for, store_room}
use Rattle.ow_decide.specs.declared.events.Told.TheVariants as told
use Rattle.ow_decide.specs.declared.replies.Deployed.TheVariants as deployments
use Rattle.ow_decide.specs.declared.waits.Waits.TheVariants.{Keep}

-- ---- the drafts, one after another

-- after some of the drafts: the rows; the changes that made them, the earliest first; how many drafts had no row, how many replaced one, and how
-- many were left out
pub record Progress : Type 0 where
  pub rows : List Row
  pub changes : List Change
  pub made : ℕ
  pub changed : ℕ
  pub same : ℕ

-- before the first draft
abbrev pub begun : List Row → Progress
begun rs = record { rows = rs; changes = []; made = 0; changed = 0; same = 0 }

-- a row is put
abbrev pub with_put : Row → Progress → Progress
with_put row p = record p { rows = with_row row p.rows; changes = p.changes ++ put_of row ∷ [] }

-- the row of a draft is put over the old row of its kind and name, if there is one. It is left out where it differs from that in its version alone
abbrev pub put_over : Option Row → Row → Progress → Progress
put_over None row p = record (with_put row p) { made = p.made + 1 }
put_over (Some old) row p = if is_unchanged old row then record p { same = p.same + 1 } else record (with_put row p) { changed = p.changed + 1 }

-- the row that a draft makes, where the office table lists its namespace, and the put, which may overwrite, is not refused
abbrev pub drafted_row : Table → List Row → Draft → Result Row Reason
drafted_row t rs d = do
  listed ← unless (not (is_listed (draft_name d).namespace t)) not_granted
  free ← unless_refused (put_refusal d true rs)
  or_table_reason (finished_row d (old_row d rs))

-- a refusal, and the place of the draft that is refused. The deployment as a whole has place 0
abbrev pub Refusal : Type 0
Refusal = ℕ × Reason

abbrev pub at_place : {X : Type 0} → ℕ → Result X Reason → Result X Refusal
at_place place (Ok x) = Ok x
at_place place (Err reason) = Err (place, reason)

-- after these drafts, of which the first has this place
abbrev pub put_drafts : Table → ℕ → List Draft → Progress → Result Progress Refusal
put_drafts t place [] p = Ok p
put_drafts t place (d ∷ ds) p = do
  row ← at_place place (drafted_row t p.rows d)
  put_drafts t (place + 1) ds (put_over (old_row d p.rows) row p)

-- ---- the whole

-- where the store has room for all that is kept then
abbrev pub stored : Sight → Progress → Result Progress Refusal
stored S p = do
  room ← at_place 0 (store_room S (flat_map row_changes p.changes))
  Ok p

-- the drafts are put over the rows
abbrev pub all_put : Sight → List Draft → Result Progress Refusal
all_put S ds = do
  p ← put_drafts S.tenants 1 ds (begun S.rows)
  stored S p

-- the refusals are tested in this order: the book, then each draft, then the store
abbrev pub deployed : Sight → List Draft → Result Progress Refusal
deployed S ds = do
  room ← at_place 0 (room_for S 0)
  all_put S ds

-- all that was put is stored at once; a refused deployment changes nothing
abbrev pub deploy_decision : Result Progress Refusal → Decision
deploy_decision (Ok p) = record { told = told.Deployed (deployments.Done p.made p.changed p.same); items = []; changes = p.changes; waits = Keep; others = Same }
deploy_decision (Err refusal) = tells (told.Deployed (deployments.Refused refusal.0 refusal.1))
