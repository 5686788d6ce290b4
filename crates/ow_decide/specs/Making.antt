-- A step, as the code has it: the outcome of a request, and that a step has what was decided.
use Rattle.std.specs.Prelude.{◌≡◌, ◌≤◌, ◌+◌, ◌++◌, ℕ, List, [], ◌∷◌, false, length, map, Option, Some, None, Result, Ok, Err}
use Rattle.ow_traits.specs.declared.change_list.Change.{Change as StoreChange}
use Rattle.ow_value.specs.View.{view}
use Rattle.ow_entity.specs.declared.rows.Row.{Row}
use Rattle.ow_floor.specs.Calls.{answered_by, happened_of, moved}
use Rattle.ow_floor.specs.declared.moves.Moved.{Moved}
use Rattle.ow_floor.specs.Growth.{AreRight}
use Rattle.ow_floor.specs.Laws.{IsSound, Stands}
use Rattle.ow_floor.specs.declared.activations.Plan.{Plan}
use Rattle.ow_commits.specs.Commits.{row_changes}
use Rattle.ow_commits.specs.Keeping.{AreOwn, FollowingView, KeepingView, StandsFollowing, StandsForKept}
use Rattle.ow_floor.specs.View.{Shown, last_of}
use Rattle.ow_records.specs.declared.ids.Id.{Id}
use Rattle.ow_http.specs.declared.reason.Reason.{Reason}
use Rattle.ow_tables.specs.Contents.{Change}
use Rattle.ow_tables.specs.Rows.{changed}
use Rattle.ow_decide.specs.declared.commits.Made.{Made}
use Rattle.ow_decide.specs.declared.done.Done.{Done}
use Rattle.ow_decide.specs.declared.done.Done.TheVariants as codes
use Rattle.ow_decide.specs.declared.done.Served.{Served}
use Rattle.ow_decide.specs.declared.done.Served.TheVariants as served
use Rattle.ow_decide.specs.declared.events.Told.{Told}
use Rattle.ow_decide.specs.declared.events.Told.TheVariants as told
use Rattle.ow_traits.specs.declared.replies.RunReply.{RunReply}
use Rattle.ow_decide.specs.declared.step.Now.{Now}
use Rattle.ow_decide.specs.declared.step.RowChange.{RowChange}
use Rattle.ow_decide.specs.declared.step.RowChange.TheVariants as rows
use Rattle.ow_decide.specs.declared.step.Step.{Step}
use Rattle.ow_tenant.specs.Table.{Table}
use Rattle.ow_floor.specs.Trace.{Trace, shown}
use Rattle.ow_counts.specs.declared.refusal.LimitRefusal.{LimitRefusal}
use Rattle.ow_row_text.specs.Bytes.{bytes_of}
use Rattle.ow_commits.specs.Archiving.{archive_with}
use Rattle.ow_commits.specs.Kept.{OthersView, kept, others_bytes}
use Rattle.ow_records.specs.declared.record.Record.{Record}
use Rattle.ow_decide.specs.declared.step.OthersStep.{OthersStep}
use Rattle.ow_decide.specs.declared.step.OthersStep.TheVariants as others_steps
use Rattle.ow_traits.specs.Changes.{changed as store_changed}
use Rattle.ow_counts.specs.View.{AreUpTo, CountsView, StandsFor, notes_of}
use Rattle.ow_decide.specs.declared.waits.Wait.{Wait}
use Rattle.ow_decide.specs.declared.waits.Waits.{Waits}
use Rattle.ow_decide.specs.declared.waits.Waits.TheVariants.{Keep}
use Rattle.ow_decide.specs.Asking as asking
use Rattle.ow_http.specs.Steps.{◌>>=◌}
use Rattle.ow_decide.specs.Reasons.{store_full}
use Rattle.ow_reads.specs.Steps.{unless}
use Rattle.ow_decide.specs.Calling.{admitted_plan, plan_items}
use Rattle.ow_decide.specs.Sight.{Sight, is_store_full, or_limit}
use Rattle.ow_decide.specs.Decision.{Archives, Decision, KeepsNote, Same, all_changed, commits, held, items_changes, others_after}

-- ---- the outcome of a request, in the code

-- for private clauses
abbrev pub done_of : Done → Result asking.Done Reason
done_of (codes.Refused reason) = Err reason
done_of (codes.Shown value) = Ok (asking.Shown (view value))
done_of (codes.Changed ready shown commit) = Ok (asking.Changed ready (view shown))
done_of codes.Quiet = Ok asking.Quiet

-- a plan is still to be admitted, and of a fire the rules are still to be followed, over what is seen, for private clauses
abbrev pub served_of : Sight → Served → Result asking.Done Reason
served_of S (served.Done done) = done_of done
served_of S (served.Accepts plan shows) = asking.plan_done S plan shows
served_of S (served.Fires fire rules) = asking.shot_done S fire rules

-- there is room for a change
abbrev pub HasPlace : Option Change → ℕ → Type 0
HasPlace None room = Unit {0}
HasPlace (Some change) room = change.removes ≡ false → 1 ≤ room

-- for private clauses
abbrev pub change_of : Done → Option Change
change_of (codes.Changed ready shown commit) = Some ready
change_of done = None

-- for private clauses
abbrev pub served_change : Served → Option Change
served_change (served.Done done) = change_of done
served_change (served.Accepts plan shows) = None
served_change (served.Fires fire rules) = None

-- the id of what is to be accepted or fired is the next of its namespace, for private clauses
abbrev pub IsNextOf : List Id → Served → Type 0
IsNextOf drawn (served.Done done) = Unit {0}
IsNextOf drawn (served.Accepts plan shows) = plan.id.count ≡ last_of drawn plan.id.namespace + 1
IsNextOf drawn (served.Fires fire rules) = fire.id.count ≡ last_of drawn fire.id.namespace + 1

-- ---- what is committed of it

abbrev pub changes_of : RowChange → List Change
changes_of rows.Nothing = []
changes_of (rows.One change) = change ∷ []
changes_of (rows.Puts puts) = map asking.put_of puts.items

-- a change of one row, if there is one
abbrev pub one_of : Option Change → RowChange
one_of None = rows.Nothing
one_of (Some change) = rows.One change

-- there is room for all changes
abbrev pub HasRoom : RowChange → ℕ → Type 0
HasRoom rows.Nothing room = Unit {0}
HasRoom (rows.One change) room = HasPlace (Some change) room
HasRoom (rows.Puts puts) room = length puts.items ≤ room

-- a commit makes these changes to what is kept, and what it says of the kept rows then agrees with the archive and notes, these rows and
-- this trace
pub record IsFollowingOf (commit : FollowingView) (cs : List StoreChange) (o : OthersView) (rs : List Row) (T : Trace) : Type 0 where
  pub changes : commit.changes ≡ cs
  pub stands : StandsFollowing commit o rs T

-- the commit of a change of the rows, for private clauses
abbrev pub CommitsDone : Done → Sight → Type 0
CommitsDone (codes.Changed ready shown commit) S = IsFollowingOf commit (row_changes ready) S.others (changed ready S.rows) S.trace
CommitsDone done S = Unit {0}

-- for private clauses
abbrev pub commit_of : Done → Option FollowingView
commit_of (codes.Changed ready shown commit) = Some commit
commit_of done = None

-- for private clauses
abbrev pub CommitsServed : Served → Sight → Type 0
CommitsServed (served.Done done) S = CommitsDone done S
CommitsServed (served.Accepts plan shows) S = Unit {0}
CommitsServed (served.Fires fire rules) S = Unit {0}

-- ---- a step: what is decided is done on the floor, and made ready beside it

-- the counts agree with what happened, and nothing was accepted or fired after the moment
pub record AreCounted (k : CountsView) (at : ℕ) (T : Trace) : Type 0 where
  pub stands : StandsFor k (notes_of T)
  pub up_to : AreUpTo at T

-- these items were made over what is seen; the floor has their state, and they moved these, for private clauses
pub record IsUnderway (S : Sight) (items : Trace) (t : Table) (rs : List Row) (k : CountsView) (now : Now) (v : Shown) (ms : List Moved) : Type 0 where
  pub tenants : S.tenants ≡ t
  pub rows : S.rows ≡ rs
  pub counts : AreCounted k now.at S.trace
  pub moment : S.moment ≡ now.at
  pub stands : Stands v (items ++ S.trace)
  pub up_to : AreUpTo now.at (items ++ S.trace)
  pub moves : ms ≡ moved items

-- what is seen agrees with these parts of the code's state
pub record IsSeen (S : Sight) (t : Table) (rs : List Row) (k : CountsView) (b : KeepingView) (v : Shown) (now : Now) : Type 0 where
  pub tenants : S.tenants ≡ t
  pub rows : S.rows ≡ rs
  pub counts : AreCounted k now.at S.trace
  pub keeping : StandsForKept b S.others S.rows S.trace
  pub stands : Stands v S.trace
  pub counted : S.counted ≡ now.counted
  pub moment : S.moment ≡ now.at

-- a step with an answer alone: nothing else is made ready
abbrev pub telling : Told → Step
telling t = record { told = t; change = rows.Nothing; waits = Keep; moves = []; commit = None; others = None }

-- ---- what was done on the floor

-- what was done has all that moved of these items, and all that is committed of it
pub record IsMade (made : Made) (items : Trace) (S : Sight) : Type 0 where
  pub moves : made.moves ≡ moved items
  pub changes : made.commit.changes ≡ items_changes items
  pub bytes : made.commit.bytes ≡ others_bytes S.others + bytes_of (store_changed (items_changes items) (kept S.rows S.trace))
  pub stands : StandsFollowing made.commit S.others S.rows (items ++ S.trace)

-- that many bytes may be kept, and this is what the limit says of one more, for private clauses
abbrev pub admits_made : ℕ → Result (Unit {0}) LimitRefusal → Result (Unit {0}) Reason
admits_made bytes limit = do
  room ← unless (is_store_full bytes) store_full
  or_limit limit

-- a plan was admitted, and its items were made; or it is refused, and the floor is as it was
abbrev pub IsTaken : Result Made Reason → Plan → Sight → Shown → Type 0
IsTaken (Ok made) plan S v = (admitted_plan S plan ≡ Ok plan) × (IsMade made (plan_items S plan) S × Stands v (plan_items S plan ++ S.trace))
IsTaken (Err reason) plan S v = (admitted_plan S plan ≡ Err reason) × Stands v S.trace

-- what is to be committed of what is decided. Where there is no commit, no row is changed, and nothing moved
abbrev pub IsCommit : Option FollowingView → Decision → Sight → Type 0
IsCommit None d S = (d.changes ≡ []) × (AreOwn d.items × (moved d.items ≡ []))
IsCommit (Some commit) d S = IsFollowingOf commit (commits d) (others_after d.others S.others) (all_changed d.changes S.rows) (d.items ++ S.trace)

-- what becomes of the archive and of the notes: nothing; or, where there is a commit, the due records up to a moment are archived, with the
-- archive after it, or a note is kept
abbrev pub IsOthersStep : Option FollowingView → Option OthersStep → Decision → Sight → Type 0
IsOthersStep commit None d S = d.others ≡ Same
IsOthersStep None (Some o) d S = ⊥
IsOthersStep (Some commit) (Some (others_steps.Archives until archive)) d S = (due : List Record) × (d.others ≡ Archives until S.others.archive due) × (archive ≡ archive_with S.others.archive due)
IsOthersStep (Some commit) (Some (others_steps.KeepsNote note)) d S = d.others ≡ KeepsNote note

-- a step has what was decided of what is seen, and commits it
pub record Carries (step : Step) (d : Decision) (S : Sight) : Type 0 where
  pub told : step.told ≡ d.told
  pub changes : changes_of step.change ≡ d.changes
  pub waits : step.waits ≡ d.waits
  pub moves : step.moves ≡ moved d.items
  pub commit : IsCommit step.commit d S
  pub others : IsOthersStep step.commit step.others d S

-- the step has this answer, and these moves over what is kept. Whichever items they are of, all is committed, for private clauses
pub record IsTold (step : Step) (t : Told) (w : Waits) (ms : List Moved) (b : KeepingView) : Type 0 where
  pub told : step.told ≡ t
  pub change : step.change ≡ rows.Nothing
  pub waits : step.waits ≡ w
  pub moves : step.moves ≡ ms
  pub others : step.others ≡ None
  pub commit : (S : Sight) (items : Trace) (u : Told) (x : Waits) → StandsForKept b S.others S.rows S.trace → IsSound S.trace → AreRight items (shown S.trace) → AreOwn items → ms ≡ moved items
      → IsCommit step.commit (record { told = u; items = items; changes = []; waits = x; others = Same }) S

-- the answer to a reply to a live run says what moved; any other reply is handed back, for private clauses
abbrev pub IsReplyTold : Step → ℕ → RunReply → Option (Option ℕ) → List Moved → KeepingView → Type 0
IsReplyTold step run reply None ms b = step ≡ telling (told.NoRun run reply)
IsReplyTold step run reply (Some recorded) ms b = IsTold step (told.Answered (answered_by run recorded (happened_of ms))) Keep ms b

-- over a floor and rows: a step has what is decided of what is seen, and the floor has its items, all but an archive
abbrev pub Makes : Table → List Row → CountsView → KeepingView → Now → Shown → Shown → (Sight → Decision) → Step → Type 0
Makes t rs k b now old new decided step = (S : Sight) → IsSeen S t rs k b old now → Carries step (decided S) S × Stands new (held (decided S) ++ S.trace)

-- the same with the requests that wait, with what was archived, and with the notes
abbrev pub MakesFor : List Wait → OthersView → Table → List Row → CountsView → KeepingView → Now → Shown → Shown → (Sight → Decision) → Step → Type 0
MakesFor ws o t rs k b now old new decided step = (S : Sight) → IsSeen S t rs k b old now → S.waits ≡ ws → S.others ≡ o → Carries step (decided S) S × Stands new (held (decided S) ++ S.trace)
