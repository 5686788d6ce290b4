-- What a load reads and leaves, from what its three statements did.
use Rattle.std.proofs.Common.{◌≡◌, ◌⊎◌, inl, inr, ℕ, true, false, List, [], Option, Some, None, Result, Ok, Err, OnOk, IfOk, refl, ◌∙◌, subst}
use Rattle.std.proofs.lemmas.Bool.{cases_Bool, false≢true}
use Rattle.sqlite_value.specs.Order.{Row}
use Rattle.sqlite.below.sqlite_schema.specs.declared.command.Returning.{Returning}
use Rattle.sqlite_resolve.specs.declared.compiled.Compiled.{Compiled}
use Rattle.sqlite.specs.Command.{Command}
use Rattle.sqlite.specs.Command.TheVariants.{CreateTable, Nothing}
use Rattle.sqlite.specs.Store.{Ghosts}
use Rattle.sqlite.specs.Tree.{Trees}
use Rattle.sqlite.specs.Clock.{timed}
use Rattle.sqlite.specs.State.{CommitsBy, CommitsShowing, Executes, ExecutesIn, FailsToQuery, FailsToShow, HasCleanDisk, IsNotRun, IsRolledBack, IsUnchanged, KeepsCommit, Runs, Shown, ShowsRows, State, Survives, shows_rows, text_of}
use Rattle.sqlite.specs.Held.{Held, state}
use Rattle.sqlite.specs.declared.error.Error.{Error}
use Rattle.sqlite.proofs.InsideLemmas.{fails_whole, unchanged_keeps}
use Rattle.sqlite.proofs.StateLemmas.{survives_then, survives_weaker}
use Rattle.ow_sqlite.specs.Load.{AreTexts, CommitsTables, EndsLoad, EndsMaking, LoadsTable, MakesTables, SurvivesLoad, rows_after}
use Rattle.ow_sqlite.specs.Statements.{Executed, create_old_sql, create_sql, select_sql}
use Rattle.ow_sqlite.proofs.Reading.{IsCreate, create_makes, create_old_read, create_read, makes, select_returns}

module _ (old new : State) where
  stays_free : IsUnchanged old new ⊎ IsRolledBack old new → old.in_transaction ≡ false → new.in_transaction ≡ false
  stays_free (inl same) free = same.0.mode ∙ free
  stays_free (inr undone) free = undone.autocommit

  show_whole : (sql : List ℕ) (c : Compiled) (params : Row) (e : Error) (returning : Option Returning) → FailsToShow old new sql c params e returning → IsUnchanged old new ⊎ IsRolledBack old new
  show_whole sql c params e None h = inl h.3
  show_whole sql c params e (Some what) (inl refused) = inl refused.1
  show_whole sql c params e (Some what) (inr failed) = inr failed.3

  query_whole : (sql : List ℕ) (params : Row) (e : Error) → FailsToQuery sql params old new e → IsUnchanged old new ⊎ IsRolledBack old new
  unfolding FailsToQuery IsNotRun
  query_whole sql params e (inl (inl refused)) = inl refused.1
  query_whole sql params e (inl (inr failed)) = inr failed.3
  query_whole sql params e (inr ran) = show_whole sql ran.0 _ e ran.0.returning ran.2

  shown_same : (rows : List Row) → Shown select_sql [] old new rows → IsUnchanged old new
  unfolding Shown
  shown_same rows h = (subst (ShowsRows old new select_sql h.0 (timed [] h.0.formats h.1.now) rows) (select_returns old.now.schema h.0 h.1.is) h.2).3

  makes_free : (returning : Option Returning) (command : Command) (text : List ℕ) (params : Row) (count : ℕ) → makes command ≡ true → Runs old new returning command text params count
      → old.in_transaction ≡ false → new.in_transaction ≡ false
  makes_free returning CreateTable text params count is ran free = ran.shown.mode ∙ free
  makes_free returning Nothing text params count is ran free = ran.0.0.mode ∙ free
  makes_free returning _ text params count is ran free = absurd (false≢true is)

  made_free : (sql : List ℕ) → IsCreate sql → (count : ℕ) → Executes sql [] old new (Ok count) → old.in_transaction ≡ false → new.in_transaction ≡ false
  unfolding ExecutesIn
  made_free sql create count h free =
      let ran : Runs old new h.0.returning h.0.command (text_of sql h.0) (timed [] h.0.formats h.1.now) count = elim (cases_Bool (shows_rows false h.0)) [
        | inl shows ↦ absurd (let e = (rw shows at h.2).0 in cc)
        | inr runs ↦ rw runs at h.2
      ] in
      makes_free h.0.returning h.0.command _ _ count (create_makes sql create old.now.schema h.0 h.1.is) ran free

never_shows : (s : State) (db : Trees) → ¬ CommitsShowing select_sql [] s db
unfolding CommitsShowing
never_shows s db h = absurd (let some = rw (select_returns s.now.schema h.0 h.1.is) at h.2 in cc)

keeps_same : (s : State) → KeepsCommit s s
keeps_same s = record { was_open = λ h. h; committed = λ _. refl }

-- ---- the two tables

module _ {S : Type 0} (g : Ghosts S) (old new : Held S) where
  first_free : Executed g create_sql [] old new → old.in_transaction ≡ false → new.in_transaction ≡ false
  first_free made free = made_free (state g old) (state g new) create_sql create_read made.count made.executed free

  second_free : Executed g create_old_sql [] old new → old.in_transaction ≡ false → new.in_transaction ≡ false
  second_free made free = made_free (state g old) (state g new) create_old_sql create_old_read made.count made.executed free

-- the first table isn't made
module _ {S : Type 0} (g : Ghosts S) (old new : Held S) where
  pub first_fails : (e : Error) → (HasCleanDisk (state g new) → Executes create_sql [] (state g old) (state g new) (Err e)) → EndsMaking {T = Unit {0}} {E = Error} g (Err e) old new
  first_fails e ran =
      let whole = λ (clean : HasCleanDisk (state g new)). fails_whole (state g old) (state g new) false create_sql [] e (ran clean) in
      record { made = λ _. tt; kept = λ clean. inl (unchanged_keeps (state g old) (state g new) (whole clean)); over = λ clean. stays_free (state g old) (state g new) (whole clean) }

  pub first_survives : Survives (state g old) (state g new) (CommitsBy create_sql [] (state g old)) → SurvivesLoad g old new
  first_survives one = survives_weaker (state g old) (state g new) (CommitsBy create_sql [] (state g old)) (CommitsTables g old) (λ _ db is. inl is) one

-- the first table is made, and then the second one, or it isn't
module _ {S : Type 0} (g : Ghosts S) (old mid new : Held S) (count : ℕ) (before : HasCleanDisk (state g new) → HasCleanDisk (state g mid))
    (made : HasCleanDisk (state g mid) → Executes create_sql [] (state g old) (state g mid) (Ok count)) where
  first_made : HasCleanDisk (state g new) → Executed g create_sql [] old mid
  first_made clean = record { count = count; executed = made (before clean) }

  pub second_fails : (e : Error) → (HasCleanDisk (state g new) → Executes create_old_sql [] (state g mid) (state g new) (Err e)) → EndsMaking {T = Unit {0}} {E = Error} g (Err e) old new
  second_fails e ran =
      let whole = λ (clean : HasCleanDisk (state g new)). fails_whole (state g mid) (state g new) false create_old_sql [] e (ran clean) in
      record {
        made = λ _. tt;
        kept = λ clean. inr (inl (mid, first_made clean, unchanged_keeps (state g mid) (state g new) (whole clean)));
        over = λ clean free. stays_free (state g mid) (state g new) (whole clean) (first_free g old mid (first_made clean) free);
      }

  pub both_made : (done : Unit {0}) (more : ℕ) → (HasCleanDisk (state g new) → Executes create_old_sql [] (state g mid) (state g new) (Ok more)) → EndsMaking {T = Unit {0}} {E = Error} g (Ok done) old new
  both_made done more ran =
      let second : HasCleanDisk (state g new) → Executed g create_old_sql [] mid new = λ clean. record { count = more; executed = ran clean } in
      record {
        made = λ clean. (mid, first_made clean, second clean);
        kept = λ clean. inr (inr (new, (mid, first_made clean, second clean), keeps_same (state g new)));
        over = λ clean free. second_free g mid new (second clean) (first_free g old mid (first_made clean) free);
      }

  pub both_survive : Survives (state g old) (state g mid) (CommitsBy create_sql [] (state g old)) → Survives (state g mid) (state g new) (CommitsBy create_old_sql [] (state g mid)) → SurvivesLoad g old new
  both_survive one two =
      survives_then (state g old) (state g mid) (state g new) (CommitsBy create_sql [] (state g old)) (CommitsBy create_old_sql [] (state g mid)) (CommitsTables g old)
      (λ _ db is. inl is) (λ clean db is. inr (mid, first_made clean, is)) one two

-- ---- the load

loads : {S E : Type 0} (g : Ghosts S) (old mid new : Held S) (shown : List Row) (result : Result (List (List ℕ × List ℕ)) E)
    → MakesTables g old mid → Shown select_sql [] (state g mid) (state g new) shown
    → OnOk result (AreTexts shown) → IfOk result (λ rows. rows ≡ rows_after shown []) → IfOk result (LoadsTable g old new)
loads g old mid new shown (Ok rows) made read texts whole = record { mid = mid; made = made; shown = shown; read = read; texts = texts; whole = whole }
loads g old mid new shown (Err e) made read texts whole = whole

module _ {S : Type 0} (g : Ghosts S) (old mid new : Held S) (before : HasCleanDisk (state g new) → HasCleanDisk (state g mid)) (made : HasCleanDisk (state g mid) → MakesTables g old mid)
    (free : HasCleanDisk (state g mid) → old.in_transaction ≡ false → mid.in_transaction ≡ false) where
  pub query_fails : (e : Error) → (HasCleanDisk (state g new) → FailsToQuery select_sql [] (state g mid) (state g new) e) → EndsLoad {E = Error} g (Err e) old new
  query_fails e failed =
      let whole = λ (clean : HasCleanDisk (state g new)). query_whole (state g mid) (state g new) select_sql [] e (failed clean) in
      record {
        loaded = λ _. tt;
        kept = λ clean. inr (inr (mid, made (before clean), unchanged_keeps (state g mid) (state g new) (whole clean)));
        over = λ clean none. stays_free (state g mid) (state g new) (whole clean) (free (before clean) none);
      }

  pub shown_ends : {E : Type 0} (shown : List Row) (result : Result (List (List ℕ × List ℕ)) E) → (HasCleanDisk (state g new) → Shown select_sql [] (state g mid) (state g new) shown)
      → OnOk result (AreTexts shown) → IfOk result (λ rows. rows ≡ rows_after shown []) → EndsLoad g result old new
  shown_ends shown result read texts whole =
      let same = λ (clean : HasCleanDisk (state g new)). shown_same (state g mid) (state g new) shown (read clean) in
      record {
        loaded = λ clean. loads g old mid new shown result (made (before clean)) (read clean) texts whole;
        kept = λ clean. inr (inr (mid, made (before clean), unchanged_keeps (state g mid) (state g new) (inl (same clean))));
        over = λ clean none. (same clean).0.mode ∙ free (before clean) none;
      }

-- the statements that make the tables alone commit
pub load_survives : {S : Type 0} (g : Ghosts S) (old mid new : Held S) → SurvivesLoad g old mid → Survives (state g mid) (state g new) (CommitsShowing select_sql [] (state g mid)) → SurvivesLoad g old new
load_survives g old mid new one two =
    survives_then (state g old) (state g mid) (state g new) (CommitsTables g old) (CommitsShowing select_sql [] (state g mid)) (CommitsTables g old)
    (λ _ db is. is) (λ _ db is. absurd (never_shows (state g mid) db is)) one two
