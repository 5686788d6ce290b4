-- What is committed makes what is kept of the book.
use Rattle.std.proofs.Common.{◌≡◌, ◌≢◌, ◌∙◌, ◌++◌, ℕ, Bool, true, false, List, [], ◌∷◌, Option, Some, None, refl, sym, ap, subst, inr, inl, Result, Ok, Err}
use Rattle.std.specs.List.{flat_map}
use Rattle.ow_traits.specs.Telling.{Telling, with_attempt}
use Rattle.ow_traits.specs.Keeper.{Commits, KeepsCause, Retires, attempt_of}
use Rattle.ow_traits.specs.declared.keepers.KeeperError.{KeeperError}
use Rattle.ow_traits.specs.declared.change_list.Change.{Change as StoreChange}
use Rattle.ow_pool.specs.declared.answers.Place.{Place}
use Rattle.ow_pool.specs.declared.answers.Place.TheVariants as places
use Rattle.ow_records.specs.declared.ids.Id.{Id}
use Rattle.ow_floor.specs.View.{Shown, head}
use Rattle.ow_floor.specs.declared.activations.Open.{Open}
use Rattle.ow_floor.specs.declared.moves.Moved.{Moved}
use Rattle.ow_floor.specs.Calls.{begins, goes, items_if, loses, moved, order_items, place_on}
use Rattle.ow_floor.specs.Growth.{AreRight}
use Rattle.ow_floor.specs.Laws.{IsSound}
use Rattle.ow_floor.specs.Trace.{Begun, Gone, Item, Lost, shown}
use Rattle.ow_tables.specs.Contents.{Change}
use Rattle.ow_commits.specs.Commits.{changes_of, row_changes}
use Rattle.ow_commits.specs.Keeping.{FollowingView, KeepingView, StandsForKept}
use Rattle.ow_commits.proofs.Quiet.{quiet_stands}
use Rattle.ow_decide.specs.declared.events.Event.{Event}
use Rattle.ow_decide.specs.declared.events.Event.TheVariants as events
use Rattle.ow_decide.specs.Decision.{Decision, OtherChange, Same, all_changed, commits, items_changes, others_after, with_others}
use Rattle.ow_decide.specs.Decisions.{decide, wants_memory}
use Rattle.ow_decide.specs.Making.{IsOthersStep, IsCommit}
use Rattle.ow_decide.specs.Sight.{Sight}
use Rattle.ow_decide.specs.declared.step.OthersStep.{OthersStep}
use Rattle.ow_decide.proofs.MadeLaws.{changes_of_moves}
use Rattle.ow_tenant.specs.Table.{Table}
use Rattle.ow_hall.specs.Comes.{Holds, KeptRows, Refuses, Stays, kept_after, old_kept_after}
use Rattle.ow_hall.specs.Commits.{CommitsTo, changes_in}
use Rattle.ow_hall.specs.History.{counted, decision, seen, sight}
use Rattle.ow_hall.specs.Ledger.{Ledger}
use Rattle.ow_hall.specs.State.{kept_with}

-- ---- a step commits all that changes

-- where no row is changed and nothing moved, nothing is committed
unmoved_commits : (d : Decision) → d.changes ≡ [] → moved d.items ≡ [] → d.others ≡ Same → commits d ≡ []
unmoved_commits d changes unmoved same =
    ap (λ (o : OtherChange). with_others o (flat_map row_changes d.changes ++ items_changes d.items)) same
    ∙ (ap (λ (cs : List Change). flat_map row_changes cs ++ items_changes d.items) changes ∙ (changes_of_moves d.items ∙ ap (λ (ms : List Moved). flat_map changes_of ms) unmoved))

-- where there is no commit, the archive and the notes stay
others_stay : (others : Option OthersStep) (d : Decision) (S : Sight) → IsOthersStep None others d S → d.others ≡ Same
others_stay None d S is = is
others_stay (Some o) d S is = absurd is

pub step_commits : (commit : Option FollowingView) (others : Option OthersStep) (d : Decision) (S : Sight) → IsCommit commit d S → IsOthersStep commit others d S → changes_in commit ≡ commits d
step_commits None others d S is so = sym (unmoved_commits d is.0 is.1.1 (others_stay others d S so))
step_commits (Some c) others d S is so = is.changes

-- once that is kept, its size agrees with what is kept then
pub step_keeps : (commit : Option FollowingView) (others : Option OthersStep) (d : Decision) (v : KeepingView) (S : Sight) → IsSound S.trace → StandsForKept v S.others S.rows S.trace
    → AreRight d.items (shown S.trace) → IsCommit commit d S → IsOthersStep commit others d S
    → StandsForKept (kept_with commit v) (others_after d.others S.others) (all_changed d.changes S.rows) (d.items ++ S.trace)
step_keeps None others d v S sound stands right is so =
    subst (λ (o : OtherChange). StandsForKept v (others_after o S.others) (all_changed d.changes S.rows) (d.items ++ S.trace)) (sym (others_stay others d S so))
    (subst (λ (cs : List Change). StandsForKept v S.others (all_changed cs S.rows) (d.items ++ S.trace)) (sym is.0)
    (quiet_stands v S.others S.rows S.trace d.items stands sound right is.1.0 is.1.1))
step_keeps (Some c) others d v S sound stands right is so = is.stands

-- ---- what the store holds

none_after : (told : KeptRows) → told ≡ kept_after [] told
none_after None = refl
none_after (Some rows) = refl

-- a commit of a keeper, for its rows
pub made_rows : (old new : KeptRows) (cs : List StoreChange) (done : Unit {0}) → Commits old new cs (Ok done) → new ≡ kept_after cs old
made_rows None new cs done commits = commits
made_rows (Some rows) new cs done commits = commits

failed_rows : (old new : KeptRows) (cs : List StoreChange) (e : KeeperError) → Commits {T = Unit {0}} old new cs (Err e) → new ≡ old
failed_rows None new cs e commits = commits
failed_rows (Some rows) new cs e commits = commits

-- and for its old rows
pub made_old_rows : (old new : KeptRows) (cs : List StoreChange) (done : Unit {0}) → Retires old new cs (Ok done) → new ≡ old_kept_after cs old
made_old_rows None new cs done retires = retires
made_old_rows (Some old_rows) new cs done retires = retires

failed_old_rows : (old new : KeptRows) (cs : List StoreChange) (e : KeeperError) → Retires {T = Unit {0}} old new cs (Err e) → new ≡ old
failed_old_rows None new cs e retires = retires
failed_old_rows (Some old_rows) new cs e retires = retires

-- a commit of some changes
pub commits_to : {P : Type 0} (telling : P → Telling) (changes : List StoreChange) (old new : P) (result : Result (Unit {0}) KeeperError) → changes ≢ []
    → Commits (telling old).rows (telling new).rows changes result → Retires (telling old).old_rows (telling new).old_rows changes result → (telling new).commits ≡ with_attempt (attempt_of changes result) (telling old).commits
    → KeepsCause (telling old).faults (telling new).faults result → CommitsTo telling changes old new result
commits_to telling [] old new result some told retired asked cause = absurd (some refl)
commits_to telling (c ∷ cs) old new (Ok done) some told retired asked cause = record {
  rows = made_rows (telling old).rows (telling new).rows (c ∷ cs) done told;
  old_rows = made_old_rows (telling old).old_rows (telling new).old_rows (c ∷ cs) done retired;
  commits = asked;
  later = cause.later;
}
commits_to telling (c ∷ cs) old new (Err e) some told retired asked cause = (
  some,
  record {
    rows = failed_rows (telling old).rows (telling new).rows (c ∷ cs) e told;
    old_rows = failed_old_rows (telling old).old_rows (telling new).old_rows (c ∷ cs) e retired;
    commits = asked;
    later = cause.later;
  },
  cause,
)

-- with the changes of a commit its rows are these
pub held : {P : Type 0} (telling : P → Telling) (changes : List StoreChange) (old new : P) → Holds telling changes old new → (telling new).rows ≡ kept_after changes (telling old).rows
held telling [] old new same = ap (λ s. (telling s).rows) same ∙ none_after (telling old).rows
held telling (c ∷ cs) old new same = same.rows

-- where no change is to be made the store stays in any case
pub stays_so : {P : Type 0} (telling : P → Telling) (changes : List StoreChange) (old new : P) → Refuses telling changes old new → changes ≢ [] → Stays telling changes old new
stays_so telling [] old new refuses some = absurd (some refl)
stays_so telling (c ∷ cs) old new refuses some = inr refuses

pub stays_same : {P : Type 0} (telling : P → Telling) (changes : List StoreChange) (store : P) → Stays telling changes store store
stays_same telling [] store = refl
stays_same telling (c ∷ cs) store = inl refl

pub holds_none : {P : Type 0} (telling : P → Telling) (changes : List StoreChange) (store : P) → changes ≡ [] → Holds telling changes store store
holds_none telling changes store none = subst (λ (cs : List StoreChange). Holds telling cs store store) (sym none) refl

-- where nothing happens and no row changes, nothing is committed
pub leaves_commits : (d : Decision) → d.items ≡ [] → d.changes ≡ [] → d.others ≡ Same → commits d ≡ []
leaves_commits d items changes same =
    ap (λ (o : OtherChange). with_others o (flat_map row_changes d.changes ++ items_changes d.items)) same
    ∙ (ap (λ (cs : List Change). flat_map row_changes cs ++ items_changes d.items) changes ∙ ap items_changes items)

if_commits : (b : Bool) (item : Item) → items_changes (item ∷ []) ≡ [] → items_changes (items_if b item) ≡ []
if_commits true item none = none
if_commits false item none = refl

-- a beginning, a loss or a going commits nothing
pub free_none : (S : Sight) (event : Event) → wants_memory event ≡ false → commits (decide S event) ≡ []
free_none S (events.Begun run) free = if_commits (begins run S.trace) (Begun run S.moment) refl
free_none S (events.Lost run) free = if_commits (loses run S.trace) (Lost run S.moment) refl
free_none S (events.Gone slot generation) free = if_commits (goes slot generation S.trace) (Gone slot generation S.moment) refl
free_none S (events.Opened rows) free = cc
free_none S (events.Asked r) free = cc
free_none S (events.Called name params) free = cc
free_none S (events.Fired trigger params note) free = cc
free_none S (events.Deployed drafts) free = cc
free_none S events.Next free = cc
free_none S (events.Answered run reply) free = cc
free_none S events.Sweep free = cc
free_none S (events.Collected id) free = cc
free_none S events.Drain free = cc
free_none S events.Reopened free = cc

pub free_commits : (t : Table) (L : Ledger) (at : ℕ) (event : Event) → wants_memory event ≡ false → commits (decision t L.entries at event) ≡ []
free_commits t L at event free = free_none (sight t (seen t L.entries) (counted L.entries) at) event free

order_commits : (at : ℕ) (v : Shown) (p : Place) (o : Option Open) → items_changes (order_items p o at v) ≡ []
order_commits at v (places.Run slot start) None = refl
order_commits at v (places.Run slot start) (Some o) = refl
order_commits at v (places.Prewarm slot kind memory) o = refl
order_commits at v (places.Remove slots) o = refl
order_commits at v (places.Nothing reason) o = refl

-- nor does an order, the answer to the collection of an activation, or a drain
pub next_commits : (S : Sight) → commits (decide S events.Next) ≡ []
next_commits S = order_commits S.moment (shown S.trace) (place_on (shown S.trace)) (head (shown S.trace))

pub collected_commits : (S : Sight) (id : Id) → commits (decide S (events.Collected id)) ≡ []
collected_commits S id = refl

pub drain_commits : (S : Sight) → commits (decide S events.Drain) ≡ []
drain_commits S = refl

pub kept_none : (told : KeptRows) (changes : List StoreChange) → changes ≡ [] → told ≡ kept_after changes told
kept_none told changes none = none_after told ∙ ap (λ (cs : List StoreChange). kept_after cs told) (sym none)

-- what was to be committed is what a decision commits
pub committed : {P : Type 0} (telling : P → Telling) (made changes : List StoreChange) (old new : P) → made ≡ changes → Holds telling made old new → Holds telling changes old new
committed telling made changes old new same holds = subst (λ (cs : List StoreChange). Holds telling cs old new) same holds
