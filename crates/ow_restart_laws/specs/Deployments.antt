-- Laws of deployments: a repeated deployment changes nothing, and rows that no draft names stay as they are.
use Rattle.std.specs.Prelude.{◌≡◌, ℕ, true, false, List, [], length, map, Ok}
use Rattle.std.specs.List.{AllByRecursion, IsDistinct}
use Rattle.std.specs.Str.{bytes_eq}
use Rattle.ow_entity.specs.Row.{draft_kind, draft_name, version_of, with_version}
use Rattle.ow_entity.specs.declared.kinds.EntityKind.{EntityKind}
use Rattle.ow_entity.specs.declared.rows.Draft.{Draft}
use Rattle.ow_entity.specs.declared.rows.Row.{Row}
use Rattle.ow_names.specs.declared.full.FullName.{FullName}
use Rattle.ow_row_text.specs.Item.{entity_key}
use Rattle.ow_row_text.specs.Unchanged.{is_unchanged}
use Rattle.ow_row_text.specs.declared.item.Item.TheVariants as items
use Rattle.ow_keep.specs.Kept.{MayStand}
use Rattle.ow_keep.specs.Known.{IsKnownEntity}
use Rattle.ow_tables.specs.Rows.{found, key}
use Rattle.ow_tenant.specs.Table.{Table}
use Rattle.ow_traits.specs.Telling.{Telling}
use Rattle.ow_decide.specs.Deploying.{Progress, begun, put_drafts}
use Rattle.ow_decide.specs.declared.events.Event.TheVariants as events
use Rattle.ow_decide.specs.declared.events.Told.TheVariants as told
use Rattle.ow_decide.specs.declared.replies.Deployed.TheVariants as deployments
use Rattle.ow_hall.specs.Comes.{Answers, Comes, HallView, Outcome}
use Rattle.ow_hall.specs.History.{Seen, seen}

-- ---- the names of drafts

-- the key of the row that a draft makes: its kind and its name
abbrev pub draft_key : Draft → List ℕ
draft_key d = key (draft_kind d) (draft_name d)

-- no two drafts have the same kind and name
abbrev pub AreDistinct : List Draft → Type 0
AreDistinct ds = IsDistinct bytes_eq (map draft_key ds)

-- no draft has this kind and name
abbrev pub IsUnnamed : EntityKind → FullName → List Draft → Type 0
IsUnnamed kind name ds = AllByRecursion (λ d. bytes_eq (key kind name) (draft_key d) ≡ false) ds

-- ---- the drafts alone

-- the rows stay, no change is made, and each of the drafts is left out
abbrev pub unchanged_by : List Draft → List Row → Progress
unchanged_by ds rs = record { rows = rs; changes = []; made = 0; changed = 0; same = length ds }

-- drafts that are put a second time, over the rows that they made, change nothing. The first draft has place 1
abbrev pub RepeatedDraftsChangeNothing : Type 0
RepeatedDraftsChangeNothing = (t : Table) (rs : List Row) (ds : List Draft) (p q : Progress) → AreDistinct ds
    → put_drafts t 1 ds (begun rs) ≡ Ok p → put_drafts t 1 ds (begun p.rows) ≡ Ok q → q ≡ unchanged_by ds p.rows

-- drafts leave what is found under each kind and name that none of them has
abbrev pub DraftsLeaveOtherRows : Type 0
DraftsLeaveOtherRows = (t : Table) (place : ℕ) (ds : List Draft) (p q : Progress) (kind : EntityKind) (name : FullName) → IsUnnamed kind name ds
    → put_drafts t place ds p ≡ Ok q → found kind name q.rows ≡ found kind name p.rows

-- ---- calls of a controller

-- the rows, what happened, and who waits, after all entries of a controller's event log
abbrev pub state_of : {P : Type 0} → HallView P → Seen
state_of h = seen h.tenants h.ledger.entries

-- a deployment is carried out at this moment. It makes `made` rows, changes `changed` rows, and leaves `same` drafts out
abbrev pub Deploys : {P : Type 0} → (P → Telling) → HallView P → HallView P → ℕ → List Draft → ℕ → ℕ → ℕ → Type 0
Deploys telling old new at ds made changed same = Comes telling old new at (events.Deployed ds) (Answers (told.Deployed (deployments.Done made changed same)))

-- a call leaves what came of the event log, the office table and the store. It makes and changes no row, and leaves each draft out
pub record ChangesNothing {P : Type 0} (old new : HallView P) (ds : List Draft) (made changed same : ℕ) : Type 0 where
  pub state : state_of new ≡ state_of old
  pub tenants : new.tenants ≡ old.tenants
  pub store : new.store ≡ old.store
  pub none_made : made ≡ 0
  pub none_changed : changed ≡ 0
  pub all_same : same ≡ length ds

-- a deployment that is carried out a second time changes nothing
abbrev pub RepeatedDeploymentsChangeNothing : {P : Type 0} → (P → Telling) → Type 0
RepeatedDeploymentsChangeNothing {P} telling = (old mid new : HallView P) (at later : ℕ) (ds : List Draft) (a b c made changed same : ℕ) → AreDistinct ds
    → Deploys telling old mid at ds a b c → Deploys telling mid new later ds made changed same → ChangesNothing mid new ds made changed same

-- whatever comes of a deployment, it leaves what is found under each kind and name that no draft has
abbrev pub DeploymentsLeaveOtherRows : {P : Type 0} → (P → Telling) → Type 0
DeploymentsLeaveOtherRows {P} telling = (old new : HallView P) (at : ℕ) (ds : List Draft) (o : Outcome) (kind : EntityKind) (name : FullName) → IsUnnamed kind name ds
    → Comes telling old new at (events.Deployed ds) o → found kind name (state_of new).rows ≡ found kind name (state_of old).rows

-- ---- drafts that are left out

-- a row that is as its type guarantees, and that the store may keep
pub record IsKeptRow (r : Row) : Type 0 where
  pub known : IsKnownEntity r
  pub allowed : MayStand [] (items.Row r)

-- where a row is left out, it is the old one with another version, or with the same. Both have one key in the store
abbrev pub UnchangedRowsAreEqual : Type 0
UnchangedRowsAreEqual = (old new : Row) → entity_key old ≡ entity_key new → IsKeptRow old → IsKeptRow new → is_unchanged old new ≡ true → new ≡ with_version (version_of new) old
