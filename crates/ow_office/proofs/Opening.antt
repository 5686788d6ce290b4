-- What holds of a store holds of what the store reports of itself.
use Rattle.std.proofs.Common.{ℕ, List, [], ◌∷◌, ap, inl, inr}
use Rattle.ow_traits.specs.Telling.{Telling}
use Rattle.ow_traits.specs.declared.change_list.Change.{Change}
use Rattle.ow_decide.specs.declared.events.Event.{Event}
use Rattle.ow_hall.specs.Comes.{Answers, Comes, Fails, HallView, Holds, Makes, Outcome, Refuses, Stays, Wants}
use Rattle.ow_hall.specs.Openings.{Opens}
use Rattle.ow_tenant.specs.Table.{Table}
use Rattle.ow_office.specs.Deploy.{itself}

module _ {P : Type 0} (telling : P → Telling) where
  abbrev pub as_told : HallView P → HallView Telling
  as_told h = record { tenants = h.tenants; ledger = h.ledger; store = telling h.store }

  makes_told : (changes : List Change) (old new : P) → Makes telling changes old new → Makes itself changes (telling old) (telling new)
  makes_told changes old new m = record { rows = m.rows; old_rows = m.old_rows; commits = m.commits; later = m.later }

  refuses_told : (changes : List Change) (old new : P) → Refuses telling changes old new → Refuses itself changes (telling old) (telling new)
  refuses_told changes old new r = record { rows = r.rows; old_rows = r.old_rows; commits = r.commits; later = r.later }

  holds_told : (changes : List Change) (old new : P) → Holds telling changes old new → Holds itself changes (telling old) (telling new)
  holds_told [] old new same = ap telling same
  holds_told (c ∷ cs) old new makes = makes_told (c ∷ cs) old new makes

  stays_told : (changes : List Change) (old new : P) → Stays telling changes old new → Stays itself changes (telling old) (telling new)
  stays_told [] old new same = ap telling same
  stays_told (c ∷ cs) old new (inl same) = inl (ap telling same)
  stays_told (c ∷ cs) old new (inr refuses) = inr (refuses_told (c ∷ cs) old new refuses)

  pub comes_told : (old new : HallView P) (at : ℕ) (event : Event) (outcome : Outcome) → Comes telling old new at event outcome → Comes itself (as_told old) (as_told new) at event outcome
  comes_told old new at event (Answers t) (answer, ledger, tenants, holds) = (answer, ledger, tenants, holds_told _ old.store new.store holds)
  comes_told old new at event Wants (ledger, tenants, stays) = (ledger, tenants, stays_told _ old.store new.store stays)
  comes_told old new at event Fails (some, ledger, tenants, refuses, rose) = (some, ledger, tenants, refuses_told _ old.store new.store refuses, rose)

  pub opens_told : (store : P) (t : Table) (at : ℕ) (h : HallView P) → Opens telling store t at h → Opens itself (telling store) t at (as_told h)
  opens_told store t at h o = record {
    loaded = o.loaded;
    told = o.told;
    allowed = o.allowed;
    tenants = o.tenants;
    ledger = o.ledger;
    later = o.later;
    changes = o.changes;
    makes = makes_told o.changes store h.store o.makes;
  }
