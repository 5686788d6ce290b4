-- What a commit that failed leaves.
use Rattle.std.proofs.Common.{◌≡◌, ◌∙◌, ℕ, Bool, true, false, List, [], Result, Ok, Err, refl, subst}
use Rattle.std.specs.Result.{IsErr}
use Rattle.ow_traits.specs.Telling.{Telling}
use Rattle.ow_value.specs.declared.memory.NoMemory.{NoMemory as Want}
use Rattle.ow_traits.specs.declared.change_list.Change.{Change}
use Rattle.ow_traits.specs.declared.keepers.KeeperError.{KeeperError}
use Rattle.ow_traits.specs.declared.keepers.KeeperError.TheVariants.{Failed, NoMemory}
use Rattle.ow_floor.specs.Trace.{Trace}
use Rattle.ow_decide.specs.Decision.{commits}
use Rattle.ow_decide.specs.declared.events.Event.{Event}
use Rattle.ow_decide.specs.declared.replies.Reply.{Reply}
use Rattle.ow_tenant.specs.Table.{Table}
use Rattle.ow_hall.specs.Comes.{Comes, HallView, HoldsBook, KeptRows, Outcome, Refuses, Replies, Wants, decided}
use Rattle.ow_hall.specs.Commits.{CommitsTo, is_fault, uncommitted}
use Rattle.ow_hall.specs.Ledger.{HasRoom, Ledger}
use Rattle.ow_hall.specs.Performing.{undone}
use Rattle.ow_hall.specs.State.{Keeps, StateView}
use Rattle.ow_hall.proofs.KeepLaws.{stays_same, stays_so}

-- ---- a commit that failed

-- its outcome
pub undone_comes : {P : Type 0} (telling : P → Telling) (old new : HallView P) (at : ℕ) (event : Event) (asked : List Change) (e : KeeperError)
    → asked ≡ commits (decided old at event) → CommitsTo telling asked old.store new.store (Err e) → new.ledger ≡ uncommitted e old.ledger → new.tenants ≡ old.tenants
    → Comes telling old new at event (undone (is_fault e))
undone_comes telling old new at event asked Failed is none ledger tenants =
    (λ empty. none.0 (is ∙ empty), ledger, tenants, subst (λ (cs : List Change). Refuses telling cs old.store new.store) is none.1, none.2.rose refl)
undone_comes telling old new at event asked NoMemory is none ledger tenants = (
  ledger,
  tenants,
  stays_so telling (commits (decided old at event)) old.store new.store (subst (λ (cs : List Change). Refuses telling cs old.store new.store) is none.1) (λ empty. none.0 (is ∙ empty)),
)

-- a request for which there is no memory changes nothing
pub unasked : {P : Type 0} (telling : P → Telling) (h : HallView P) (at : ℕ) (event : Event) (result : Result Reply Want) → IsErr result
    → (o : Outcome) × Replies result o × Comes telling h h at event o
unasked telling h at event (Ok reply) is = cc
unasked telling h at event (Err e) is = (Wants, refl, (refl, refl, stays_same telling (commits (decided h at event)) h.store))

-- the book is what it was, except for the tally
pub undone_keeps : (e : KeeperError) (w : StateView) (t : Table) (L : Ledger) → Keeps w t L → Keeps w t (uncommitted e L)
undone_keeps Failed w t L keeps = record { stands = keeps.stands; legal = keeps.legal; free = keeps.free }
undone_keeps NoMemory w t L keeps = keeps

pub undone_room : (e : KeeperError) (T : Trace) (L : Ledger) (room : ℕ) → HasRoom T L room → HasRoom T (uncommitted e L) room
undone_room Failed T L room has = record { within = has.within; fits = has.fits }
undone_room NoMemory T L room has = has

pub undone_entries : (e : KeeperError) (L : Ledger) → (uncommitted e L).entries ≡ L.entries
undone_entries Failed L = refl
undone_entries NoMemory L = refl

pub undone_holds : (e : KeeperError) (told : KeptRows) (t : Table) (L : Ledger) → HoldsBook told t L → HoldsBook told t (uncommitted e L)
undone_holds Failed told t L holds = holds
undone_holds NoMemory told t L holds = holds

-- an event that is undone, where nothing is to be committed, ran out of memory
pub only_wants : {P : Type 0} (telling : P → Telling) (old new : HallView P) (at : ℕ) (event : Event) (failed : Bool) → commits (decided old at event) ≡ []
    → Comes telling old new at event (undone failed) → Comes telling old new at event Wants
only_wants telling old new at event true none comes = absurd (comes.0 none)
only_wants telling old new at event false none comes = comes
