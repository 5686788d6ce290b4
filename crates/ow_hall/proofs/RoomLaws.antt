-- Room that was taken is enough after an answer.
use Rattle.std.proofs.Common.{◌≡◌, ◌∙◌, ◌+◌, ◌≤◌, ◌++◌, ℕ, zero, suc, Bool, true, false, List, [], ◌∷◌, Result, Ok, Err, refl, sym, ap, subst, arith}
use Rattle.std.specs.Prelude.{replicate}
use Rattle.std.proofs.lemmas.List.Sums.{sum_by-cons}
use Rattle.ow_traits.specs.declared.prewarms.Prewarm.{Prewarm}
use Rattle.ow_slots.specs.Slots.{vacant_slot}
use Rattle.ow_slots.specs.declared.states.Slot.{Slot}
use Rattle.ow_slot_laws.specs.Owed as lives
use Rattle.ow_floor.proofs.Slotting.{slots_opened}
use Rattle.ow_floor.proofs.Owing.{owed_begun, owed_gone, owed_lost}
use Rattle.ow_floor.specs.Calls.{begins, goes, items_if, loses, refused_unless}
use Rattle.ow_floor.specs.Laws.{IsSound}
use Rattle.ow_floor.specs.Owed.{owed}
use Rattle.ow_floor.specs.View.{generation_in}
use Rattle.ow_floor.specs.Trace.{Begun, Gone, Lost, Opened, Trace, slot_count, slots}
use Rattle.ow_floor.specs.declared.answers.FloorRefusal.{FloorRefusal}
use Rattle.ow_floor.specs.declared.answers.FloorRefusal.TheVariants as refusals
use Rattle.ow_decide.specs.declared.events.Event.{Event}
use Rattle.ow_decide.specs.declared.events.Event.TheVariants as events
use Rattle.ow_decide.specs.declared.events.Told.{Told}
use Rattle.ow_hall.specs.declared.posting.Posting.{Posting}
use Rattle.ow_hall.specs.declared.posting.Posting.TheVariants.{Booked, Quiet, Denied, Unbooked}
use Rattle.ow_tenant.specs.Table.{Table}
use Rattle.ow_decide.specs.Decisions.{decide, taken_told, wants_memory}
use Rattle.ow_decide.specs.Sight.{Sight}
use Rattle.ow_hall.proofs.Beginnings.{seen_sound}
use Rattle.ow_hall.specs.Posting.{posting_by}
use Rattle.ow_hall.specs.History.{History, counted, decision, event_bytes, is_idle, posting, seen, sight, told_bytes}
use Rattle.ow_hall.specs.Ledger.{HasRoom, IsReady, Ledger, cost, posted, posted_as}

-- more room is room
pub room_more : (t : Table) (L : Ledger) (old new : ℕ) → old ≤ new → HasRoom (seen t L.entries).trace L old → HasRoom (seen t L.entries).trace L new
room_more t L old new more has = record { within = omega (arith, more, has.within); fits = has.fits }

room_by : (p : Posting) (t : Table) (L : Ledger) (at before room left n bytes : ℕ) (event : Event) (told_is : Told)
    → HasRoom (seen t L.entries).trace L before → before ≤ room → room ≤ left + cost p
    → (p ≡ Booked → IsReady L.entries room n event told_is bytes) → n ≡ owed ((decision t L.entries at event).items ++ (seen t L.entries).trace)
    → HasRoom (seen t (posted_as p (record { at = at; event = event; answer = told_is }) L).entries).trace (posted_as p (record { at = at; event = event; answer = told_is }) L) left
room_by Booked t L at before room left n bytes event told_is has more used ready same =
    let r = ready refl in
    record { within = omega (arith, used, r.within, same); fits = omega (arith, r.bytes_are, r.fits, same) }
room_by Quiet t L at before room left n bytes event told_is has more used ready same = record { within = omega (arith, has.within, more, used); fits = has.fits }
room_by Denied t L at before room left n bytes event told_is has more used ready same = record { within = omega (arith, has.within, more, used); fits = has.fits }
room_by Unbooked t L at before room left n bytes event told_is has more used ready same = record { within = omega (arith, has.within, more, used); fits = has.fits }

-- the entries that are owed after an answer have room, where the room was taken for them
pub room_left : (t : Table) (L : Ledger) (at before room left n bytes : ℕ) (event : Event) (told_is : Told)
    → HasRoom (seen t L.entries).trace L before → before ≤ room → room ≤ left + cost (posting L.entries told_is)
    → (posting L.entries told_is ≡ Booked → IsReady L.entries room n event told_is bytes) → n ≡ owed ((decision t L.entries at event).items ++ (seen t L.entries).trace)
    → HasRoom (seen t (posted L at event told_is).entries).trace (posted L at event told_is) left
room_left t L at before room left n bytes event told_is has more used ready same = room_by (posting L.entries told_is) t L at before room left n bytes event told_is has more used ready same

-- nothing is owed of vacant slots
vacant_owed : (n : ℕ) → lives.owed (replicate n vacant_slot) ≡ 0
vacant_owed zero = refl
vacant_owed (suc n) =
    let rest = vacant_owed n in
    let sum = sum_by-cons (λ (s : Slot). lives.owed_by s.state) vacant_slot (replicate n vacant_slot) in
    omega (arith, rest, sum)

pub opened_owed : (pool : ℕ) (wants : List Prewarm) → owed (Opened pool wants ∷ []) ≡ 0
opened_owed pool wants = ap lives.owed (slots_opened pool wants) ∙ vacant_owed (slot_count pool)

-- an entry that has room with others after it has room
pub ready_alone : (B : History) (room n bytes : ℕ) (event : Event) (t : Told) → IsReady B room n event t bytes → IsReady B room 0 event t bytes
ready_alone B room n bytes event t ready = record { bytes_are = ready.bytes_are; within = omega (arith, ready.within); fits = omega (arith, ready.fits) }

-- an answer that was copied has the room that was taken for it
pub ready_for : (L M : Ledger) (room n bytes : ℕ) (event : Event) (x y : Told) → M ≡ L → y ≡ x → (posting L.entries x ≡ Booked → IsReady L.entries room n event x bytes)
    → posting M.entries y ≡ Booked → IsReady M.entries room 0 event y bytes
ready_for L M room n bytes event x y same told_so ready booked =
    let there = subst (λ (z : Told). posting L.entries z ≡ Booked) told_so (subst (λ (K : Ledger). posting K.entries y ≡ Booked) same booked) in
    let alone = ready_alone L.entries room n bytes event x (ready there) in
    subst (λ (K : Ledger). IsReady K.entries room 0 event y bytes) (sym same) (subst (λ (z : Told). IsReady L.entries room 0 event z bytes) (sym told_so) alone)

-- ---- what takes no memory

begun_less : (idle b : Bool) (run at : ℕ) (T : Trace) → IsSound T → begins run T ≡ b → posting_by idle (taken_told (refused_unless b (refusals.NoRun run))) ≡ Booked
    → owed (items_if b (Begun run at) ++ T) + 1 ≤ owed T
begun_less idle true run at T sound is booked = owed_begun run at T sound is
begun_less idle false run at T sound is booked = cc

lost_less : (idle b : Bool) (run at : ℕ) (T : Trace) → IsSound T → loses run T ≡ b → posting_by idle (taken_told (refused_unless b (refusals.NoRun run))) ≡ Booked
    → owed (items_if b (Lost run at) ++ T) + 1 ≤ owed T
lost_less idle true run at T sound is booked = owed_lost run at T sound is
lost_less idle false run at T sound is booked = cc

gone_less : (idle b : Bool) (slot generation at : ℕ) (T : Trace) → IsSound T → goes slot generation T ≡ b → posting_by idle (taken_told (refused_unless b (refusals.NoSlot slot (generation_in slot (slots T))))) ≡ Booked
    → owed (items_if b (Gone slot generation at) ++ T) + 1 ≤ owed T
gone_less idle true slot generation at T sound is booked = owed_gone slot generation at T sound is
gone_less idle false slot generation at T sound is booked = cc

-- what is booked of a beginning, a loss or a going was owed
owed_less : (idle : Bool) (S : Sight) (event : Event) → IsSound S.trace → wants_memory event ≡ false → posting_by idle (decide S event).told ≡ Booked → owed ((decide S event).items ++ S.trace) + 1 ≤ owed S.trace
owed_less idle S (events.Opened rows) sound free booked = cc
owed_less idle S (events.Asked r) sound free booked = cc
owed_less idle S (events.Called name params) sound free booked = cc
owed_less idle S (events.Fired trigger params note) sound free booked = cc
owed_less idle S (events.Deployed drafts) sound free booked = cc
owed_less idle S events.Next sound free booked = cc
owed_less idle S (events.Begun run) sound free booked = begun_less idle (begins run S.trace) run S.moment S.trace sound refl booked
owed_less idle S (events.Answered run reply) sound free booked = cc
owed_less idle S (events.Lost run) sound free booked = lost_less idle (loses run S.trace) run S.moment S.trace sound refl booked
owed_less idle S (events.Gone slot generation) sound free booked = gone_less idle (goes slot generation S.trace) slot generation S.moment S.trace sound refl booked
owed_less idle S events.Sweep sound free booked = cc
owed_less idle S (events.Collected id) sound free booked = cc
owed_less idle S events.Drain sound free booked = cc
owed_less idle S events.Reopened sound free booked = cc

-- its entry counts no more than 64
no_event_bytes : (event : Event) → wants_memory event ≡ false → event_bytes event ≡ 0
no_event_bytes (events.Opened rows) free = refl
no_event_bytes (events.Asked r) free = cc
no_event_bytes (events.Called name params) free = refl
no_event_bytes (events.Fired trigger params note) free = refl
no_event_bytes (events.Deployed drafts) free = refl
no_event_bytes events.Next free = refl
no_event_bytes (events.Begun run) free = refl
no_event_bytes (events.Answered run reply) free = cc
no_event_bytes (events.Lost run) free = refl
no_event_bytes (events.Gone slot generation) free = refl
no_event_bytes events.Sweep free = refl
no_event_bytes (events.Collected id) free = refl
no_event_bytes events.Drain free = refl
no_event_bytes events.Reopened free = refl

no_told_bytes : (taken : Result (Unit {0}) FloorRefusal) → told_bytes (taken_told taken) ≡ 0
no_told_bytes (Ok done) = refl
no_told_bytes (Err refusal) = refl

-- the entry has room, with what is owed after it
pub taken_ready : (t : Table) (L : Ledger) (at room : ℕ) (event : Event) (taken : Result (Unit {0}) FloorRefusal) → HasRoom (seen t L.entries).trace L room
    → wants_memory event ≡ false → taken_told taken ≡ (decision t L.entries at event).told → posting L.entries (taken_told taken) ≡ Booked
    → IsReady L.entries room (owed ((decision t L.entries at event).items ++ (seen t L.entries).trace)) event (taken_told taken) 0
taken_ready t L at room event taken has free same booked =
    let less = owed_less (is_idle L.entries) (sight t (seen t L.entries) (counted L.entries) at) event (seen_sound t L.entries) free (subst (λ (x : Told). posting L.entries x ≡ Booked) same booked) in
    record {
      bytes_are = omega (arith, no_event_bytes event free, no_told_bytes taken);
      within = omega (arith, less, has.within);
      fits = omega (arith, less, has.fits);
    }

pub used_for : (L M : Ledger) (room left : ℕ) (x y : Told) → M ≡ L → y ≡ x → room ≤ left + cost (posting M.entries y) → room ≤ left + cost (posting L.entries x)
used_for L M room left x y same told_so used =
    subst (λ (z : Told). room ≤ left + cost (posting L.entries z)) told_so (subst (λ (K : Ledger). room ≤ left + cost (posting K.entries y)) same used)
