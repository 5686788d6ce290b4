-- What is posted keeps the hall, and what isn't booked changes nothing.
use Rattle.std.proofs.Common.{◌≡◌, ◌∙◌, ◌≤◌, ◌++◌, ℕ, Bool, true, false, List, [], ◌∷◌, Option, Some, None, Result, Ok, Err, refl, sym, ap, subst, arith}
use Rattle.std.proofs.Math.Nat.{le-max_left, max-le, min-le_right}
use Rattle.ow_traits.specs.declared.replies.RunReply.{RunReply}
use Rattle.ow_pool.specs.declared.answers.Place.{Place}
use Rattle.ow_pool.specs.declared.answers.Place.TheVariants as places
use Rattle.ow_floor.specs.View.{Shown, generation_in, head}
use Rattle.ow_floor.specs.Trace.{Begun, Gone, Item, Lost, Trace, shown, slots}
use Rattle.ow_floor.specs.Calls.{answer_of, begins, due_in, goes, happened, items_if, loses, order_by, order_items, place_on, refused_unless, reply_recorded}
use Rattle.ow_floor.specs.Laws.{Stands}
use Rattle.ow_floor.specs.declared.activations.Open.{Open}
use Rattle.ow_floor.specs.declared.activations.Plan.{Plan}
use Rattle.ow_floor.specs.declared.answers.FloorRefusal.{FloorRefusal}
use Rattle.ow_floor.specs.declared.answers.FloorRefusal.TheVariants as refusals
use Rattle.ow_floor.specs.declared.answers.Swept.{Swept}
use Rattle.ow_records.specs.declared.record.Record.{Record}
use Rattle.ow_http.specs.Request.{parts_of}
use Rattle.ow_http.specs.declared.reason.Reason.{Reason}
use Rattle.ow_tables.specs.Contents.{Change}
use Rattle.ow_decide.specs.declared.events.Event.{Event}
use Rattle.ow_decide.specs.declared.events.Event.TheVariants as events
use Rattle.ow_decide.specs.declared.events.Told.{Told}
use Rattle.ow_decide.specs.declared.events.Told.TheVariants as told
use Rattle.ow_hall.specs.declared.posting.Posting.{Posting}
use Rattle.ow_hall.specs.declared.posting.Posting.TheVariants.{Booked, Quiet, Denied, Unbooked}
use Rattle.ow_decide.specs.declared.replies.Called.TheVariants as called
use Rattle.ow_decide.specs.declared.replies.Deployed.TheVariants as deployments
use Rattle.ow_decide.specs.declared.replies.Fired.TheVariants as fires
use Rattle.ow_decide.specs.declared.step.Now.{Now}
use Rattle.ow_decide.specs.declared.step.Step.{Step}
use Rattle.ow_tenant.specs.Table.{Table}
use Rattle.ow_counts.specs.View.{CountsView, StandsFor, notes_of}
use Rattle.ow_decide.specs.declared.waits.Waits.{Waits}
use Rattle.ow_decide.specs.declared.waits.Waits.TheVariants.{Keep}
use Rattle.ow_decide.specs.Sight.{Sight}
use Rattle.ow_decide.specs.Decision.{Decision, OtherChange, Same, adds, all_changed, held, others_after, tells}
use Rattle.ow_decide.specs.Asking.{Done, Shown as ShownDone, Changed, Fired, Invoked, Quiet as QuietDone, ask_decision, refusal_told, request_done}
use Rattle.ow_decide.specs.Calling.{admitted_plan, call_plan, called_decision}
use Rattle.ow_decide.specs.OfficeFiring.{Shot, fired_told, office_decision, office_shot}
use Rattle.ow_decide.specs.Deploying.{Progress, Refusal, deploy_decision, deployed}
use Rattle.ow_http.specs.Steps.{◌>>=◌}
use Rattle.ow_decide.specs.Decisions.{answered_all, archived_until, decide, is_opening, reply_told, sweep_by, sweep_with, swept_all, swept_told, taken_told, wants_memory}
use Rattle.ow_decide.specs.Opening.{opened_decision, parts_taken}
use Rattle.ow_decide.specs.Waiting.{collected_told, shows_for}
use Rattle.ow_floor.specs.Collecting.{collected}
use Rattle.ow_hall.specs.Posting.{posting_by}
use Rattle.ow_keep.specs.declared.allowed.TheConstants.{GREATEST_MOMENT}
use Rattle.ow_hall.specs.History.{AreAnswered, History, IsLegal, after, answer, counted, decision, is_idle, last_moment, least_moment, moment, opens_here, posting, seen, sight, waits_after}
use Rattle.ow_decide.specs.Given.{IsGivenEvent}
use Rattle.ow_hall.specs.Ledger.{Ledger, posted, posted_as}
use Rattle.ow_decide.specs.Making.{Carries, IsSeen, changes_of, telling}
use Rattle.ow_keep.specs.Judged.{judged}
use Rattle.ow_keep.specs.Split.{Parts}
use Rattle.ow_commits.specs.Kept.{OthersView}
use Rattle.ow_records.specs.declared.ids.Id.{Id}
use Rattle.ow_row_text.specs.declared.item.Note.{Note}
use Rattle.ow_commits.specs.Keeping.{AreIds, KeepingView, StandsForKept}
use Rattle.ow_hall.specs.State.{IsAt, Keeps, KeepsNotes, Makes, NotesMoves, StateView, floor_kept, kept_with, others_kept}
use Rattle.ow_traits.specs.Changes.{changed}
use Rattle.ow_decide.specs.Decision.{commits}
use Rattle.ow_decide.proofs.KeptLaws.{decided_kept}
use Rattle.ow_hall.specs.Comes.{HoldsBook, HoldsRows, KeptRows, kept_after, kept_of}
use Rattle.ow_decide.proofs.MadeLaws.{nothing_answered}
use Rattle.ow_decide.proofs.SoundLaws.{decided_right}
use Rattle.ow_hall.proofs.Archiving.{archived_others, archived_stands}
use Rattle.ow_decide.proofs.ArchiveLaws.{decided_archives}
use Rattle.ow_hall.proofs.KeepLaws.{leaves_commits, step_keeps}
use Rattle.ow_hall.proofs.NoteLaws.{counted_at, noted_at, seen_up_to, unmoved_at}

-- ---- what isn't booked changes nothing

abbrev Leaves : Decision → Type 0
Leaves d = (d.items ≡ []) × (d.changes ≡ []) × (d.waits ≡ Keep) × (d.others ≡ Same)

abbrev Unless : Posting → Type 0 → Type 0
Unless Booked X = Unit {0}
Unless p X = X

abbrev Unbooks : Bool → Decision → Type 0
Unbooks idle d = Unless (posting_by idle d.told) (Leaves d)

unless_any : (p : Posting) (X : Type 0) → X → Unless p X
unless_any Booked X x = tt
unless_any Quiet X x = x
unless_any Denied X x = x
unless_any Unbooked X x = x

tells_so : (idle : Bool) (t : Told) → Unbooks idle (tells t)
tells_so idle t = unless_any (posting_by idle t) (Leaves (tells t)) (refl, refl, refl, refl)

ask_so : (idle : Bool) (d : Result Done Reason) → Unbooks idle (ask_decision d)
ask_so idle (Ok (ShownDone value)) = tt
ask_so idle (Ok (Changed change value)) = tt
ask_so idle (Ok (Invoked items plan shows)) = tt
ask_so idle (Ok QuietDone) = tt
ask_so idle (Ok (Fired items id)) = tt
ask_so idle (Err reason) = tells_so idle (refusal_told reason)

call_so : (idle : Bool) (S : Sight) (p : Result Plan Reason) → Unbooks idle (called_decision S p)
call_so idle S (Ok plan) = tt
call_so idle S (Err reason) = tells_so idle (told.Called (called.Refused reason))

-- a fire of the office is booked, unless it is refused
fired_booked : (idle : Bool) (id : Option Id) (X : Type 0) → Unless (posting_by idle (told.Fired (fired_told id))) X
fired_booked idle None X = tt
fired_booked idle (Some id) X = tt

fire_so : (idle : Bool) (o : OthersView) (note : Note) (r : Result Shot Reason) → Unbooks idle (office_decision o note r)
fire_so idle o note (Ok shot) = fired_booked idle shot.id (Leaves (office_decision o note (Ok shot)))
fire_so idle o note (Err reason) = tells_so idle (told.Fired (fires.Refused reason))

deployed_so : (idle : Bool) (r : Result Progress Refusal) → Unbooks idle (deploy_decision r)
deployed_so idle (Ok p) = tt
deployed_so idle (Err refusal) = tells_so idle (told.Deployed (deployments.Refused refusal.0 refusal.1))

order_so : (idle : Bool) (at : ℕ) (v : Shown) (p : Place) (o : Option Open) → Unbooks idle (adds (told.Next (order_by p o v)) (order_items p o at v))
order_so idle at v (places.Run slot start) None = tells_so idle (told.Next (order_by (places.Run slot start) None v))
order_so idle at v (places.Run slot start) (Some o) = tt
order_so idle at v (places.Prewarm slot kind memory) o = tt
order_so idle at v (places.Remove slots) o = tt
order_so idle at v (places.Nothing reason) o = tells_so idle (told.Next (order_by (places.Nothing reason) o v))

reply_so : (idle : Bool) (S : Sight) (run : ℕ) (reply : RunReply) (o : Option (Option ℕ)) → reply_recorded run S.trace ≡ o
    → Unbooks idle (adds (reply_told run reply (answer_of run o (happened (answered_all S run reply)))) (answered_all S run reply))
reply_so idle S run reply None is = (nothing_answered S run reply is, refl, refl, refl)
reply_so idle S run reply (Some recorded) is = tt

taken_so : (idle b : Bool) (refusal : FloorRefusal) (item : Item) → Unbooks idle (adds (taken_told (refused_unless b refusal)) (items_if b item))
taken_so idle true refusal item = tt
taken_so idle false refusal item = (refl, refl, refl, refl)

-- a sweep is booked, with or without an archive
swept_with : (idle : Bool) (S : Sight) (swept : Swept) (items : Trace) (until : ℕ) (due : List Record) → Unbooks idle (sweep_with S (told.Swept swept) items until due)
swept_with idle S swept items until [] = tt
swept_with idle S swept items until (r ∷ rs) = tt

swept_so : (idle : Bool) (S : Sight) (swept : Swept) (items : Trace) (until : Option ℕ) → Unbooks idle (sweep_by S (told.Swept swept) items until)
swept_so idle S swept items None = tt
swept_so idle S swept items (Some until) = swept_with idle S swept items until (due_in until (items ++ S.trace))

opened_so : (idle : Bool) (at : ℕ) (parts : Option Parts) → Unbooks idle (opened_decision at parts)
opened_so idle at None = tt
opened_so idle at (Some parts) = tt

pub unbooked : (idle : Bool) (S : Sight) (event : Event) → Unbooks idle (decide S event)
unbooked idle S (events.Opened rows) = opened_so idle S.moment (parts_taken S.moment S.trace (judged rows))
unbooked idle S (events.Asked r) = ask_so idle (request_done S (parts_of r))
unbooked idle S (events.Called name params) = call_so idle S (call_plan S name params >>= admitted_plan S)
unbooked idle S (events.Fired trigger params note) = fire_so idle S.others note (office_shot S trigger params note)
unbooked idle S (events.Deployed drafts) = deployed_so idle (deployed S drafts)
unbooked idle S events.Next = order_so idle S.moment (shown S.trace) (place_on (shown S.trace)) (head (shown S.trace))
unbooked idle S (events.Begun run) = taken_so idle (begins run S.trace) (refusals.NoRun run) (Begun run S.moment)
unbooked idle S (events.Lost run) = taken_so idle (loses run S.trace) (refusals.NoRun run) (Lost run S.moment)
unbooked idle S (events.Gone slot generation) = taken_so idle (goes slot generation S.trace) (refusals.NoSlot slot (generation_in slot (slots S.trace))) (Gone slot generation S.moment)
unbooked idle S events.Sweep = swept_so idle S (swept_told (swept_all S)) (swept_all S) (archived_until S.tenants.retain S.moment)
unbooked idle S (events.Answered run reply) = reply_so idle S run reply (reply_recorded run S.trace) refl
unbooked idle S (events.Collected id) = tells_so idle (told.Collected (collected_told id (shows_for S.waits id) (collected S.moment id S.trace)))
unbooked idle S events.Drain = tt
unbooked idle S events.Reopened = tt

-- ---- moments

pub not_before : (B : History) (at : ℕ) → last_moment B ≤ moment B at
not_before B at = le-max_left _ _

newest_small : (t : Table) (B : History) → AreAnswered t B → last_moment B ≤ GREATEST_MOMENT
newest_small t [] answered = omega arith
newest_small t (e ∷ B) answered = answered.3

pub not_after : (t : Table) (B : History) (at : ℕ) → IsLegal t B → moment B at ≤ GREATEST_MOMENT
not_after t B at legal = max-le (newest_small t B legal.answered) (min-le_right at GREATEST_MOMENT)

-- ---- what is posted keeps the hall

opens_so : (event : Event) (B : History) (b : Bool) → is_opening event ≡ false → opens_here event B b ≡ b
opens_so (events.Opened rows) B b later = cc
opens_so (events.Asked r) B b later = refl
opens_so (events.Called name params) B b later = refl
opens_so (events.Fired trigger params note) B b later = refl
opens_so (events.Deployed drafts) B b later = refl
opens_so events.Next B b later = refl
opens_so (events.Begun run) B b later = refl
opens_so (events.Answered run reply) B b later = refl
opens_so (events.Lost run) B b later = refl
opens_so (events.Gone slot generation) B b later = refl
opens_so events.Sweep B b later = refl
opens_so (events.Collected id) B b later = refl
opens_so events.Drain B b later = refl
opens_so events.Reopened B b later = refl

-- any other event comes at any moment
least_later : (event : Event) (at : ℕ) → is_opening event ≡ false → least_moment event ≤ at
least_later (events.Opened rows) at later = cc
least_later (events.Asked r) at later = omega arith
least_later (events.Called name params) at later = omega arith
least_later (events.Fired trigger params note) at later = omega arith
least_later (events.Deployed drafts) at later = omega arith
least_later events.Next at later = omega arith
least_later (events.Begun run) at later = omega arith
least_later (events.Answered run reply) at later = omega arith
least_later (events.Lost run) at later = omega arith
least_later (events.Gone slot generation) at later = omega arith
least_later events.Sweep at later = omega arith
least_later (events.Collected id) at later = omega arith
least_later events.Drain at later = omega arith
least_later events.Reopened at later = omega arith

-- an opening takes memory
pub later_free : (event : Event) → wants_memory event ≡ false → is_opening event ≡ false
later_free (events.Opened rows) free = cc
later_free (events.Asked r) free = refl
later_free (events.Called name params) free = refl
later_free (events.Fired trigger params note) free = cc
later_free (events.Deployed drafts) free = cc
later_free events.Next free = refl
later_free (events.Begun run) free = refl
later_free (events.Answered run reply) free = refl
later_free (events.Lost run) free = refl
later_free (events.Gone slot generation) free = refl
later_free events.Sweep free = refl
later_free (events.Collected id) free = refl
later_free events.Drain free = refl
later_free events.Reopened free = refl

-- an event that takes no memory is no deployment, and no fire of the office
free_given : (event : Event) → wants_memory event ≡ false → IsGivenEvent event
free_given (events.Deployed drafts) free = cc
free_given (events.Fired trigger params note) free = cc
free_given event free = tt

legal_by : (p : Posting) (t : Table) (L : Ledger) (at : ℕ) (event : Event) (told_is : Told) → posting L.entries told_is ≡ p → IsLegal t L.entries
    → last_moment L.entries ≤ at → at ≤ GREATEST_MOMENT → is_opening event ≡ false → IsGivenEvent event → told_is ≡ answer t L.entries at event
    → IsLegal t (posted_as p (record { at = at; event = event; answer = told_is }) L).entries
legal_by Booked t L at event told_is booked legal late most later given same = record {
  answered = (same, booked, late, most, least_later event at later, legal.answered);
  opened = opens_so event L.entries _ later ∙ legal.opened;
  given = (given, legal.given);
}
legal_by Quiet t L at event told_is booked legal late most later given same = legal
legal_by Denied t L at event told_is booked legal late most later given same = legal
legal_by Unbooked t L at event told_is booked legal late most later given same = legal

-- a legal book stays legal where the answer to an event is posted
pub posted_legal : (t : Table) (L : Ledger) (at : ℕ) (event : Event) (told_is : Told) → IsLegal t L.entries → last_moment L.entries ≤ at → at ≤ GREATEST_MOMENT → is_opening event ≡ false
    → IsGivenEvent event → told_is ≡ answer t L.entries at event → IsLegal t (posted L at event told_is).entries
posted_legal t L at event told_is legal late most later given same = legal_by (posting L.entries told_is) t L at event told_is refl legal late most later given same

left : (t : Table) (L : Ledger) (new : StateView) (at : ℕ) (event : Event) → IsAt new (after (decision t L.entries at event) (seen t L.entries))
    → Leaves (decision t L.entries at event) → IsAt new (seen t L.entries)
left t L new at event stands leaves =
    let s = seen t L.entries in
    record {
      keeping = subst (λ (o : OtherChange). StandsForKept new.keeping (others_after o s.others) s.rows s.trace) leaves.3
          (subst (λ (cs : List Change). StandsForKept new.keeping (others_after (decision t L.entries at event).others s.others) (all_changed cs s.rows) s.trace) leaves.1
          (subst (λ (T : Trace). StandsForKept new.keeping (others_after (decision t L.entries at event).others s.others) (all_changed (decision t L.entries at event).changes s.rows) (T ++ s.trace)) leaves.0
          stands.keeping));
      others = subst (λ (o : OtherChange). new.others ≡ others_after o s.others) leaves.3 stands.others;
      counts = subst (λ (T : Trace). StandsFor new.counts (notes_of (T ++ s.trace))) leaves.0 stands.counts;
      stands = subst (λ (T : Trace). Stands new.floor.now (T ++ s.trace)) leaves.0 stands.stands;
      rows = subst (λ (cs : List Change). new.rows ≡ all_changed cs s.rows) leaves.1 stands.rows;
      waits = subst (λ (w : Waits). new.waits ≡ waits_after w s.waits) leaves.2 stands.waits;
    }

stands_by : (p : Posting) (t : Table) (L : Ledger) (new : StateView) (at : ℕ) (event : Event) (told_is : Told) → IsAt new (after (decision t L.entries at event) (seen t L.entries))
    → Unless p (Leaves (decision t L.entries at event))
    → IsAt new (seen t (posted_as p (record { at = at; event = event; answer = told_is }) L).entries)
stands_by Booked t L new at event told_is stands leaves = stands
stands_by Quiet t L new at event told_is stands leaves = left t L new at event stands leaves
stands_by Denied t L new at event told_is stands leaves = left t L new at event stands leaves
stands_by Unbooked t L new at event told_is stands leaves = left t L new at event stands leaves

-- what a step has that was done, with all that is committed of it, and what the floor has then: all but an archive
abbrev pub HasDone : Table → History → ℕ → Event → Shown → Step → Type 0
HasDone t B at event mid step =
    let d = decision t B at event in
    Carries step d (sight t (seen t B) (counted B) at) × Stands mid (held d ++ (seen t B).trace)

pub is_seen : (t : Table) (B : History) (old : StateView) (now : Now) → AreAnswered t B → last_moment B ≤ now.at → IsAt old (seen t B) → now.counted ≡ counted B
    → IsSeen (sight t (seen t B) (counted B) now.at) t old.rows old.counts old.keeping old.floor.now now
is_seen t B old now answered late stands count = record {
  tenants = refl;
  rows = sym stands.rows;
  counts = counted_at t B now.at old answered late stands;
  keeping = stands.keeping;
  stands = stands.stands;
  counted = sym count;
  moment = refl;
}

pub step_at : (t : Table) (B : History) (old : StateView) (mid : Shown) (now : Now) (event : Event) (step : Step) → AreAnswered t B → last_moment B ≤ now.at → IsAt old (seen t B)
    → now.counted ≡ counted B → Makes old mid t now (λ S. decide S event) step → HasDone t B now.at event mid step
step_at t B old mid now event step answered late stands count does =
    does (sight t (seen t B) (counted B) now.at) (is_seen t B old now answered late stands count) (sym stands.waits) (sym stands.others)

-- the counts agree with what happened then, where it is noted
abbrev pub CountsAfter : Table → History → ℕ → Event → StateView → Type 0
CountsAfter t B at event new = StandsFor new.counts (notes_of ((decision t B at event).items ++ (seen t B).trace))

-- floor, rows, waits and counts agree with what is seen once the step's change is made, its commit is kept, and what is due is archived or a note is kept
at_after : (t : Table) (B : History) (old new : StateView) (mid : Shown) (at : ℕ) (event : Event) (step : Step) → IsAt old (seen t B)
    → is_opening event ≡ false → HasDone t B at event mid step
    → new.floor.now ≡ floor_kept step.others mid → new.rows ≡ all_changed (changes_of step.change) old.rows → new.waits ≡ waits_after step.waits old.waits → CountsAfter t B at event new
    → new.keeping ≡ kept_with step.commit old.keeping → new.others ≡ others_kept step.others old.others → IsAt new (after (decision t B at event) (seen t B))
at_after t B old new mid at event step stands later done floor rows waits counts kept others =
    let s = seen t B in
    let S = sight t s (counted B) at in
    let d = decide S event in
    record {
      keeping = subst (λ (v : KeepingView). StandsForKept v (others_after d.others s.others) (all_changed d.changes s.rows) (d.items ++ s.trace)) (sym kept)
          (step_keeps step.commit step.others d old.keeping S stands.stands.sound stands.keeping (decided_right S event stands.stands.sound) done.0.commit done.0.others);
      stands = rw floor (archived_stands step.others step.commit d S mid done.0.others (decided_archives S event later) done.1);
      others = others ∙ (ap (others_kept step.others) stands.others ∙ archived_others step.others step.commit d S done.0.others);
      rows = rows ∙ (ap (λ (rs : _). all_changed (changes_of step.change) rs) stands.rows ∙ ap (λ (cs : List Change). all_changed cs s.rows) done.0.changes);
      waits = waits ∙ (ap (waits_after step.waits) stands.waits ∙ ap (λ (w : Waits). waits_after w s.waits) done.0.waits);
      counts = counts;
    }

-- the ids of what has happened then
abbrev pub AreIdsAfter : Table → Ledger → ℕ → Event → Type 0
AreIdsAfter t L at event = AreIds ((decision t L.entries at event).items ++ (seen t L.entries).trace)

-- an answer that is posted
pub answers : (t : Table) (L : Ledger) (old new : StateView) (mid : Shown) (at : ℕ) (event : Event) (step : Step) → Keeps old t L
    → last_moment L.entries ≤ at → at ≤ GREATEST_MOMENT → is_opening event ≡ false → IsGivenEvent event → new.floor.before ≡ None
    → HasDone t L.entries at event mid step
    → new.floor.now ≡ floor_kept step.others mid → new.rows ≡ all_changed (changes_of step.change) old.rows → new.waits ≡ waits_after step.waits old.waits → CountsAfter t L.entries at event new
    → new.keeping ≡ kept_with step.commit old.keeping → new.others ≡ others_kept step.others old.others
    → (step.told ≡ answer t L.entries at event) × Keeps new t (posted L at event step.told) × AreIdsAfter t L at event
answers t L old new mid at event step keeps late most later given free done floor rows waits counts kept others =
    let stands = at_after t L.entries old new mid at event step keeps.stands later done floor rows waits counts kept others in
    let un = unbooked (is_idle L.entries) (sight t (seen t L.entries) (counted L.entries) at) event in
    let un' = subst (λ (x : Told). Unless (posting_by (is_idle L.entries) x) (Leaves (decision t L.entries at event))) (sym done.0.told) un in (
      done.0.told,
      record {
        stands = stands_by (posting L.entries step.told) t L new at event step.told stands un';
        legal = posted_legal t L at event step.told keeps.legal late most later given done.0.told;
        free = free;
      },
      stands.keeping.ids,
    )

-- a step that was done, settled and made, and then noted: `mid` is the state after the step, `put` after the changes
pub noted : (t : Table) (L : Ledger) (old mid put new : StateView) (now : Now) (event : Event) (step : Step) → Keeps old t L
    → is_opening event ≡ false → last_moment L.entries ≤ now.at → HasDone t L.entries now.at event mid.floor.now step
    → KeepsNotes old.counts mid.counts → put.counts ≡ mid.counts → NotesMoves step.moves put.counts new.counts → CountsAfter t L.entries now.at event new
noted t L old mid put new now event step keeps later late done kept counts notes =
    let S = sight t (seen t L.entries) (counted L.entries) now.at in
    let T = (seen t L.entries).trace in
    let there : StandsFor put.counts (notes_of T) = subst (λ (v : CountsView). StandsFor v (notes_of T)) (sym counts) (kept (notes_of T) keeps.stands.counts) in
    noted_at S event step.moves put.counts new.counts later keeps.stands.stands.sound done.0.moves (seen_up_to t L.entries now.at keeps.legal.answered late) there notes

-- a beginning, a loss or a going that is posted
pub takes : (t : Table) (L : Ledger) (old new : StateView) (now : Now) (event : Event) (taken : Result (Unit {0}) FloorRefusal) (at : ℕ) → Keeps old t L → now.counted ≡ counted L.entries
    → now.at ≡ moment L.entries at → wants_memory event ≡ false → new.floor.before ≡ None → Makes old new.floor.now t now (λ S. decide S event) (telling (taken_told taken))
    → (new.rows ≡ old.rows) × (new.waits ≡ old.waits) → new.counts ≡ old.counts → new.keeping ≡ old.keeping → new.others ≡ old.others
    → (taken_told taken ≡ answer t L.entries now.at event) × Keeps new t (posted L now.at event (taken_told taken)) × AreIdsAfter t L now.at event
takes t L old new now event taken at keeps count same free before makes rest counts keeping others =
    let late = subst (λ (m : ℕ). last_moment L.entries ≤ m) (sym same) (not_before L.entries at) in
    let most = subst (λ (m : ℕ). m ≤ GREATEST_MOMENT) (sym same) (not_after t L.entries at keeps.legal) in
    let step = telling (taken_told taken) in
    let done = step_at t L.entries old new.floor.now now event step keeps.legal.answered late keeps.stands count makes in
    let quiet = unmoved_at (decision t L.entries now.at event).items (seen t L.entries).trace old.counts new.counts done.0.moves counts keeps.stands.counts in
    answers t L old new new.floor.now now.at event step keeps late most (later_free event free) (free_given event free) before done refl rest.0 rest.1 quiet keeping others

-- what was taken back is as before
pub stays : (old new : StateView) (t : Table) (L : Ledger) → new.floor.now ≡ old.floor.now → new.floor.before ≡ None → new.rows ≡ old.rows → new.waits ≡ old.waits
    → KeepsNotes old.counts new.counts → new.keeping ≡ old.keeping → new.others ≡ old.others → Keeps old t L → Keeps new t L
stays old new t L floor free rows waits counts kept others keeps = record {
  stands = record {
    stands = rw floor keeps.stands.stands;
    rows = rows ∙ keeps.stands.rows;
    waits = waits ∙ keeps.stands.waits;
    counts = counts (notes_of (seen t L.entries).trace) keeps.stands.counts;
    keeping = subst (λ (v : KeepingView). StandsForKept v (seen t L.entries).others (seen t L.entries).rows (seen t L.entries).trace) (sym kept) keeps.stands.keeping;
    others = others ∙ keeps.stands.others;
  };
  legal = keeps.legal;
  free = free;
}

-- ---- what the store holds

-- an answer that is booked: with what it commits the store holds what is kept then
booked_holds : (told : KeptRows) (t : Table) (L : Ledger) (old : StateView) (at : ℕ) (event : Event) → is_opening event ≡ false → Keeps old t L → AreIdsAfter t L at event → HoldsBook told t L
    → HoldsRows (kept_after (commits (decision t L.entries at event)) told) (kept_of (after (decision t L.entries at event) (seen t L.entries)))
booked_holds None t L old at event later keeps ids holds = tt
booked_holds (Some rows) t L old at event later keeps ids holds =
    let S = sight t (seen t L.entries) (counted L.entries) at in
    ap (changed (commits (decide S event))) holds ∙ decided_kept S event later keeps.stands.stands.sound keeps.stands.keeping.ids ids

unbooked_holds : (told : KeptRows) (t : Table) (L : Ledger) (d : Decision) → Leaves d → HoldsBook told t L → HoldsBook (kept_after (commits d) told) t L
unbooked_holds None t L d leaves holds = tt
unbooked_holds (Some rows) t L d leaves holds = ap (λ cs. changed cs rows) (leaves_commits d leaves.0 leaves.1 leaves.3) ∙ holds

held_by : (p : Posting) (old_rows : KeptRows) (t : Table) (L : Ledger) (old : StateView) (at : ℕ) (event : Event) (told_is : Told) → is_opening event ≡ false → Keeps old t L → AreIdsAfter t L at event
    → Unless p (Leaves (decision t L.entries at event)) → HoldsBook old_rows t L
    → HoldsBook (kept_after (commits (decision t L.entries at event)) old_rows) t (posted_as p (record { at = at; event = event; answer = told_is }) L)
held_by Booked old_rows t L old at event told_is later keeps ids leaves holds = booked_holds old_rows t L old at event later keeps ids holds
held_by Quiet old_rows t L old at event told_is later keeps ids leaves holds = unbooked_holds old_rows t L (decision t L.entries at event) leaves holds
held_by Denied old_rows t L old at event told_is later keeps ids leaves holds = unbooked_holds old_rows t L (decision t L.entries at event) leaves holds
held_by Unbooked old_rows t L old at event told_is later keeps ids leaves holds = unbooked_holds old_rows t L (decision t L.entries at event) leaves holds

-- after an answer the store holds what is kept of the book, where it holds what the answer commits
pub held_posted : (old_rows new_rows : KeptRows) (t : Table) (L : Ledger) (old : StateView) (at : ℕ) (event : Event) (told_is : Told) → is_opening event ≡ false → Keeps old t L → AreIdsAfter t L at event
    → told_is ≡ answer t L.entries at event → new_rows ≡ kept_after (commits (decision t L.entries at event)) old_rows → HoldsBook old_rows t L
    → HoldsBook new_rows t (posted L at event told_is)
held_posted old_rows new_rows t L old at event told_is later keeps ids same made holds =
    let un = unbooked (is_idle L.entries) (sight t (seen t L.entries) (counted L.entries) at) event in
    let un' = subst (λ (x : Told). Unless (posting_by (is_idle L.entries) x) (Leaves (decision t L.entries at event))) (sym same) un in
    subst (λ (rows : KeptRows). HoldsBook rows t (posted L at event told_is)) (sym made) (held_by (posting L.entries told_is) old_rows t L old at event told_is later keeps ids un' holds)
