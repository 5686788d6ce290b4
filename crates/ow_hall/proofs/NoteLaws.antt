-- What is noted for the limits counts what happened.
use Rattle.std.proofs.Common.{◌≡◌, ◌≤◌, ◌++◌, ℕ, List, [], ◌∷◌, false, sym, subst, arith}
use Rattle.std.specs.List.{AllByRecursion}
use Rattle.ow_records.specs.declared.activations.Activation.{Activation}
use Rattle.ow_records.specs.declared.record.Record.{Record}
use Rattle.ow_floor.specs.Calls.{moved}
use Rattle.ow_floor.specs.Laws.{IsSound}
use Rattle.ow_floor.specs.declared.moves.Moved.{Moved}
use Rattle.ow_floor.specs.Trace.{Trace, accepted, fired}
use Rattle.ow_tenant.specs.Notes as notes
use Rattle.ow_tenant.specs.Table.{Table}
use Rattle.ow_counts.specs.View.{AreUpTo, CountsView, MayAllMove, StandsFor, noted_moves, notes_of}
use Rattle.ow_counts.proofs.Moving.{may_items, noted_items}
use Rattle.ow_decide.specs.Decisions.{decide, is_opening}
use Rattle.ow_decide.specs.Making.{AreCounted}
use Rattle.ow_decide.specs.Sight.{Sight}
use Rattle.ow_decide.specs.declared.events.Event.{Event}
use Rattle.ow_decide.proofs.SoundLaws.{decided_right}
use Rattle.ow_decide.proofs.NotedLaws.{decided_noted, decided_up_to}
use Rattle.ow_hall.specs.History.{AreAnswered, History, counted, last_moment, seen, sight}
use Rattle.ow_hall.specs.State.{IsAt, NotesMoves, StateView}

-- ---- moments

more : (m n : ℕ) (xs : List Activation) → m ≤ n → AllByRecursion (λ a. a.at ≤ m) xs → AllByRecursion (λ a. a.at ≤ n) xs
more m n [] le all = tt
more m n (a ∷ xs) le all = (omega (arith, all.0, le), more m n xs le all.1)

more_fired : (m n : ℕ) (rs : List Record) → m ≤ n → AllByRecursion (λ r. r.span.start ≤ m) rs → AllByRecursion (λ r. r.span.start ≤ n) rs
more_fired m n [] le all = tt
more_fired m n (r ∷ rs) le all = (omega (arith, all.0, le), more_fired m n rs le all.1)

-- what was accepted up to a moment was so up to a later one
up_to_later : (m n : ℕ) (T : Trace) → m ≤ n → AreUpTo m T → AreUpTo n T
up_to_later m n T le all = (more m n (accepted T) le all.0, more_fired m n (fired T) le all.1)

-- by a legal book nothing was accepted or fired after its last moment
pub legal_up_to : (t : Table) (B : History) → AreAnswered t B → AreUpTo (last_moment B) (seen t B).trace
legal_up_to t [] answered = (tt, tt)
legal_up_to t (e ∷ B) answered =
    decided_up_to (sight t (seen t B) (counted B) e.at) e.event (up_to_later (last_moment B) e.at (seen t B).trace answered.2 (legal_up_to t B answered.5))

-- nor after a moment that may be booked
pub seen_up_to : (t : Table) (B : History) (at : ℕ) → AreAnswered t B → last_moment B ≤ at → AreUpTo at (seen t B).trace
seen_up_to t B at answered late = up_to_later (last_moment B) at (seen t B).trace late (legal_up_to t B answered)

pub counted_at : (t : Table) (B : History) (at : ℕ) (w : StateView) → AreAnswered t B → last_moment B ≤ at → IsAt w (seen t B) → AreCounted w.counts at (seen t B).trace
counted_at t B at w answered late stands = record { stands = stands.counts; up_to = seen_up_to t B at answered late }

-- ---- notes

-- where all that moved is noted, the counts agree with the trace
pub noted_at : (S : Sight) (event : Event) (ms : List Moved) (k l : CountsView) → is_opening event ≡ false → IsSound S.trace → ms ≡ moved (decide S event).items
    → AreUpTo S.moment S.trace → StandsFor k (notes_of S.trace) → NotesMoves ms k l → StandsFor l (notes_of ((decide S event).items ++ S.trace))
noted_at S event ms k l later sound same up_to counts noted =
    let items = (decide S event).items in
    let may = may_items S.moment items S.trace sound (decided_right S event sound) up_to (decided_noted S event later) in
    let there = noted (notes_of S.trace) (subst (λ (xs : List Moved). MayAllMove xs (notes_of S.trace)) (sym same) may) counts in
    subst (λ (ns : notes.Notes). StandsFor l ns) (sym (noted_items items S.trace)) (subst (λ (xs : List Moved). StandsFor l (noted_moves xs (notes_of S.trace))) same there)

-- where nothing moved nothing is to be noted
pub unmoved_at : (items T : Trace) (k l : CountsView) → [] ≡ moved items → l ≡ k → StandsFor k (notes_of T) → StandsFor l (notes_of (items ++ T))
unmoved_at items T k l none same counts =
    subst (λ (ns : notes.Notes). StandsFor l ns) (sym (noted_items items T))
    (subst (λ (ms : List Moved). StandsFor l (noted_moves ms (notes_of T))) none (subst (λ (v : CountsView). StandsFor v (notes_of T)) (sym same) counts))
