-- What the calls of workers, the sweeper and the reaper make of their notes.
use Rattle.std.proofs.Common.{◌≡◌, ◌≤◌, ℕ, Option, Some, None, Result, Ok, Err, IfOk, OnErr, inl, inr, ⊎_elim, refl, subst, arith}
use Rattle.ow_value.specs.declared.memory.NoMemory.{NoMemory as Want}
use Rattle.ow_traits.specs.Runner.{Giving, Idles, RefusesStart, Steady, Tally}
use Rattle.ow_traits.specs.declared.replies.Kind.{Kind}
use Rattle.ow_traits.specs.declared.replies.RunReply.{RunReply}
use Rattle.ow_traits.specs.declared.replies.RunReply.TheVariants.{Answer, Exit, NoStart, Fault}
use Rattle.ow_floor.specs.declared.answers.Order.{Order}
use Rattle.ow_floor.specs.declared.answers.Order.TheVariants as orders
use Rattle.ow_floor.specs.declared.answers.PrewarmOrder.{PrewarmOrder}
use Rattle.ow_floor.specs.declared.answers.RunOrder.{RunOrder}
use Rattle.ow_board.specs.declared.view.View.{View}
use Rattle.ow_desk.specs.Notes.{Notes}
use Rattle.ow_worker.specs.declared.outcome.Job.{Job}
use Rattle.ow_worker.specs.declared.outcome.Turn.{Turn}
use Rattle.ow_worker.specs.declared.outcome.Turn.TheVariants as turns
use Rattle.ow_worker.specs.Reaped.{HasReaped, KeepsBehind}
use Rattle.ow_worker.specs.Turned.{Follows, RunTurn, Turned, WarmTurn}
use Rattle.ow_worker.proofs.Carried.{performs_within}
use Rattle.ow_serve.specs.Working.{BooksOnce, Leads, ReapsOnce, Stand, WorksOnce, to_book}

-- ---- what a turn is with what its runner gives now it is with what that gave at first

module _ (f g : Giving) (a b before now : Tally) (s : Steady f g a b) (le : before.faults ≤ now.faults) (tells : Option ℕ) where
  at_first : Idles f g before before
  at_first = record { steady = record { back = s.back; on = s.on; starts_back = s.starts_back; starts_on = s.starts_on; later = omega arith }; ran = refl }

  at_last : Steady g g before now
  at_last = record { back = λ kind code params reply x. x; on = λ kind code params reply x. x; starts_back = λ kind x. x; starts_on = λ kind x. x; later = le }

  refused_by : (kind : Kind) (reply : RunReply) → RefusesStart g before now kind reply → RefusesStart f before now kind reply
  refused_by kind (NoStart text) x = λ code params. s.back kind code params (NoStart text) (x code params)
  refused_by kind Fault x = x
  refused_by kind (Answer text logs) x = x
  refused_by kind (Exit status logs) x = x

  warm_by : (order : PrewarmOrder) (n m : Notes) (v w : View) (turn : Turn) → WarmTurn g before now tells order n m v w turn → WarmTurn f before now tells order n m v w turn
  warm_by order n m v w turns.Warmed x =
      ⊎_elim (λ y. inl (y.0, s.starts_back order.kind y.1, y.2)) (λ y. inr (y.0, ⊎_elim (λ d. inl ((d.0.0, refused_by order.kind d.0.0 d.0.1), d.1)) (λ d. inr d) y.1)) x
  warm_by order n m v w (turns.NoMemory None) x = x
  warm_by order n m v w (turns.NoMemory (Some job)) x = x
  warm_by order n m v w turns.Ran x = x
  warm_by order n m v w turns.Removed x = x
  warm_by order n m v w (turns.Lost seen) x = x
  warm_by order n m v w turns.Idle x = x
  warm_by order n m v w (turns.StoreFault job) x = x

  module _ (opening : ℕ) where
    run_by : (order : RunOrder) (n m : Notes) (v w : View) (turn : Turn) → RunTurn g before now tells opening order n m v w turn → RunTurn f before now tells opening order n m v w turn
    run_by order n m v w (turns.Lost seen) x = x
    run_by order n m v w (turns.NoMemory None) x = x
    run_by order n m v w turns.Ran x = (x.0, x.1, performs_within tells opening order n m x.0 w turns.Ran at_first at_last x.2)
    run_by order n m v w turns.Removed x = (x.0, x.1, performs_within tells opening order n m x.0 w turns.Removed at_first at_last x.2)
    run_by order n m v w turns.Warmed x = (x.0, x.1, performs_within tells opening order n m x.0 w turns.Warmed at_first at_last x.2)
    run_by order n m v w turns.Idle x = (x.0, x.1, performs_within tells opening order n m x.0 w turns.Idle at_first at_last x.2)
    run_by order n m v w (turns.StoreFault job) x = (x.0, x.1, performs_within tells opening order n m x.0 w (turns.StoreFault job) at_first at_last x.2)
    run_by order n m v w (turns.NoMemory (Some job)) x = (x.0, x.1, performs_within tells opening order n m x.0 w (turns.NoMemory (Some job)) at_first at_last x.2)

    follows_by : (order : Order) (n m : Notes) (v w : View) (turn : Turn) → Follows g before now tells opening order n m v w turn → Follows f before now tells opening order n m v w turn
    follows_by (orders.Run order) n m v w turn x = (run_by order n m v w turn x.0, x.1)
    follows_by (orders.Prewarm order) n m v w turn x = (warm_by order n m v w turn x.0, x.1, x.2)
    follows_by (orders.Remove containers) n m v w turn x = x
    follows_by (orders.Nothing why) n m v w turn x = x

    turned_by : (n m : Notes) (v w : View) (turn : Turn) → Turned g before now tells opening n m v w turn → Turned f before now tells opening n m v w turn
    turned_by n m v w turn x =
        ⊎_elim (λ y. inl y) (λ y. inr (record { order = y.order; taken = y.taken; next = y.next; follows = follows_by y.order y.taken m v w turn y.follows })) x

pub works_by : {f g : Giving} {a b : Tally} {tells : Option ℕ} {opening : ℕ} {old new : Stand} → Steady f g a b → WorksOnce g tells opening old new → WorksOnce f tells opening old new
works_by {f = f} {g = g} {a = a} {b = b} {tells = tells} {opening = opening} {old = old} {new = new} s x = record {
  turn = x.turn;
  behind = x.behind;
  turned = turned_by f g a b old.tally x.behind.tally s x.later tells opening old.notes x.behind.notes old.view x.behind.view x.turn x.turned;
  later = x.later;
  books = x.books;
}

-- ---- one turn

-- a turn, followed by the calls that book the reply that it left
pub works_so : {gives : Giving} {tells : Option ℕ} {opening : ℕ} {old new : Stand} (turn : Turn) (behind : Stand) (left : Option Job) → left ≡ to_book turn
    → Turned gives old.tally behind.tally tells opening old.notes behind.notes old.view behind.view turn → old.tally.faults ≤ behind.tally.faults → Leads (BooksOnce tells) (left, behind) (None, new)
    → WorksOnce gives tells opening old new
works_so {tells = tells} {new = new} turn behind left is turned later books = record {
  turn = turn;
  behind = behind;
  turned = turned;
  later = later;
  books = subst (λ o. Leads (BooksOnce tells) (o, behind) (None, new)) is books;
}

-- ---- one reaping

pub reaps_so : (tells : Option ℕ) (opened : ℕ) (n m : Notes) (v w : View) (size : ℕ) (r : Result ℕ Want) → IfOk r (λ count. HasReaped tells opened n m v w size count)
    → OnErr r ((k : ℕ) × (count : ℕ) × (k ≤ size) × HasReaped tells opened n m v w k count × KeepsBehind k v w) → ReapsOnce tells opened (n, v) (m, w)
reaps_so tells opened n m v w size (Ok count) ok err = (size, count, ok)
reaps_so tells opened n m v w size (Err e) ok err = (err.0, err.1, err.3)
