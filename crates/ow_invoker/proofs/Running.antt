-- What a runner's earlier and later calls keep of a reply.
use Rattle.std.proofs.Common.{◌∙◌, ◌≤◌, ℕ, ap, refl, List, ⊎_elim, arith}
use Rattle.std.proofs.lemmas.Bool.{cases_lt}
use Rattle.ow_value.specs.Value.{Pairs}
use Rattle.ow_traits.specs.Runner.{Giving, Idles, RanNone, RanOnce, RefusesCode, RefusesStart, Replies, Runs, Steady, Tally, counted}
use Rattle.ow_traits.specs.Streams.{Rose}
use Rattle.ow_traits.specs.declared.replies.Kind.{Kind}
use Rattle.ow_traits.specs.declared.replies.RunReply.{RunReply}
use Rattle.ow_traits.specs.declared.replies.RunReply.TheVariants.{Answer, Exit, NoStart, Fault}
use Rattle.ow_slots.specs.declared.keys.Start.{Start}
use Rattle.ow_slots.specs.declared.keys.Start.TheVariants as starts
use Rattle.ow_floor.specs.declared.answers.RunOrder.{RunOrder}
use Rattle.ow_invoker.specs.Turns.{IsStarted, StartsBy}

pub steady_trans : {f g h : Giving} {a b c : Tally} → Steady f g a b → Steady g h b c → Steady f h a c
steady_trans s t = record {
  back = λ kind code params reply x. s.back kind code params reply (t.back kind code params reply x);
  on = λ kind code params reply x. t.on kind code params reply (s.on kind code params reply x);
  starts_back = λ kind x. s.starts_back kind (t.starts_back kind x);
  starts_on = λ kind x. t.starts_on kind (s.starts_on kind x);
  later = let x = s.later in let y = t.later in omega arith;
}

-- ---- runs

pub none_behind : (a b c : Tally) → RanNone a b → RanNone b c → RanNone a c
none_behind a b c first then' = then' ∙ first

pub once_behind : (a b c : Tally) → RanNone a b → RanOnce b c → RanOnce a c
once_behind a b c none once = once ∙ ap (λ n. counted n) none

once_before : (a b c : Tally) → RanOnce a b → RanNone b c → RanOnce a c
once_before a b c once none = none ∙ once

pub idles_trans : {f g h : Giving} {a b c : Tally} → Idles f g a b → Idles g h b c → Idles f h a c
idles_trans {a = a} {b = b} {c = c} s t = record { steady = steady_trans s.steady t.steady; ran = none_behind a b c s.ran t.ran }

pub runs_idles : {f g h : Giving} {a b c : Tally} → Runs f g a b → Idles g h b c → Runs f h a c
runs_idles {a = a} {b = b} {c = c} s t = record { steady = steady_trans s.steady t.steady; ran = once_before a b c s.ran t.ran }

-- ---- replies

rose_within : (a b c d : ℕ) → a ≤ b → b ≤ c → c ≤ d → Rose b c → Rose a d
rose_within a b c d x y z h lt = ⊎_elim (λ u. let v = h u in omega arith) (λ u. omega arith) (cases_lt b 18446744073709551615)

-- a reply of one call is one of all the calls around it
pub replied_within : {f g h : Giving} {a b c : Tally} (d : Tally) (kind : Kind) (code : List ℕ) (params : Pairs) (reply : RunReply)
    → Steady f g a b → Steady g h b c → c.faults ≤ d.faults → Replies g b c kind code params reply → Replies f a d kind code params reply
replied_within d kind code params (Answer text logs) s t le x = s.back kind code params (Answer text logs) x
replied_within d kind code params (Exit status logs) s t le x = s.back kind code params (Exit status logs) x
replied_within d kind code params (NoStart text) s t le x = s.back kind code params (NoStart text) x
replied_within {a = a} {b = b} {c = c} d kind code params Fault s t le x = rose_within a.faults b.faults c.faults d.faults s.later t.later le x

-- a reply instead of a start is a reply to each code
pub down_replied : (f : Giving) (a b : Tally) (kind : Kind) (code : List ℕ) (params : Pairs) (reply : RunReply)
    → RefusesStart f a b kind reply → Replies f a b kind code params reply
down_replied f a b kind code params (NoStart text) x = x code params
down_replied f a b kind code params Fault x = x
down_replied f a b kind code params (Answer text logs) x = absurd x
down_replied f a b kind code params (Exit status logs) x = absurd x

pub steady_refl : (f : Giving) (a : Tally) → Steady f f a a
steady_refl f a = record { back = λ kind code params reply x. x; on = λ kind code params reply x. x; starts_back = λ kind x. x; starts_on = λ kind x. x; later = omega arith }

pub idles_refl : (f : Giving) (a : Tally) → Idles f f a a
idles_refl f a = record { steady = steady_refl f a; ran = refl }

-- a reply between the tallies `a` and `b` is also one between `a` and `c`, where `c` has no fewer faults than `b`
pub replied_on : {g h : Giving} {a b : Tally} (c : Tally) (kind : Kind) (code : List ℕ) (params : Pairs) (reply : RunReply)
    → Steady g h a b → b.faults ≤ c.faults → Replies g a b kind code params reply → Replies g a c kind code params reply
replied_on {g = g} {a = a} c kind code params reply s le x = replied_within c kind code params reply (steady_refl g a) s le x

-- and with those before it
pub replied_from : {f g h : Giving} {a b c : Tally} (kind : Kind) (code : List ℕ) (params : Pairs) (reply : RunReply)
    → Steady f g a b → Steady g h b c → Replies g b c kind code params reply → Replies f a c kind code params reply
replied_from {c = c} kind code params reply s t x = replied_within c kind code params reply s t (omega arith) x

-- so too where the code is refused
pub refused_on : {g h : Giving} {a b : Tally} (c : Tally) (kind : Kind) (code : List ℕ) (reply : RunReply)
    → Steady g h a b → b.faults ≤ c.faults → RefusesCode g a b kind code reply → RefusesCode g a c kind code reply
refused_on c kind code reply s le x = (x.0, λ params. replied_on c kind code params reply s le (x.1 params))

pub refused_from : {f g h : Giving} {a b c : Tally} (kind : Kind) (code : List ℕ) (reply : RunReply)
    → Steady f g a b → Steady g h b c → RefusesCode g b c kind code reply → RefusesCode f a c kind code reply
refused_from kind code reply s t x = (x.0, λ params. replied_from kind code params reply s t (x.1 params))

-- ---- kinds of containers that come up

-- what the runner starts it started before
started_by : (start : Start) (f g : Giving) (a b : Tally) (kind : Kind) → Steady f g a b → StartsBy start g kind → StartsBy start f kind
started_by starts.Cold f g a b kind s k = s.starts_back kind k
started_by starts.Prewarmed f g a b kind s k = tt
started_by starts.Warm f g a b kind s k = tt

pub started_from : (f g h : Giving) (a b c : Tally) (order : RunOrder) → Steady f g a b → Steady g h b c → IsStarted g order → IsStarted f order
started_from f g h a b c order s t k = started_by order.start f g a b order.kind s k

-- and what it started it still does
pub still_started : (start : Start) (f g : Giving) (a b : Tally) (kind : Kind) → Steady f g a b → StartsBy start f kind → StartsBy start g kind
still_started starts.Cold f g a b kind s k = s.starts_on kind k
still_started starts.Prewarmed f g a b kind s k = tt
still_started starts.Warm f g a b kind s k = tt
