-- Statements that are printed one after another are read as a day of them.
use Rattle.std.proofs.Common.{◌≡◌, ℕ, ◌+◌, ◌-◌, ◌<◌, ◌≤◌, false, List, [], ◌∷◌, ◌++◌, length, codes, refl, ap, ◌∙◌, arith, append_assoc, length-append}
use Rattle.std.specs.List.{All}
use Rattle.std.proofs.lemmas.Bool.{le-ltb}
use Rattle.std.proofs.lemmas.List.{take_all}
use Rattle.std.proofs.lemmas.List.Elements.{All-head, All-tail}
use Rattle.ow_day.specs.Limits.{most_bytes}
use Rattle.ow_day.specs.Statement.{Statement, At, Call, Ask, Next, Begun, Answer, Logged, Exit, NoStart, Fault, Lost, Gone, Sweep, Turn, Collect, Drain, Reopen, End}
use Rattle.ow_day.specs.Day.{Day, Finished, day_from, day_step, going_on, has_more, window}
use Rattle.ow_day.specs.Printed.{DayIsReadBack, IsPrintable, before_end, printed, printed_day}
use Rattle.ow_day.proofs.Days.{at_no_bytes, by_first}
use Rattle.ow_day.proofs.Printing.{read_back}

abbrev day_with : List Statement → Day
day_with ss = record { statements = before_end ss; ending = Finished }

one_more : (s : Statement) (ss : List Statement) → going_on s (day_with ss) ≡ day_with (s ∷ ss)
one_more (At moment) ss = refl
one_more (Call name text) ss = refl
one_more (Ask request) ss = refl
one_more Next ss = refl
one_more (Begun run) ss = refl
one_more (Answer run text) ss = refl
one_more (Logged run text logs) ss = refl
one_more (Exit run code) ss = refl
one_more (NoStart run text) ss = refl
one_more (Fault run) ss = refl
one_more (Lost run) ss = refl
one_more (Gone slot generation) ss = refl
one_more Sweep ss = refl
one_more (Collect id) ss = refl
one_more Turn ss = refl
one_more Drain ss = refl
one_more Reopen ss = refl
one_more End ss = refl

from_here : (count n : ℕ) (ss : List Statement) → All IsPrintable ss → length (printed_day ss) < count → day_from count false n (printed_day ss) ≡ day_with ss
from_here count n [] can enough = at_no_bytes count false n [] enough refl
from_here count n (s ∷ ss) can enough =
    let together : printed_day (s ∷ ss) ≡ printed s ++ 10 ∷ printed_day ss = append_assoc (printed s) (codes "\n") (printed_day ss) in
    let size : length (printed s ++ 10 ∷ printed_day ss) ≡ length (printed s) + (1 + length (printed_day ss)) = omega (arith, length-append (printed s) (10 ∷ printed_day ss)) in
    let enough' : length (printed s ++ 10 ∷ printed_day ss) < count = rw together at enough in
    let back = read_back s (All-head IsPrintable s ss can) in
    ap (day_from count false n) together
    ∙ by_first count false n (printed s ++ 10 ∷ printed_day ss) enough' (omega arith)
    ∙ ap (λ f. day_step n f (λ rest. day_from (count - 1) false (n + 1) rest)) (back.first false (printed_day ss))
    ∙ ap (going_on s) (from_here (count - 1) (n + 1) ss (All-tail IsPrintable s ss can) (omega arith))
    ∙ one_more s ss

pub day_read_back : (ss : List Statement) → All IsPrintable ss → length (printed_day ss) ≤ most_bytes → DayIsReadBack ss
unfolding window has_more
day_read_back ss can fits =
    rw (take_all most_bytes (printed_day ss) fits, le-ltb most_bytes (length (printed_day ss)) fits)
    (from_here (length (printed_day ss) + 1) 1 ss can (omega arith))
