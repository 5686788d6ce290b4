-- The counts of a drill add up.
use Rattle.std.proofs.Common.{◌≡◌, ◌+◌, ℕ, zero, suc, Bool, true, false, refl, arith}
use Rattle.ow_day.specs.Machine.{Machine}
use Rattle.ow_drill.specs.Drill.{Calls, Drills, Follows, is_accepted}
use Rattle.ow_drill.specs.declared.tally.Tally.{Tally}

followed_once : (accepted : Bool) (M : Machine) (tally : Tally) (failed : ℕ) (N : Machine) → Follows accepted M tally failed N → tally.accepted + tally.refused ≡ 1
followed_once true M tally failed N (outcome, does, is) = rw is refl
followed_once false M tally failed N (is, none, same) = rw is refl

called_once : (k moment : ℕ) (M : Machine) (tally : Tally) (failed : ℕ) (N : Machine) → Calls k moment M tally failed N → tally.accepted + tally.refused ≡ 1
called_once k moment M tally failed N c = followed_once (is_accepted c.outcome) c.called tally c.later N c.follows

pub calls_add_up : (seed n failed : ℕ) (M N : Machine) (tally : Tally) → Drills seed n M tally failed N → tally.accepted + tally.refused ≡ n
calls_add_up seed zero failed M N tally (is, none, same) = rw is refl
calls_add_up seed (suc k) failed M N tally (K, before, now, earlier, here, drills, calls, is, sum) =
    let rest : before.accepted + before.refused ≡ k = calls_add_up seed k earlier M K before drills in
    let one : now.accepted + now.refused ≡ 1 = called_once (suc k) _ K now here N calls in
    rw is (omega (arith, rest, one))
