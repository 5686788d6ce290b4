use Rattle.std.proofs.Common.{◌≡◌, take}
use Rattle.ow_value.proofs.+alike.Given as goal

abbrev pub invariant-val::Vals::is_same-loop-i : goal.invariant-val::Vals::is_same-loop-i
invariant-val::Vals::is_same-loop-i l = take l.i l.xs ≡ take l.i l.ys

abbrev pub invariant-val::Params::is_same-loop-i : goal.invariant-val::Params::is_same-loop-i
invariant-val::Params::is_same-loop-i l = take l.i l.xs ≡ take l.i l.ys
