use Rattle.ow_serve.specs.Working.{MakesSweeps}
use Rattle.ow_serve.proofs.working.sweep_on.Given as goal

abbrev pub invariant-loop : goal.invariant-loop
invariant-loop g l = MakesSweeps (g.C.Clock.tells l.fn.clock) l.fn.notes.notes l.notes.notes
