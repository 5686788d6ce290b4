use Rattle.ow_trees.proofs.Sweeping.{count_swept, moved_swept}
use Rattle.ow_trees.proofs.driver.sweep.Goals as goal

pub returns-clause-ok : goal.returns-clause-ok
returns-clause-ok g c = λ T st. c.note_swept.ensures.ok _ (c.in_ok-late.ensures.ok T st)

pub returns-clause-moved : goal.returns-clause-moved
returns-clause-moved g c = λ T st. moved_swept (g.L.Lookup.found c.args.rows.now) c.args.at T c.args.moves.now c.sweep_all.new.moves (c.in_ok-late.ensures.moved T st)

pub returns-clause-late : goal.returns-clause-late
returns-clause-late g c = λ T st. count_swept (g.L.Lookup.found c.args.rows.now) c.args.at c.in_ok-late.late T (c.in_ok-late.ensures.late T st)
