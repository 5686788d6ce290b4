use Rattle.std.proofs.Common.{rules, arith}
use Rattle.sqlite.specs.State.{HasCleanDisk}
use Rattle.sqlite.specs.Held.{state}
use Rattle.ow_sqlite.proofs.Making.{makes_drop, makes_put, makes_retire}
use Rattle.ow_sqlite.proofs.kept_changes.make.Goals as goal

pub returns-in-Put-clause-made : goal.returns-in-Put-clause-made
returns-in-Put-clause-made g c = λ clean inside.
    makes_put g.S.Store c.execute.result c.args.change.now c.in-Put.key c.in-Put.text _ _ c.args.tx.now.conn.now c.execute.new.tx.conn.now (c.execute.ensures.made clean inside)
    (search rules) (search rules) (search rules)

pub returns-in-Drop-clause-made : goal.returns-in-Drop-clause-made
returns-in-Drop-clause-made g c = λ clean inside.
    makes_drop g.S.Store c.execute-in-Drop.result c.args.change.now c.in-Drop.key c.in-Drop.key _ c.args.tx.now.conn.now c.execute-in-Drop.new.tx.conn.now (c.execute-in-Drop.ensures.made clean inside)
    (search rules) (search rules)

pub returns-in_ok-execute-in-Retire-clause-made : goal.returns-in_ok-execute-in-Retire-clause-made
returns-in_ok-execute-in-Retire-clause-made g c = λ clean inside.
    let before : HasCleanDisk (state g.S.Store c.execute-in-Retire.new.tx.conn.now) = omega (arith, c.execute-in-Retire-2.ensures.survives.clean, clean) in
    makes_retire g.S.Store c.execute-in-Retire-2.result c.args.change.now c.in-Retire.key c.in-Retire.text _ _ _ c.args.tx.now.conn.now c.execute-in-Retire.new.tx.conn.now
    c.execute-in-Retire-2.new.tx.conn.now (c.in_ok-execute-in-Retire.ensures.made before inside)
    (c.execute-in-Retire-2.ensures.made clean (c.in_ok-execute-in-Retire.ensures.inside before inside)) (search rules) (search rules) (search rules) (search rules)
