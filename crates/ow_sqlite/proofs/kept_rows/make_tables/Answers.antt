use Rattle.std.proofs.Common.{arith, rules}
use Rattle.ow_sqlite.proofs.Loading.{both_made, both_survive, first_fails, first_survives, second_fails}
use Rattle.ow_sqlite.proofs.kept_rows.make_tables.Goals as goal

pub returns-in_err-execute-clause-end : goal.returns-in_err-execute-clause-end
returns-in_err-execute-clause-end g c =
    let ends = first_fails g.S.Store c.args.conn.now c.execute.new.self _ c.in_err-execute.ensures.runs in
    record { made = search rules; kept = ends.kept; over = ends.over }

pub returns-in_err-execute-clause-stop : goal.returns-in_err-execute-clause-stop
returns-in_err-execute-clause-stop g c = first_survives g.S.Store c.args.conn.now c.execute.new.self c.in_err-execute.ensures.survives

pub returns-in_err-execute-2-clause-end : goal.returns-in_err-execute-2-clause-end
returns-in_err-execute-2-clause-end g c =
    let ends = second_fails g.S.Store c.args.conn.now c.execute.new.self c.execute-2.new.self c.in_ok-execute.field-0 (λ clean. omega (arith, c.in_err-execute-2.ensures.survives.clean, clean))
    c.in_ok-execute.ensures.runs _ c.in_err-execute-2.ensures.runs in
    record { made = search rules; kept = ends.kept; over = ends.over }

pub returns-in_err-execute-2-clause-stop : goal.returns-in_err-execute-2-clause-stop
returns-in_err-execute-2-clause-stop g c =
    both_survive g.S.Store c.args.conn.now c.execute.new.self c.execute-2.new.self c.in_ok-execute.field-0 (λ clean. omega (arith, c.in_err-execute-2.ensures.survives.clean, clean))
    c.in_ok-execute.ensures.runs c.in_ok-execute.ensures.survives c.in_err-execute-2.ensures.survives

pub returns-clause-end : goal.returns-clause-end
returns-clause-end g c =
    both_made g.S.Store c.args.conn.now c.execute.new.self c.execute-2.new.self c.in_ok-execute.field-0 (λ clean. omega (arith, c.in_ok-execute-2.ensures.survives.clean, clean))
    c.in_ok-execute.ensures.runs tt c.in_ok-execute-2.field-0 c.in_ok-execute-2.ensures.runs

pub returns-clause-stop : goal.returns-clause-stop
returns-clause-stop g c =
    both_survive g.S.Store c.args.conn.now c.execute.new.self c.execute-2.new.self c.in_ok-execute.field-0 (λ clean. omega (arith, c.in_ok-execute-2.ensures.survives.clean, clean))
    c.in_ok-execute.ensures.runs c.in_ok-execute.ensures.survives c.in_ok-execute-2.ensures.survives
