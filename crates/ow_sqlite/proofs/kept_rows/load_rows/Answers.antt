use Rattle.std.proofs.Common.{arith, rules}
use Rattle.ow_sqlite.proofs.Loading.{load_survives, query_fails, shown_ends}
use Rattle.ow_sqlite.proofs.kept_rows.load_rows.Goals as goal

pub returns-in_err-make_tables-clause-end : goal.returns-in_err-make_tables-clause-end
returns-in_err-make_tables-clause-end g c =
    let ends = c.in_err-make_tables.ensures.end in
    record { loaded = search rules; kept = ends.kept; over = ends.over }

pub returns-in_err-shown-clause-end : goal.returns-in_err-shown-clause-end
returns-in_err-shown-clause-end g c =
    let ends = query_fails g.S.Store c.args.conn.now c.make_tables.new.conn c.query_all.new.self (λ clean. omega (arith, c.in_err-shown.ensures.survives.clean, clean))
    c.in_ok-make_tables.ensures.end.made c.in_ok-make_tables.ensures.end.over _ c.in_err-shown.ensures.err in
    record { loaded = search rules; kept = ends.kept; over = ends.over }

pub returns-in_err-shown-clause-stop : goal.returns-in_err-shown-clause-stop
returns-in_err-shown-clause-stop g c =
    load_survives g.S.Store c.args.conn.now c.make_tables.new.conn c.query_all.new.self c.in_ok-make_tables.ensures.stop c.in_err-shown.ensures.survives

pub returns-clause-end : goal.returns-clause-end
returns-clause-end g c =
    shown_ends g.S.Store c.args.conn.now c.make_tables.new.conn c.query_all.new.self (λ clean. omega (arith, c.in_ok-shown.ensures.survives.clean, clean))
    c.in_ok-make_tables.ensures.end.made c.in_ok-make_tables.ensures.end.over c.in_ok-shown.shown.items c.put_rows.result c.in_ok-shown.ensures.ok c.put_rows.ensures.texts c.put_rows.ensures.rows

pub returns-clause-stop : goal.returns-clause-stop
returns-clause-stop g c =
    load_survives g.S.Store c.args.conn.now c.make_tables.new.conn c.query_all.new.self c.in_ok-make_tables.ensures.stop c.in_ok-shown.ensures.survives
