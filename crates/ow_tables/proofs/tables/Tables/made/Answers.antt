use Rattle.ow_tables.proofs.tables.Tables.made.Goals as goal

pub returns-in-Err-clause-refused : goal.returns-in-Err-clause-refused
returns-in-Err-clause-refused c = λ k. c.in-Err.ensures.refused k _
