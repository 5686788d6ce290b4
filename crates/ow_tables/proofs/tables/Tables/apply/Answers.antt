use Rattle.ow_tables.proofs.Found.{changes}
use Rattle.ow_tables.proofs.tables.Tables.apply.Goals as goal

pub returns-clause-finds : goal.returns-clause-finds
returns-clause-finds c = changes c.args.ready c.args.self.now.rows c.make.new.self.rows c.make.ensures
