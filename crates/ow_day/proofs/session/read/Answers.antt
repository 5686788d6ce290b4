use Rattle.std.proofs.lemmas.Bool.{false≢true}
use Rattle.ow_day.proofs.session.read.Goals as goal

pub returns-else-eq : goal.returns-else-eq
returns-else-eq c = c.in-Err.ensures (λ e. false≢true (rw e at c.if-eq.ensures))
