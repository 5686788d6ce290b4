use Rattle.std.proofs.Common.{Err, arith, subst}
use Rattle.ow_http.specs.Read.{IsRead}
use Rattle.ow_http.specs.declared.http_refusal.HttpRefusal.TheVariants.{CutShort}
use Rattle.ow_wire.proofs.CutShort.{cut_now}
use Rattle.ow_wire.proofs.inbox.Inbox.is_cut.Goals as goal

pub returns-then-len-self : goal.returns-then-len-self
returns-then-len-self c = λ is. subst (λ b. IsRead b (Err CutShort)) c.self.view_is (cut_now c.self.inside.held.items c.self.inside.needed c.self.invariant.1 (omega arith))
