use Rattle.std.proofs.Common.{refl, append_assoc}
use Rattle.ow_http.proofs.reply.push_typed.Goals as goal

pub returns : goal.returns
returns c = rw c.in_ok-push_sized.ensures (rw c.in_ok-push_header.ensures (simp append_assoc refl))
