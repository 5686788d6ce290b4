use Rattle.std.proofs.Common.{ap, refl, append_assoc}
use Rattle.ow_http.specs.Reason.{row}
use Rattle.ow_http.proofs.notice.limited.Goals as goal

pub returns : goal.returns
returns c = ap (row 429) (rw c.in_ok-from_string.ensures.value (rw c.in_ok-text.ensures.ok (simp append_assoc refl)))
