-- The answer that reports a refusal.
use Rattle.std.specs.Prelude.{ℕ, List, [], codes, pos}
use Rattle.ow_value.specs.Text.{compact}
use Rattle.ow_value.specs.Value.{object, member, no_members, whole, text}
use Rattle.ow_http.specs.declared.answer.Answer.{Answer}
use Rattle.ow_http.specs.declared.reason.Reason.{Reason}
use Rattle.ow_http.specs.Number.{number_of}
use Rattle.ow_http.specs.Reason.{notice_of}

-- `{"code":N,"error":TEXT}`
abbrev pub error_object : ℕ → List ℕ → List ℕ
error_object number words = compact (object (member (codes "code") (whole (pos number)) (member (codes "error") (text words) no_members)))

abbrev pub refusal_of : Reason → Answer
refusal_of r = record { status = (notice_of r).status; headers = []; body = error_object (number_of r) (notice_of r).text }
