-- What is true of each web answer.
use Rattle.std.specs.Prelude.{◌≡◌, ◌≤◌, ℕ, List, Bool, not, ◌||◌, ◌&&◌, ◌==◌, Result, Ok}
use Rattle.std.specs.List.{list_all, AllPass}
use Rattle.ow_records.specs.Response.{ResponseView}
use Rattle.ow_http.specs.declared.answer.Answer.{Answer}
use Rattle.ow_http.specs.Pair.{Pair}
use Rattle.ow_web.specs.declared.target.Extension.{Extension}
use Rattle.ow_web.specs.WebOut.{is_framing, sent_answer, web_out}

-- no CR and no LF
abbrev pub is_one_line : List ℕ → Bool
is_one_line bytes = list_all (λ b. not (b == 13 || b == 10)) bytes

abbrev pub is_clean : Pair → Bool
is_clean h = is_one_line h.0 && is_one_line h.1

-- no header ends its line or says where the reply ends, and the status is that of a final reply
pub record IsSendable (a : Answer) : Type 0 where
  pub lines : AllPass is_clean a.headers
  pub framing : AllPass (λ h. not (is_framing h)) a.headers
  pub least : 200 ≤ a.status
  pub most : a.status ≤ 599

abbrev pub RepliesAreSendable : Type 0
RepliesAreSendable = (extension : Extension) (r : ResponseView) (a : Answer) → web_out extension r ≡ Ok a → IsSendable a

abbrev pub AnswersAreSendable : Type 0
AnswersAreSendable = (extension : Extension) (r : ResponseView) → IsSendable (sent_answer extension r)
