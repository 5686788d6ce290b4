use Rattle.std.proofs.Common.{sym, ◌∙◌}
use Rattle.ow_tenant.proofs.TextLaws.{utf8-yes, utf8-no}
use Rattle.ow_tenant.proofs.words.copy_text.Goals as goal

pub returns-in_default : goal.returns-in_default
returns-in_default c h = sym (utf8-no _ c.in_default.ensures.cases.0)

pub returns : goal.returns
returns c = (c.in_ok-of.ensures ∙ c.in-Ok.ensures.cases.0, sym (utf8-yes _ c.in-Ok.ensures.cases.1))
