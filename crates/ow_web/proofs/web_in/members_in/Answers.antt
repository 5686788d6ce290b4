use Rattle.std.proofs.Common.{◌∙◌, Ok, ap, sym}
use Rattle.ow_value.specs.declared.val.Val.{Val}
use Rattle.ow_value.specs.Field.{pairs_in-members_of}
use Rattle.ow_value.specs.View.{view}
use Rattle.ow_web.specs.WebIn.{members_in}
use Rattle.ow_web.proofs.web_in.members_in.Goals as goal

pub returns-in-Object : goal.returns-in-Object
returns-in-Object c = ap Ok (sym (pairs_in-members_of c.in-Object.params)) ∙ ap (λ (v : Val). members_in (view v)) (sym c.in-Object.is)
