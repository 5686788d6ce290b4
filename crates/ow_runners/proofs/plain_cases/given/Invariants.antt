use Rattle.std.proofs.Common.{◌≡◌, drop}
use Rattle.ow_runners.specs.Plain.{case_views}
use Rattle.ow_runners.specs.PlainReply.{given}
use Rattle.ow_runners.proofs.plain_cases.given.Given as goal

-- what is left decides
abbrev pub invariant-loop-case : goal.invariant-loop-case
invariant-loop-case l = given (case_views (drop l.case-index l.cases)) l.params ≡ given (case_views l.cases) l.params
