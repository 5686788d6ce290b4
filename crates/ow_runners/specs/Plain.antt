-- The runner of plain code.
use Rattle.std.specs.Prelude.{◌≡◌, ℕ, List, [], codes, map}
use Rattle.ow_traits.specs.Runner.{Giving, Tally}
use Rattle.ow_traits.specs.declared.replies.Kind.{Kind}
use Rattle.ow_traits.specs.declared.replies.Kind.TheVariants.{Plain, Program}
use Rattle.ow_traits.specs.declared.replies.RunReply.{RunReply}
use Rattle.ow_traits.specs.declared.replies.RunReply.TheVariants.{Answer, NoStart}
use Rattle.ow_value.specs.Value.{Pairs}
use Rattle.ow_value.specs.View.{view}
use Rattle.ow_entity.specs.PlainCode.{Case}
use Rattle.ow_runners.specs.PlainReply.{plain_reply}
use Rattle.ow_runners.specs.declared.plain_cases.PlainCase.{PlainCase}

-- it gives the plain reply, without logs, and runs no program
abbrev pub PlainGives : Kind → List ℕ → Pairs → RunReply → Type 0
PlainGives Plain code params reply = reply ≡ Answer (plain_reply code params) []
PlainGives Program code params reply = reply ≡ NoStart (codes "no program runner")

-- its containers come up for plain code alone
abbrev pub PlainStarts : Kind → Type 0
PlainStarts Plain = Unit {0}
PlainStarts Program = ⊥

abbrev pub plain_giving : Giving
plain_giving = record { replies = PlainGives; starts = PlainStarts }

-- the tally of a runner that never fails and made this many runs
abbrev pub plain_tally : ℕ → Tally
plain_tally runs = record { faults = 0; runs = runs }

-- ---- for private clauses

-- a case that was read
abbrev pub case_view : PlainCase → Case
case_view c = record { when = c.when; give = view c.give }

abbrev pub case_views : List PlainCase → List Case
case_views = map case_view
