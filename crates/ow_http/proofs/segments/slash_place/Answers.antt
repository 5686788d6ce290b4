use Rattle.std.proofs.Common.{length, sym, arith, rules}
use Rattle.std.proofs.lemmas.List.Sums.{position_or_len_is}
use Rattle.ow_names.specs.Slash.{is_slash}
use Rattle.ow_http.proofs.segments.slash_place.Goals as goal

pub returns-then-b-eq47-clause-place : goal.returns-then-b-eq47-clause-place
returns-then-b-eq47-clause-place c =
    sym (position_or_len_is is_slash c.args.path.now c.loop-i.i 0 (omega arith) c.loop-i.invariant (λ _. search rules))

pub returns-clause-place : goal.returns-clause-place
returns-clause-place c =
    sym (position_or_len_is is_slash c.args.path.now (length c.args.path.now) 0 (omega arith)
    (λ k h. c.loop-i.invariant k (omega arith)) (λ h. absurd (omega arith)))
