use Rattle.std.proofs.Common.{◌≤◌, ◌<◌, arith}
use Rattle.std.proofs.lemmas.Result.{err_from_is_err_and}
use Rattle.ow_value.specs.Value.{depth}
use Rattle.ow_value.specs.View.{view}
use Rattle.ow_value.proofs.Refused.{read_too_deep, read_value}
use Rattle.ow_value.proofs.reader.read_within.Goals as goal

pub returns-in_err-v-clause-value : goal.returns-in_err-v-clause-value
returns-in_err-v-clause-value c =
    let p = err_from_is_err_and c.from_residual.result c.from_residual.ensures.1 in
    rw (p.1, p.2) (λ other. c.in_err-v.ensures c.args.limit other)

pub returns-then-depth-limit-clause-value : goal.returns-then-depth-limit-clause-value
returns-then-depth-limit-clause-value c other =
    let lt : c.args.limit < depth (view c.in_ok-v.v) = omega arith in
    read_too_deep c.args.limit c.args.text.now (view c.in_ok-v.v) c.in_ok-v.ensures lt

pub returns-clause-value : goal.returns-clause-value
returns-clause-value c =
    let le : depth (view c.in_ok-v.v) ≤ c.args.limit = omega arith in
    read_value c.args.limit c.args.text.now (view c.in_ok-v.v) c.in_ok-v.ensures le
