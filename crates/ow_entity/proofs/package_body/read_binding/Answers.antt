use Rattle.std.proofs.Common.{Some, None, ap, ◌∙◌, arith}
use Rattle.ow_value.specs.Value.{members_of, object}
use Rattle.ow_entity.specs.Chain.{result_map}
use Rattle.ow_entity.specs.Body.{bound_in}
use Rattle.ow_entity.proofs.PlainCodeLaws.{unless_empty}
use Rattle.ow_entity.proofs.package_body.read_binding.Goals as goal

pub returns-in-Err : goal.returns-in-Err
returns-in-Err c = λ k.
    unless_empty None c.args.binding.now (result_map Some (bound_in c.args.home.now (object (members_of c.args.binding.now)))) (λ z. omega (arith, z, c.len.ensures, c.if-len-eq0.false))
    ∙ ap (result_map Some) (c.in-Err.ensures k)
