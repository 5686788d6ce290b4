use Rattle.std.proofs.Common.{arith, rules}
use Rattle.std.proofs.lemmas.Grind.{common_steps}
use Rattle.csv.specs.Records.{fields_of}
use Rattle.ow_tenant.proofs.RowsLaws.{not-six, six}
use Rattle.ow_tenant.proofs.row.six_fields.Goals as goal

pub returns-then-len-ne6 : goal.returns-then-len-ne6
returns-then-len-ne6 c = not-six (fields_of c.args.row.now) (first_of (search rules, grind (arith, common_steps)))

pub returns : goal.returns
returns c = six (fields_of c.args.row.now) _ _ _ _ _ _ (first_of (search rules, grind (arith, common_steps))) c.field.ensures c.field-2.ensures c.field-3.ensures c.field-4.ensures c.field-5.ensures c.field-6.ensures
