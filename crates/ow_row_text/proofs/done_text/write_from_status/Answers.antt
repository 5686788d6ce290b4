use Rattle.std.proofs.Common.{◌≡◌, ◌∷◌, [], ◌++◌, codes, decimal, ◌==◌, rules}
use Rattle.json.specs.Token.{boolean, end_object, key, number, string}
use Rattle.ow_records.specs.Written.{status_text}
use Rattle.ow_row_text.proofs.Chain.{four, then_ok}
use Rattle.ow_row_text.proofs.done_text.write_from_status.Goals as goal

pub returns-clause-ok : goal.returns-clause-ok
returns-clause-ok c =
    let status : c.put_text.new.out.tokens ≡ c.args.out.now.tokens ++ key (codes "status") ∷ string (status_text c.args.code) ∷ [] = search rules in
    let code = c.in_ok-put_number.ensures.ok in
    let success : c.put_flag.new.out.tokens ≡ c.put_number.new.out.tokens ++ key (codes "success") ∷ boolean (c.args.code == 0) ∷ [] = search rules in
    then_ok c.end_object.result
    (λ last. four c.args.out.now.tokens (key (codes "status") ∷ string (status_text c.args.code) ∷ []) (key (codes "statusCode") ∷ number (decimal c.args.code) ∷ []) (key (codes "success") ∷ boolean (c.args.code == 0) ∷ []) (end_object ∷ []) status code success last)
    c.end_object.ensures.ok
