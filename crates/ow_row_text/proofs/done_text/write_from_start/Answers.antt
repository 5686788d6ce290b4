use Rattle.std.proofs.Common.{◌≡◌, ◌∷◌, [], ◌++◌, codes, decimal, rules}
use Rattle.json.specs.Token.{end_object, key, number, string}
use Rattle.ow_entity.specs.Written.{shown_version}
use Rattle.ow_row_text.proofs.Chain.{four}
use Rattle.ow_row_text.proofs.done_text.write_from_start.Goals as goal

pub returns-clause-ok : goal.returns-clause-ok
returns-clause-ok c =
    let r = c.args.ended.now in
    let start : c.put_number.new.out.tokens ≡ c.args.out.now.tokens ++ key (codes "start") ∷ number (decimal r.span.start) ∷ [] = search rules in
    let subject : c.put_text.new.out.tokens ≡ c.put_number.new.out.tokens ++ key (codes "subject") ∷ string r.subject ∷ [] = search rules in
    let version : c.put_text-2.new.out.tokens ≡ c.put_text.new.out.tokens ++ key (codes "version") ∷ string (shown_version r.version) ∷ [] = search rules in
    four c.args.out.now.tokens (key (codes "start") ∷ number (decimal r.span.start) ∷ []) (key (codes "subject") ∷ string r.subject ∷ []) (key (codes "version") ∷ string (shown_version r.version) ∷ []) (end_object ∷ []) start subject version c.in_ok-end_object.ensures.ok
