use Rattle.std.proofs.Common.{◌≡◌, ◌∷◌, [], ◌++◌, codes, rules}
use Rattle.json.specs.Token.{end_object, key, string}
use Rattle.ow_entity.specs.Written.{shown_version}
use Rattle.ow_row_text.proofs.Chain.{three}
use Rattle.ow_row_text.proofs.open_text.write_from_subject.Goals as goal

pub returns-clause-ok : goal.returns-clause-ok
returns-clause-ok c =
    let u = c.args.activation.now in
    let subject : c.put_text.new.out.tokens ≡ c.args.out.now.tokens ++ key (codes "subject") ∷ string u.subject ∷ [] = search rules in
    let version : c.put_text-2.new.out.tokens ≡ c.put_text.new.out.tokens ++ key (codes "version") ∷ string (shown_version u.version) ∷ [] = search rules in
    three c.args.out.now.tokens (key (codes "subject") ∷ string u.subject ∷ []) (key (codes "version") ∷ string (shown_version u.version) ∷ []) (end_object ∷ []) subject version c.in_ok-end_object.ensures.ok
