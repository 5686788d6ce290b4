use Rattle.std.proofs.Common.{◌≡◌, ◌∷◌, [], ◌++◌, codes, rules}
use Rattle.json.specs.Token.{key, string}
use Rattle.ow_value.specs.Value.{members_of}
use Rattle.ow_value.specs.Text.{members_tokens}
use Rattle.ow_records.specs.WrittenNotes.{path_text}
use Rattle.ow_row_text.specs.Tokens.{from_subject}
use Rattle.ow_row_text.proofs.Chain.{two, then_ok}
use Rattle.ow_row_text.proofs.open_text.write_from_path.Goals as goal

pub returns-clause-ok : goal.returns-clause-ok
returns-clause-ok c =
    let u = c.args.activation.now in
    let path : c.put_text.new.out.tokens ≡ c.args.out.now.tokens ++ key (codes "path") ∷ string (path_text u.path) ∷ [] = search rules in
    then_ok c.write_from_subject.result
    (λ last. two c.args.out.now.tokens (key (codes "path") ∷ string (path_text u.path) ∷ []) (members_tokens (members_of (from_subject u))) path last)
    c.write_from_subject.ensures.ok
