use Rattle.std.proofs.Common.{◌∷◌, [], ◌++◌, List, codes, ap, ◌∙◌}
use Rattle.json.specs.Token.{Token, key}
use Rattle.ow_value.specs.Value.{members_of}
use Rattle.ow_value.specs.Text.{members_tokens, value_tokens}
use Rattle.ow_records.specs.WrittenNotes.{notes_value}
use Rattle.ow_row_text.specs.Tokens.{cause_tokens, from_duration}
use Rattle.ow_row_text.proofs.Chain.{four, then_ok, caused}
use Rattle.ow_row_text.proofs.done_text.write_from_notes.Goals as goal

pub returns-clause-ok : goal.returns-clause-ok
returns-clause-ok c =
    let r = c.args.ended.now in
    let t = c.args.out.now.tokens in
    let name : List Token = key (codes "annotations") ∷ [] in
    let notes = value_tokens (notes_value r.notes) in
    then_ok c.write_from_duration.result
    (λ last. four t name notes (cause_tokens r.cause) (members_tokens (members_of (from_duration r))) c.in_ok-key.ensures.ok c.in_ok-write_notes.ensures.ok c.in_ok-put_cause.ensures.ok last
    ∙ ap (λ w. t ++ (name ++ (notes ++ w))) (caused r.cause (from_duration r)))
    c.write_from_duration.ensures.ok
