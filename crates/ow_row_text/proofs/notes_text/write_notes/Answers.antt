use Rattle.std.proofs.Common.{codes, ◌∷◌, [], ◌++◌, List}
use Rattle.json.specs.Token.{begin_array}
use Rattle.ow_value.specs.Value.{V}
use Rattle.ow_value.specs.Text.{items_tokens}
use Rattle.ow_value.specs.Value.{items_of}
use Rattle.ow_records.specs.WrittenNotes.{kind_note, limits_note, mark_note, moment_note, name_note, word_note}
use Rattle.ow_row_text.proofs.Chain.{close, more, two, then_ok}
use Rattle.ow_row_text.proofs.notes_text.write_notes.Goals as goal

pub returns-clause-ok : goal.returns-clause-ok
returns-clause-ok c =
    let n = c.args.notes.now in
    let t = c.begin_array.new.self.tokens in
    let a1 = name_note (codes "binding") n.binding in
    let a2 : List V = a1 ++ word_note (codes "causedBy") (codes "sequence") n.caused_by in
    let a3 : List V = a2 ++ moment_note (codes "initTime") n.init_time in
    let a4 : List V = a3 ++ kind_note n.kind in
    let a5 : List V = a4 ++ limits_note n.limits in
    let a6 : List V = a5 ++ name_note (codes "path") n.path in
    let a7 : List V = a6 ++ mark_note (codes "topmost") n.topmost in
    let a8 : List V = a7 ++ moment_note (codes "waitTime") n.wait_time in
    let second = more t a1 (word_note (codes "causedBy") (codes "sequence") n.caused_by) c.in_ok-put_name.ensures.ok c.in_ok-put_word.ensures.ok in
    let three = more t a2 (moment_note (codes "initTime") n.init_time) second c.in_ok-put_moment.ensures.ok in
    let four = more t a3 (kind_note n.kind) three c.in_ok-put_kind.ensures.ok in
    let five = more t a4 (limits_note n.limits) four c.in_ok-put_limits.ensures.ok in
    let six = more t a5 (name_note (codes "path") n.path) five c.in_ok-put_name-2.ensures.ok in
    let seven = more t a6 (mark_note (codes "topmost") n.topmost) six c.in_ok-put_mark.ensures.ok in
    let eight = more t a7 (moment_note (codes "waitTime") n.wait_time) seven c.in_ok-put_moment-2.ensures.ok in
    then_ok c.end_array.result
    (λ last. two c.args.out.now.tokens (begin_array ∷ []) (items_tokens (items_of a8)) c.in_ok-begin_array.ensures.ok (close t a8 eight last))
    c.end_array.ensures.ok
