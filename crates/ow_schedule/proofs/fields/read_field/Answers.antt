use Rattle.std.proofs.Common.{◌≡◌, ◌∙◌, ◌++◌, ◌∷◌, [], map, ap, sym}
use Rattle.ow_schedule.specs.Fields.{seen}
use Rattle.ow_schedule.proofs.Collects.{pieces, spans_of, after_read, reads_one, map-push}
use Rattle.ow_schedule.proofs.fields.read_field.Goals as goal

pub pieces-preserved : goal.pieces-preserved
pieces-preserved c =
    let span = c.in-Some-read_span.span in
    let read = map seen c.pieces.spans.items in
    let one = reads_one c.args.low c.args.high read (seen span) c.in-Some.rest.now c.first_piece.result.0.now (pieces c.first_piece.result.1) c.first_piece.ensures.split c.in-Some-read_span.ensures in
    let was = rw c.in-Some.is at c.pieces.invariant in
    let pushed : map seen c.push.new.self.items ≡ read ++ seen span ∷ [] = rw c.in_ok-push.ensures.items (map-push c.pieces.spans.items span) in
    was ∙ one ∙ ap (λ xs. after_read xs (spans_of c.args.low c.args.high (pieces c.first_piece.result.1))) (sym pushed)
