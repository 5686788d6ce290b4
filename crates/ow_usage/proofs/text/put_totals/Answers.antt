use Rattle.std.proofs.Common.{codes}
use Rattle.std.specs.Fmt.{decimal}
use Rattle.ow_usage.specs.Text.{totals_text}
use Rattle.ow_usage.proofs.TextLaws.{ten_pieces}
use Rattle.ow_usage.proofs.text.put_totals.Goals as goal

pub returns : goal.returns
unfolding totals_text
returns c =
    rw (
      c.in_ok-put-5.ensures,
      c.in_ok-put_number-4.ensures,
      c.in_ok-put-4.ensures,
      c.in_ok-put_number-3.ensures,
      c.in_ok-put-3.ensures,
      c.in_ok-put_number-2.ensures,
      c.from-2.ensures,
      c.in_ok-put-2.ensures,
      c.in_ok-put_number.ensures,
      c.from.ensures,
      c.in_ok-put.ensures,
    ) (
    let t = c.args.totals.now in
    ten_pieces c.args.out.now.items (codes " activations ") (decimal t.activations) (codes " failed ") (decimal t.failed) (codes " ms ") (decimal t.ms) (codes " mbms ") (decimal t.mbms) (codes "\n")
    )
