use Rattle.std.proofs.Common.{◌++◌, ◌∷◌, [], append_assoc, ap, ap₂, string_bytes, ◌∙◌}
use Rattle.ow_usage.specs.Text.{escaped, totals_text}
use Rattle.ow_usage.proofs.TextLaws.{four_pieces}
use Rattle.ow_usage.proofs.text.put_line.Goals as goal

pub returns : goal.returns
returns c =
    let out = c.args.out.now.items in
    let day = string_bytes c.in_ok-day.day in
    let name = escaped c.args.place.now.1 in
    let rest = totals_text c.args.totals.now in (
      day,
      c.in_ok-day.ensures,
      c.in_ok-put_totals.ensures
          ∙ ap (λ xs. xs ++ rest) (c.in_ok-put_escaped.ensures
          ∙ ap₂ (λ xs n. xs ++ escaped n) (c.in_ok-put-2.ensures ∙ ap (λ xs. xs ++ 32 ∷ []) (c.in_ok-put.ensures ∙ ap (λ d. out ++ d) c.as_bytes.ensures.value))
          (c.as_bytes-2.ensures.value ∙ c.as_str.ensures.value))
          ∙ (four_pieces (out ++ day) (32 ∷ []) name rest ∙ append_assoc out day ((32 ∷ []) ++ (name ++ rest))),
    )
