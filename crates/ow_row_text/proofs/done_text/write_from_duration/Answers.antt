use Rattle.std.proofs.Common.{◌≡◌, ◌∷◌, [], ◌++◌, codes, decimal, rules}
use Rattle.json.specs.Token.{key, number}
use Rattle.ow_value.specs.Value.{members_of}
use Rattle.ow_value.specs.Text.{members_tokens}
use Rattle.std.proofs.Common.{◌-◌}
use Rattle.ow_row_text.specs.Tokens.{from_logs}
use Rattle.ow_row_text.proofs.Chain.{three, then_ok}
use Rattle.ow_row_text.proofs.done_text.write_from_duration.Goals as goal

pub returns-clause-ok : goal.returns-clause-ok
returns-clause-ok c =
    let r = c.args.ended.now in
    let duration : c.put_number.new.out.tokens ≡ c.args.out.now.tokens ++ key (codes "duration") ∷ number (decimal (r.span.end - r.span.start)) ∷ [] = search rules in
    let end : c.put_number-2.new.out.tokens ≡ c.put_number.new.out.tokens ++ key (codes "end") ∷ number (decimal r.span.end) ∷ [] = search rules in
    then_ok c.write_from_logs.result
    (λ last. three c.args.out.now.tokens (key (codes "duration") ∷ number (decimal (r.span.end - r.span.start)) ∷ []) (key (codes "end") ∷ number (decimal r.span.end) ∷ []) (members_tokens (members_of (from_logs r))) duration end last)
    c.write_from_logs.ensures.ok
