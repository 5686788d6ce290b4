use Rattle.std.proofs.Common.{◌≡◌, ◌∷◌, [], ◌++◌, codes, decimal, rules}
use Rattle.json.specs.Token.{begin_object, end_object, key, number}
use Rattle.ow_row_text.proofs.Chain.{five, then_ok}
use Rattle.ow_row_text.proofs.tokens.write_limits.Goals as goal

pub returns-clause-ok : goal.returns-clause-ok
returns-clause-ok c =
    let logs : c.put_small.new.out.tokens ≡ c.begin_object.new.self.tokens ++ key (codes "logs") ∷ number (decimal c.args.limits.logs) ∷ [] = search rules in
    let memory : c.put_small-2.new.out.tokens ≡ c.put_small.new.out.tokens ++ key (codes "memory") ∷ number (decimal c.args.limits.memory) ∷ [] = search rules in
    let timeout : c.put_small-3.new.out.tokens ≡ c.put_small-2.new.out.tokens ++ key (codes "timeout") ∷ number (decimal c.args.limits.timeout) ∷ [] = search rules in
    then_ok c.end_object.result
    (λ last. five c.args.out.now.tokens (begin_object ∷ []) (key (codes "logs") ∷ number (decimal c.args.limits.logs) ∷ []) (key (codes "memory") ∷ number (decimal c.args.limits.memory) ∷ []) (key (codes "timeout") ∷ number (decimal c.args.limits.timeout) ∷ []) (end_object ∷ []) c.in_ok-begin_object.ensures.ok logs memory timeout last)
    c.end_object.ensures.ok
