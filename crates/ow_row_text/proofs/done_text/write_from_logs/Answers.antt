use Rattle.std.proofs.Common.{◌≡◌, ◌∷◌, [], ◌++◌, List, codes, rules}
use Rattle.json.specs.Token.{Token, key, string}
use Rattle.ow_value.specs.Value.{members_of}
use Rattle.ow_value.specs.Text.{members_tokens, value_tokens}
use Rattle.ow_records.specs.Written.{lines_value, response_value}
use Rattle.ow_row_text.specs.Tokens.{from_start}
use Rattle.ow_row_text.proofs.Chain.{four, then_ok}
use Rattle.ow_row_text.proofs.done_text.write_from_logs.Goals as goal

pub returns-clause-ok : goal.returns-clause-ok
returns-clause-ok c =
    let r = c.args.ended.now in
    let name : c.put_text.new.out.tokens ≡ c.write_lines.new.out.tokens ++ key (codes "name") ∷ string r.name ∷ [] = search rules in
    let namespace : c.put_text-2.new.out.tokens ≡ c.put_text.new.out.tokens ++ key (codes "namespace") ∷ string r.namespace ∷ [] = search rules in
    let n : List Token = key (codes "name") ∷ string r.name ∷ [] in
    let m : List Token = key (codes "namespace") ∷ string r.namespace ∷ [] in
    let k : List Token = key (codes "response") ∷ [] in
    let v = value_tokens (response_value r.response) in
    let rest = members_tokens (members_of (from_start r)) in
    then_ok c.write_from_start.result
    (λ last.
    let behind = four c.put_text.new.out.tokens m k v rest namespace c.in_ok-key-2.ensures.ok c.in_ok-write_response.ensures.ok last in
    four c.args.out.now.tokens (key (codes "logs") ∷ []) (value_tokens (lines_value r.logs)) n (m ++ (k ++ (v ++ rest))) c.in_ok-key.ensures.ok c.in_ok-write_lines.ensures.ok name behind)
    c.write_from_start.ensures.ok
