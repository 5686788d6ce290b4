use Rattle.std.proofs.Common.{◌≡◌, [], rules}
use Rattle.json.specs.Json.{value}
use Rattle.json.specs.Lex.{tokens}
use Rattle.ow_value.specs.Text.{data_of}
use Rattle.ow_value.specs.View.{view}
use Rattle.ow_value.proofs.Back.{whole_of-data_of}
use Rattle.ow_value.proofs.Tokens.{whole_read}
use Rattle.ow_value.proofs.quick.quick_read.Goals as goal

pub returns : goal.returns
returns c =
    let v = view c.in_ok-v.v in
    let none : c.read_value.new.reader ≡ [] = search rules in
    record {
      parsed = data_of v;
      utf8 = c.in-Ok.ensures.cases.1;
      reads = whole_read (value 127 (tokens c.args.bytes.now)) (data_of v) (rw (c.in-Ok-new.ensures.ok, c.in-Ok.ensures.cases.0, none) at c.in_ok-v.ensures.ok);
      whole = whole_of-data_of v;
    }
