use Rattle.std.proofs.Common.{◌≡◌, map, take, true}
use Rattle.std.specs.List.{list_all}
use Rattle.httparse.specs.Spans.{header_bytes}
use Rattle.ow_http.specs.Headers.{is_text}
use Rattle.ow_http.proofs.read.read_fields.Given as goal

abbrev pub invariant-loop-header : goal.invariant-loop-header
invariant-loop-header l = record {
  fields_are : l.fields.items ≡ map (header_bytes l.bytes) (take l.header-index l.headers);
  text : list_all is_text l.fields.items ≡ true;
}
