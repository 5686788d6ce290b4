use Rattle.std.proofs.Common.{◌≡◌, drop, map}
use Rattle.std.specs.Prelude.{find}
use Rattle.httparse.specs.Spans.{header_bytes}
use Rattle.ow_http.specs.Headers.{is_length}
use Rattle.ow_wire.proofs.needing.length_in.Given as goal

abbrev pub invariant-loop-header : goal.invariant-loop-header
invariant-loop-header l = find is_length (map (header_bytes l.bytes) l.headers) ≡ find is_length (map (header_bytes l.bytes) (drop l.header-index l.headers))
