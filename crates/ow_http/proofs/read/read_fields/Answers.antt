use Rattle.std.proofs.Common.{◌≡◌, ◌<◌, length, false, map, arith, rules}
use Rattle.std.proofs.lemmas.List.Folds.{list_all_at}
use Rattle.std.proofs.lemmas.List.{get_or-map, length-map}
use Rattle.httparse.specs.Spans.{header_bytes}
use Rattle.httparse.specs.declared.spans.HeaderSpan.{HeaderSpan}
use Rattle.ow_http.specs.Headers.{is_text}
use Rattle.ow_http.proofs.read.read_fields.Goals as goal

pub returns-then-not-branch : goal.returns-then-not-branch
returns-then-not-branch c =
    let zero_span : HeaderSpan = record { name = record { start = 0; end = 0 }; value = record { start = 0; end = 0 } } in
    let bytes = c.args.bytes.now in
    let i = c.loop-header.header-index in
    let lt : i < length c.args.headers.now = omega arith in
    let bad : is_text (c.of.result.now, c.of-in-loop-header.result.now) ≡ false = search rules in
    let e = get_or-map (header_bytes bytes) c.args.headers.now i zero_span (header_bytes bytes zero_span) lt in
    list_all_at is_text (map (header_bytes bytes) c.args.headers.now) i (header_bytes bytes zero_span) (simp length-map lt)
    (rw e (rw (c.of.ensures, c.of-in-loop-header.ensures) at bad))
