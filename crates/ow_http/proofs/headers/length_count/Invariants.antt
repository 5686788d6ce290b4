use Rattle.std.proofs.Common.{◌≡◌, ◌≤◌, count_by, take}
use Rattle.ow_http.specs.Headers.{is_length}
use Rattle.ow_http.proofs.headers.length_count.Given as goal

abbrev pub invariant-loop-field : goal.invariant-loop-field
invariant-loop-field l = record {
  counted : l.count ≡ count_by is_length (take l.field-index l.fields);
  few : l.count ≤ l.field-index;
}
