use Rattle.std.proofs.Common.{◌≡◌, drop, option_copied}
use Rattle.ow_http.specs.Headers.{last_named, last_or}
use Rattle.ow_http.proofs.headers.last_named.Given as goal

abbrev pub invariant-loop-field : goal.invariant-loop-field
invariant-loop-field l = last_named l.name l.fields ≡ last_or (option_copied l.found) l.name (drop l.field-index l.fields)
