use Rattle.std.proofs.Common.{◌≡◌, ◌++◌, map}
use Rattle.form_urlencoded.specs.Parse.{raw_pairs_left}
use Rattle.ow_http.specs.Query.{pairs_of, decoded_pair}
use Rattle.ow_http.proofs.query.read_pairs.Given as goal

abbrev pub invariant-loop-pair : goal.invariant-loop-pair
invariant-loop-pair l = pairs_of l.input ≡ l.pairs.items ++ map decoded_pair (raw_pairs_left l.pair-iterator)
