use Rattle.std.proofs.Common.{◌≡◌, drop}
use Rattle.std.specs.List.{fold}
use Rattle.ow_value.specs.Find.{with_pair}
use Rattle.ow_value.specs.Value.{text}
use Rattle.ow_web.specs.Params.{texts_of}
use Rattle.ow_web.proofs.params.texts_of.Given as goal

abbrev pub invariant-loop-pair : goal.invariant-loop-pair
invariant-loop-pair l = fold (λ ps p. with_pair ps p.0 (text p.1)) l.fields (drop l.pair-index l.pairs) ≡ texts_of l.pairs
