use Rattle.std.proofs.Common.{ap, sym, ◌∙◌}
use Rattle.std.specs.Prelude.{codes}
use Rattle.std.specs.Str.{str_eq_ignore_ascii_case}
use Rattle.ow_wire.proofs.CutShort.{named_length}
use Rattle.ow_wire.proofs.needing.is_length.Goals as goal

pub returns : goal.returns
returns c = c.names_length.ensures ∙ ap (λ n. str_eq_ignore_ascii_case n (codes "content-length")) c.of.ensures ∙ sym (named_length _ _)
