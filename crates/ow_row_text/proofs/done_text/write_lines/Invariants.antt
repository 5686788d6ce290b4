use Rattle.std.proofs.Common.{◌≡◌, ◌++◌, drop, map}
use Rattle.ow_value.specs.Text.{items_tokens}
use Rattle.ow_value.specs.Value.{items_of, text}
use Rattle.ow_row_text.proofs.done_text.write_lines.Given as goal

-- what was written, and what is left, is the whole
abbrev pub invariant-loop-line : goal.invariant-loop-line
invariant-loop-line l =
    (l.out.before ≡ l.initial.out.before)
    × (l.out.tokens ++ items_tokens (items_of (map text (drop l.line-index l.line-items))) ≡ l.initial.out.tokens ++ items_tokens (items_of (map text l.line-items)))
