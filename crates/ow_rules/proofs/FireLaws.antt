-- Whether a rule's trigger is the one that is fired.
use Rattle.std.proofs.Common.{◌≡◌, Bool, List, ℕ, Ordering, is_eq, sym, ◌∙◌}
use Rattle.std.specs.Str.{bytes_eq}
use Rattle.ow_value.specs.Value.{text_cmp}
use Rattle.ow_value.proofs.KeySearch.{test_of}

-- texts are equal where their order says so
pub equal_names : (s t : List ℕ) (o : Ordering) (b : Bool) → o ≡ text_cmp s t → b ≡ is_eq o → b ≡ bytes_eq s t
equal_names s t o b e f = f ∙ sym (test_of s t o (sym e))
