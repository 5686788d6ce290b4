-- Bytes that are read as a text.
use Rattle.std.proofs.Common.{◌≡◌, ℕ, List, Bool, true, false, cond, Some, None, IsUtf8, refl, ap}
use Rattle.std.proofs.lemmas.Str.{IsUtf8-from_is_utf8, is_utf8-from_IsUtf8}
use Rattle.std.specs.Str.{is_utf8}
use Rattle.ow_keep.specs.ItemIn.{as_utf8}

pub utf8_back : (s : List ℕ) → IsUtf8 s → as_utf8 s ≡ Some s
utf8_back s h = ap (λ b. cond b (Some s) None) (is_utf8-from_IsUtf8 s h)

pub no_utf8 : (s : List ℕ) → (IsUtf8 s → ⊥) → None ≡ as_utf8 s
no_utf8 s none = by_test (is_utf8 s) refl
  where
    by_test : (b : Bool) → is_utf8 s ≡ b → None ≡ cond b (Some s) None
    by_test true e = absurd (none (IsUtf8-from_is_utf8 s e))
    by_test false e = refl
