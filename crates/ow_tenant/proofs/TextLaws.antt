-- Whether bytes are text.
use Rattle.std.proofs.Common.{◌≡◌, ℕ, List, Bool, true, false, refl, sym}
use Rattle.std.specs.Prelude.{IsUtf8}
use Rattle.std.specs.Str.{is_utf8}
use Rattle.std.proofs.lemmas.Str.{IsUtf8-from_is_utf8, is_utf8-from_IsUtf8}

pub utf8-yes : (bs : List ℕ) → IsUtf8 bs → true ≡ is_utf8 bs
utf8-yes bs h = sym (is_utf8-from_IsUtf8 bs h)

pub utf8-no : (bs : List ℕ) → (IsUtf8 bs → ⊥) → false ≡ is_utf8 bs
utf8-no bs h = by (is_utf8 bs) refl
  where
    by : (b : Bool) → is_utf8 bs ≡ b → false ≡ b
    by true e = absurd (h (IsUtf8-from_is_utf8 bs e))
    by false e = refl
