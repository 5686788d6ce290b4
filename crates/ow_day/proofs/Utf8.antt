-- Bytes that are text.
use Rattle.std.proofs.Common.{◌≡◌, ℕ, Bool, true, false, List, Option, Some, None, refl, ap, if◌then◌else◌}
use Rattle.std.specs.Str.{is_utf8, IsUtf8}
use Rattle.std.proofs.lemmas.Str.{IsUtf8-from_is_utf8, is_utf8-from_IsUtf8}
use Rattle.ow_day.specs.Statement.{utf8_text}

pub utf8_some : (text bytes : List ℕ) → text ≡ bytes → IsUtf8 bytes → Some text ≡ utf8_text bytes
utf8_some text bytes e u = rw (is_utf8-from_IsUtf8 bytes u) (ap Some e)

none_at : (bytes : List ℕ) (b : Bool) → is_utf8 bytes ≡ b → (IsUtf8 bytes → ⊥) → ◌≡◌ {A = Option (List ℕ)} None (if b then Some bytes else None)
none_at bytes true is refused = absurd (refused (IsUtf8-from_is_utf8 bytes is))
none_at bytes false is refused = refl

pub utf8_none : (bytes : List ℕ) → (IsUtf8 bytes → ⊥) → None ≡ utf8_text bytes
utf8_none bytes refused = none_at bytes (is_utf8 bytes) refl refused
