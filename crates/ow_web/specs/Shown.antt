-- Values as plain texts.
use Rattle.std.specs.Prelude.{ℕ, List, Bool, true, false}
use Rattle.ow_value.specs.Value.{V, null, boolean, whole, text, list, object}
use Rattle.ow_value.specs.Text.{compact}

-- a text as it is, another value as compact JSON
abbrev pub shown_text : V → List ℕ
shown_text (text s) = s
shown_text v = compact v

-- a text, a number or a boolean
abbrev pub is_scalar : V → Bool
is_scalar null = false
is_scalar (boolean b) = true
is_scalar (whole z) = true
is_scalar (text s) = true
is_scalar (list vs) = false
is_scalar (object ps) = false
