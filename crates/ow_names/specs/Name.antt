-- What a name is, and the first fault of bytes that are no name.
use Rattle.std.specs.Prelude.{◌≡◌, ◌≢◌, ◌≤◌, ◌<◌, ◌-◌, ◌==◌, ◌||◌, ℕ, zero, suc, List, Bool, true, false, not, length, slice_index, nat_lt, if◌then◌else◌, Option, Some, None}
use Rattle.std.specs.Char.{is_ascii_alphanumeric}
use Rattle.std.specs.List.{enumerate_from, position}
use Rattle.ow_names.specs.declared.refusal.NameRefusal.{NameRefusal}
use Rattle.ow_names.specs.declared.refusal.NameRefusal.TheVariants.{BadPath, Empty, TooLong, BadChar, EndsInSpace, NoMemory}

-- an ASCII letter, a digit or `_`
abbrev pub is_first_byte : ℕ → Bool
is_first_byte b = is_ascii_alphanumeric b || b == 95

-- one of these, a space, `@`, `.` or `-`
abbrev pub is_later_byte : ℕ → Bool
is_later_byte b = (((is_first_byte b || b == 32) || b == 64) || b == 46) || b == 45

-- whether the byte is allowed at this place of a name
abbrev pub may_stand : ℕ → ℕ → Bool
may_stand zero b = is_first_byte b
may_stand (suc place) b = is_later_byte b

-- the most bytes of a name
abbrev pub longest_name : ℕ
longest_name = 256

-- at least one byte, but not too many, each of them allowed at its place, and the last no space
pub record IsName (s : List ℕ) : Type 0 where
  pub least : 1 ≤ length s
  pub most : length s ≤ longest_name
  pub bytes : (place : ℕ) → place < length s → may_stand place (slice_index s place) ≡ true
  pub end : slice_index s (length s - 1) ≢ 32

-- each byte below this place is allowed at its place
abbrev pub AreGoodBelow : ℕ → List ℕ → Type 0
AreGoodBelow n s = (place : ℕ) → place < n → may_stand place (slice_index s place) ≡ true

-- the fault holds, and no fault before it in the order empty, too long, a wrong byte, a space at the end
abbrev pub IsFirstFault : List ℕ → NameRefusal → Type 0
IsFirstFault s Empty = length s ≡ 0
IsFirstFault s TooLong = longest_name < length s
IsFirstFault s (BadChar place) = (length s ≤ longest_name) × (place < length s) × (may_stand place (slice_index s place) ≡ false) × AreGoodBelow place s
IsFirstFault s EndsInSpace = (length s ≤ longest_name) × AreGoodBelow (length s) s × (slice_index s (length s - 1) ≡ 32)
IsFirstFault s BadPath = ⊥
IsFirstFault s NoMemory = ⊥

-- ---- the same as a value, which calls return

-- the first place whose byte is not allowed there
abbrev pub wrong_place : List ℕ → Option ℕ
wrong_place s = position (λ p. not (may_stand p.0 p.1)) (enumerate_from 0 s)

abbrev pub place_or_end : Option ℕ → ℕ → Option NameRefusal
place_or_end (Some place) last = Some (BadChar place)
place_or_end None last = if last == 32 then Some EndsInSpace else None

-- the first fault, or none of a name
abbrev pub first_fault : List ℕ → Option NameRefusal
first_fault s = if length s == 0 then Some Empty else if nat_lt longest_name (length s) then Some TooLong else place_or_end (wrong_place s) (slice_index s (length s - 1))
