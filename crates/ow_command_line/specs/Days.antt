-- Days of the calendar, as words name them.
use Rattle.std.specs.Prelude.{◌+◌, ◌*◌, ◌-◌, ◌&&◌, ◌==◌, ℕ, Bool, nat_le, List, length, slice_index, Option, Some, None, if◌then◌else◌, pos, unsigned_abs}
use Rattle.jiff_core.specs.Calendar.{days_from_civil, days_in_month}

-- the byte is an ASCII digit
abbrev pub is_digit : ℕ → Bool
is_digit b = nat_le 48 b && nat_le b 57

-- the number of two digits
abbrev pub two : ℕ → ℕ → ℕ
two a b = (a - 48) * 10 + (b - 48)

-- a date of the calendar of ISO 8601, from 1970 on
abbrev pub is_date : (year month day : ℕ) → Bool
is_date year month day = nat_le 1970 year && (nat_le 1 month && (nat_le month 12 && (nat_le 1 day && nat_le day (days_in_month (pos year) month))))

-- the number of a day, counted from 1970-01-01, up to the last one, 9999-12-31
abbrev pub counted_day : ℕ → Option ℕ
counted_day n = if nat_le n 2932896 then Some n else None

abbrev pub day_numbered : (year month day : ℕ) → Option ℕ
day_numbered year month day = if is_date year month day then counted_day (unsigned_abs (days_from_civil (pos year) month day)) else None

abbrev pub byte_at : List ℕ → ℕ → ℕ
byte_at text i = slice_index text i

-- ten bytes, YYYY-MM-DD
abbrev pub has_form : List ℕ → Bool
has_form text = is_digit (byte_at text 0) && (is_digit (byte_at text 1) && (is_digit (byte_at text 2) && (is_digit (byte_at text 3) && (byte_at text 4 == 45
    && (is_digit (byte_at text 5) && (is_digit (byte_at text 6) && (byte_at text 7 == 45 && (is_digit (byte_at text 8) && is_digit (byte_at text 9)))))))))

-- the day that a text names as YYYY-MM-DD, by its number
abbrev pub day_in : List ℕ → Option ℕ
day_in text = if length text == 10 && has_form text then
    day_numbered (two (byte_at text 0) (byte_at text 1) * 100 + two (byte_at text 2) (byte_at text 3)) (two (byte_at text 5) (byte_at text 6)) (two (byte_at text 8) (byte_at text 9)) else None
