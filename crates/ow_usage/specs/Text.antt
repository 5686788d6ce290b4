-- The text that shows cells: a line for each and one for the totals, or rows of comma-separated values.
use Rattle.std.specs.Prelude.{◌≡◌, ◌++◌, ◌==◌, ◌||◌, ℕ, Bool, true, false, List, [], ◌∷◌, codes, pos, if◌then◌else◌}
use Rattle.std.specs.Char.{is_ascii_alphanumeric}
use Rattle.std.specs.Fmt.{decimal}
use Rattle.std.specs.List.{flat_map}
use Rattle.csv.specs.Writing.{default_writer, row_text}
use Rattle.jiff.specs.Words.{date_text, epoch_day}
use Rattle.jiff.specs.declared.civil.Date.{Date}
use Rattle.percent_encoding.specs.Percent.{percent_encode_byte}
use Rattle.ow_usage.specs.Cells.{Cells, Place, total}
use Rattle.ow_usage.specs.declared.totals.Totals.{Totals}

-- this is the text of the day, as 2026-12-01, of the calendar of ISO 8601
abbrev pub IsDayText : ℕ → List ℕ → Type 0
IsDayText day text = (d : Date) × (epoch_day d ≡ pos day) × (text ≡ date_text d)

-- the byte is written as it is: an ASCII letter or digit, `_`, `.`, `-`, `@` or `/`
abbrev pub is_plain : ℕ → Bool
is_plain b = is_ascii_alphanumeric b || (b == 95 || (b == 46 || (b == 45 || (b == 64 || b == 47))))

abbrev pub escape_byte : ℕ → List ℕ
escape_byte b = if is_plain b then b ∷ [] else percent_encode_byte b

-- a name, with each other byte as `%` and two hexadecimal digits
abbrev pub escaped : List ℕ → List ℕ
escaped name = flat_map escape_byte name

-- ` activations A failed F ms D mbms M` and a line end
unfoldable pub totals_text : Totals → List ℕ
totals_text t =
    codes " activations " ++ (decimal t.activations
    ++ (codes " failed " ++ (decimal t.failed
    ++ (codes " ms " ++ (decimal t.ms
    ++ (codes " mbms " ++ (decimal t.mbms
    ++ codes "\n")))))))

-- a cell as a line, and as a row of comma-separated values
abbrev pub cell_line : List ℕ → Place × Totals → List ℕ
cell_line day c = day ++ (32 ∷ (escaped c.0.1 ++ totals_text c.1))

abbrev pub cell_row : List ℕ → Place × Totals → List ℕ
cell_row day c =
    row_text default_writer (day ∷ c.0.1 ∷ decimal c.1.activations ∷ decimal c.1.failed ∷ decimal c.1.ms ∷ decimal c.1.mbms ∷ [])

-- each cell as this shows it with the text of its day
abbrev pub ShowsAll : (List ℕ → Place × Totals → List ℕ) → Cells → List ℕ → Type 0
ShowsAll show [] text = text ≡ []
ShowsAll show (c ∷ cs) text = (day rest : List ℕ) × IsDayText c.0.0 day × ShowsAll show cs rest × (text ≡ show day c ++ rest)

-- the names of the columns
unfoldable pub head_row : List ℕ
head_row =
    row_text default_writer (codes "day" ∷ codes "namespace" ∷ codes "activations" ∷ codes "failed" ∷ codes "ms" ∷ codes "mbms" ∷ [])

-- the lines of the cells and that of the totals
abbrev pub IsLines : Cells → List ℕ → Type 0
IsLines cells text = (lines : List ℕ) × ShowsAll cell_line cells lines × (text ≡ lines ++ (codes "total" ++ totals_text (total cells)))

-- the names of the columns and the rows of the cells
abbrev pub IsRows : Cells → List ℕ → Type 0
IsRows cells text = (rows : List ℕ) × ShowsAll cell_row cells rows × (text ≡ head_row ++ rows)

-- the text of usage, as lines or as comma-separated values
abbrev pub IsUsageText : Bool → Cells → List ℕ → Type 0
IsUsageText true cells text = IsRows cells text
IsUsageText false cells text = IsLines cells text
