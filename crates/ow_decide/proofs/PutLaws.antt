-- What is put is stored where the store has room for it.
use Rattle.std.proofs.Common.{◌≡◌, ◌∙◌, ◌+◌, ℕ, Bool, false, List, Result, Ok, sym, ap}
use Rattle.ow_entity.specs.declared.rows.Row.{Row}
use Rattle.ow_http.specs.Steps.{◌>>=◌}
use Rattle.ow_http.specs.declared.reason.Reason.{Reason}
use Rattle.ow_row_text.specs.Bytes.{bytes_of}
use Rattle.ow_commits.specs.Commits.{row_changes}
use Rattle.ow_commits.specs.Kept.{kept, others_bytes}
use Rattle.ow_tables.specs.Contents.{Change}
use Rattle.ow_tables.specs.Rows.{with_row}
use Rattle.ow_traits.specs.Changes.{changed}
use Rattle.ow_decide.specs.Asking.{Changed, Done, put_of, row_done}
use Rattle.ow_decide.specs.Reasons.{store_full}
use Rattle.ow_reads.specs.Shown.{shown_row}
use Rattle.ow_decide.specs.Sight.{Sight, is_store_full}
use Rattle.ow_reads.specs.Steps.{unless}

-- what is done of a row, by what is known of the room of the store
abbrev by_room : Sight → Change → Bool → Result Done Reason
by_room S ready b = unless b store_full >>= (λ (room : Unit {0}). Ok (Changed ready (shown_row (with_row ready.row S.rows) ready.row)))

is_put : (ready : Change) → ready.removes ≡ false → ready ≡ put_of ready.row
is_put ready puts = ap (λ (b : Bool). record { row = ready.row; removes = b }) puts

-- the kept rows have this many bytes with it
pub row_done_by : (S : Sight) (rs : List Row) (ready : Change) (bytes : ℕ) (b : Bool) → S.rows ≡ rs → ready.removes ≡ false → bytes ≡ others_bytes S.others + bytes_of (changed (row_changes ready) (kept rs S.trace))
    → b ≡ is_store_full bytes → by_room S ready b ≡ row_done S ready.row
row_done_by S rs ready bytes b rows puts is test =
    ap (by_room S ready) (test ∙ (ap is_store_full is ∙ ap (λ (xs : List Row). is_store_full (others_bytes S.others + bytes_of (changed (row_changes ready) (kept xs S.trace)))) (sym rows)))
    ∙ ap (λ (c : Change). unless (is_store_full (others_bytes S.others + bytes_of (changed (row_changes c) (kept S.rows S.trace)))) store_full >>= (λ (room : Unit {0}). Ok (Changed c (shown_row (with_row ready.row S.rows) ready.row)))) (is_put ready puts)
