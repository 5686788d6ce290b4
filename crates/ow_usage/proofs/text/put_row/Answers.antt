use Rattle.std.proofs.Common.{refl, string_bytes}
use Rattle.ow_usage.proofs.text.put_row.Goals as goal

pub returns : goal.returns
returns c =
    (string_bytes c.in_ok-day.day, c.in_ok-day.ensures, rw (c.in_ok-put.ensures, c.as_slice.ensures.value, c.in_ok-row.ensures, c.as_bytes.ensures.value) refl)
