-- Loops over a list, of which what is left gets shorter by its first.
use Rattle.std.proofs.Common.{◌≡◌, ◌+◌, ◌<◌, ℕ, List, ◌∷◌, ◌++◌, [], length, get_or, drop, map, max, sym, ap, ◌∙◌, arith, append_assoc}
use Rattle.std.specs.List.{flat_map}
use Rattle.std.proofs.lemmas.List.{drop_more}
use Rattle.ow_traits.specs.declared.change_list.Change.{Change}
use Rattle.ow_commits.specs.Archiving.{last_end, retire_of}
use Rattle.ow_commits.specs.Commits.{end_changes}
use Rattle.ow_row_text.specs.declared.item.Item.TheVariants as items
use Rattle.ow_commits.specs.Keeping.{done_bytes, row_bytes}
use Rattle.ow_row_text.specs.Bytes.{bytes_of}
use Rattle.ow_row_text.specs.Sorted.{Entries}
use Rattle.ow_commits.specs.Opening.{abandoned, opens_bytes}
use Rattle.ow_records.specs.declared.record.Record.{Record}
use Rattle.ow_records.specs.declared.unrecorded.Unrecorded.{Unrecorded}
use Rattle.ow_records.specs.Unrecorded.{abandoned_record}

pub next_left : {X : Type 0} (xs : List X) (i : ℕ) (x : X) → i < length xs → x ≡ get_or xs i x → drop i xs ≡ x ∷ drop (i + 1) xs
next_left xs i x h is = drop_more xs i x h ∙ ap (λ y. y ∷ drop (i + 1) xs) (sym is)

-- of activations that are abandoned
pub abandoned_gathered : (at : ℕ) (us : List Unrecorded) (i : ℕ) (x : Unrecorded) (mid new start : List Change) → i < length us → x ≡ get_or us i x → mid ++ flat_map end_changes (abandoned at (drop i us)) ≡ start
    → new ≡ mid ++ end_changes (abandoned_record x at) → new ++ flat_map end_changes (abandoned at (drop (i + 1) us)) ≡ start
abandoned_gathered at us i x mid new start h is before now =
    ap (λ cs. cs ++ flat_map end_changes (abandoned at (drop (i + 1) us))) now
    ∙ append_assoc mid (end_changes (abandoned_record x at)) (flat_map end_changes (abandoned at (drop (i + 1) us)))
    ∙ ap (λ ds. mid ++ flat_map end_changes (abandoned at ds)) (sym (next_left us i x h is))
    ∙ before

pub abandoned_counted : (at : ℕ) (us : List Unrecorded) (i : ℕ) (x : Unrecorded) (mid new start : ℕ) → i < length us → x ≡ get_or us i x
    → mid + opens_bytes us + done_bytes (abandoned at (drop i us)) ≡ start + done_bytes (abandoned at us) + opens_bytes (drop i us) → new + row_bytes (items.Open x) ≡ mid + row_bytes (items.Done (abandoned_record x at))
    → new + opens_bytes us + done_bytes (abandoned at (drop (i + 1) us)) ≡ start + done_bytes (abandoned at us) + opens_bytes (drop (i + 1) us)
abandoned_counted at us i x mid new start h is before now =
    let done : done_bytes (abandoned at (drop i us)) ≡ row_bytes (items.Done (abandoned_record x at)) + done_bytes (abandoned at (drop (i + 1) us)) = ap (λ ds. done_bytes (abandoned at ds)) (next_left us i x h is) in
    let ended : opens_bytes (drop i us) ≡ row_bytes (items.Open x) + opens_bytes (drop (i + 1) us) = ap opens_bytes (next_left us i x h is) in
    omega (arith, before, now, done, ended)

-- of rows
pub rows_counted : (rows : Entries) (i : ℕ) (x : List ℕ × List ℕ) (total new : ℕ) → i < length rows → x ≡ get_or rows i x → total + bytes_of (drop i rows) ≡ bytes_of rows → new ≡ total + (length x.0 + length x.1)
    → new + bytes_of (drop (i + 1) rows) ≡ bytes_of rows
rows_counted rows i x total new h is before now =
    let left : bytes_of (drop i rows) ≡ length x.0 + length x.1 + bytes_of (drop (i + 1) rows) = ap bytes_of (next_left rows i x h is) in
    omega (arith, before, now, left)

-- of records that are archived
pub retired_gathered : (ds : List Record) (i : ℕ) (x : Record) (mid new start : List Change) → i < length ds → x ≡ get_or ds i x → mid ++ map retire_of (drop i ds) ≡ start → new ≡ mid ++ retire_of x ∷ []
    → new ++ map retire_of (drop (i + 1) ds) ≡ start
retired_gathered ds i x mid new start h is before now =
    ap (λ cs. cs ++ map retire_of (drop (i + 1) ds)) now
    ∙ append_assoc mid (retire_of x ∷ []) (map retire_of (drop (i + 1) ds))
    ∙ ap (λ xs. mid ++ map retire_of xs) (sym (next_left ds i x h is))
    ∙ before

pub retired_counted : (ds : List Record) (i : ℕ) (x : Record) (mid new start : ℕ) → i < length ds → x ≡ get_or ds i x → mid + done_bytes ds ≡ start + done_bytes (drop i ds) → new + row_bytes (items.Done x) ≡ mid
    → new + done_bytes ds ≡ start + done_bytes (drop (i + 1) ds)
retired_counted ds i x mid new start h is before now =
    let left : done_bytes (drop i ds) ≡ row_bytes (items.Done x) + done_bytes (drop (i + 1) ds) = ap done_bytes (next_left ds i x h is) in
    omega (arith, before, now, left)

pub ends_counted : (ds : List Record) (i : ℕ) (x : Record) (mid new all : ℕ) → i < length ds → x ≡ get_or ds i x → last_end mid (drop i ds) ≡ all → new ≡ max mid x.span.end → last_end new (drop (i + 1) ds) ≡ all
ends_counted ds i x mid new all h is before now = ap (λ n. last_end n (drop (i + 1) ds)) now ∙ ap (last_end mid) (sym (next_left ds i x h is)) ∙ before
