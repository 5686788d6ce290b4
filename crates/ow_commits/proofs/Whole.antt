-- What is kept with the archive and the notes.
use Rattle.std.proofs.Common.{◌≡◌, ◌+◌, ℕ, List, [], ◌∷◌, ◌++◌, map, filter, cond, codes, false, Some, None, is_eq, refl, sym, ap, ◌∙◌, subst, arith}
use Rattle.std.specs.List.{AllByRecursion}
use Rattle.ow_entity.specs.declared.rows.Row.{Row}
use Rattle.ow_floor.specs.Trace.{Trace, drawn, shown_records}
use Rattle.ow_row_text.specs.Bytes.{bytes_of, weight, weight_at}
use Rattle.ow_row_text.specs.Item.{item_key, item_text}
use Rattle.ow_row_text.specs.Sorted.{AreOtherKeys, Entries, rows_of}
use Rattle.ow_row_text.specs.declared.item.Item.TheVariants as items
use Rattle.ow_row_text.specs.declared.item.Note.{Note}
use Rattle.ow_row_text.specs.declared.item.RowsVersion.TheVariants as versions
use Rattle.ow_row_text.proofs.Bytes.{put_weighs, weight_at-rows_of}
use Rattle.ow_row_text.proofs.Extent.{AreRows-rows_of}
use Rattle.ow_row_text.proofs.Lists.{absent_kind}
use Rattle.ow_row_text.proofs.Others.{others_kept}
use Rattle.ow_row_text.proofs.Parts.{text_of-append}
use Rattle.ow_traits.specs.Changes.{changed}
use Rattle.ow_traits.specs.Rows.{text_of}
use Rattle.ow_traits.specs.declared.change_list.Change.{Change}
use Rattle.ow_value.specs.Value.{text_cmp}
use Rattle.ow_commits.specs.Kept.{OthersView, entries, is_kept, kept, kept_whole, note_row, other_entries, others_bytes, unrecorded}
use Rattle.ow_commits.proofs.Sections.{both, count_of, done_of, entries_are, open_of, row_of, sections, version}
use Rattle.ow_commits.proofs.Weights.{or_none}
use Rattle.ow_records.specs.declared.ids.Id.{Id}
use Rattle.ow_records.specs.declared.record.Record.{Record}
use Rattle.ow_records.specs.declared.unrecorded.Unrecorded.{Unrecorded}

-- what turns the one kept state into the other one does so beside the archive and the notes
pub whole_kept : (o : OthersView) (cs : List Change) (rs ss : List Row) (T U : Trace) → AreOtherKeys (other_entries o) cs → changed cs (kept rs T) ≡ kept ss U → changed cs (kept_whole o rs T) ≡ kept_whole o ss U
unfolding kept kept_whole
whole_kept o cs rs ss T U h e = others_kept cs (other_entries o) (entries rs T) (entries ss U) h e

-- a key that is neither that of the archive nor of the kind of a note
pub no_other : (key : List ℕ) (o : OthersView) → is_eq (text_cmp key (codes "archived")) ≡ false → ((n : Note) → is_eq (text_cmp key (item_key (items.Note n))) ≡ false) → text_of key (other_entries o) ≡ None
no_other key o first rest = ap (λ b. cond b (Some (item_text (items.Archive o.archive))) (text_of key (map note_row o.notes))) first ∙ absent_kind note_row key o.notes rest

-- ---- bytes of entries of other keys

-- no entry of the first ones has a key of the others
abbrev pub AreFree : Entries → Entries → Type 0
AreFree a b = AllByRecursion (λ e. text_of e.0 b ≡ None) a

pub free_bytes : (a b : Entries) → AreFree a b → bytes_of (rows_of (a ++ b)) ≡ bytes_of (rows_of a) + bytes_of (rows_of b)
unfolding rows_of
free_bytes [] b free = omega arith
free_bytes (e ∷ a) b free =
    let one = put_weighs e.0 e.1 (rows_of (a ++ b)) (AreRows-rows_of (a ++ b)) in
    let two = put_weighs e.0 e.1 (rows_of a) (AreRows-rows_of a) in
    let rest = free_bytes a b free.1 in
    let same : weight_at e.0 (rows_of (a ++ b)) ≡ weight_at e.0 (rows_of a)
    = weight_at-rows_of e.0 (a ++ b) ∙ (ap (weight e.0) (text_of-append e.0 a b ∙ or_none (text_of e.0 a) (text_of e.0 b) free.0) ∙ sym (weight_at-rows_of e.0 a)) in
    omega (arith, one, two, rest, same)

-- a key of no kind that is kept of rows and activations
pub no_section : (key : List ℕ) (ids : List Id) (rs : List Row) (us : List Unrecorded) (ds : List Record) → is_eq (text_cmp key (codes "version")) ≡ false → ((id : Id) → is_eq (text_cmp key (count_of id).0) ≡ false)
    → ((r : Row) → is_eq (text_cmp key (row_of r).0) ≡ false) → ((u : Unrecorded) → is_eq (text_cmp key (open_of u).0) ≡ false) → ((d : Record) → is_eq (text_cmp key (done_of d).0) ≡ false)
    → text_of key (sections ids rs us ds) ≡ None
no_section key ids rs us ds first counts rows opens dones =
    both key version (map count_of ids ++ (map row_of rs ++ (map open_of us ++ map done_of ds))) (ap (λ b. cond b (Some (item_text (items.Version versions.Second))) None) first)
    (both key (map count_of ids) (map row_of rs ++ (map open_of us ++ map done_of ds)) (absent_kind count_of key ids counts)
    (both key (map row_of rs) (map open_of us ++ map done_of ds) (absent_kind row_of key rs rows)
    (both key (map open_of us) (map done_of ds) (absent_kind open_of key us opens) (absent_kind done_of key ds dones))))

notes_free : (ns : List Note) (es : Entries) → ((n : Note) → text_of (item_key (items.Note n)) es ≡ None) → AreFree (map note_row ns) es
notes_free [] es h = tt
notes_free (n ∷ ns) es h = (h n, notes_free ns es h)

pub others_free : (o : OthersView) (ids : List Id) (rs : List Row) (us : List Unrecorded) (ds : List Record) → AreFree (other_entries o) (sections ids rs us ds)
others_free o ids rs us ds = (
  no_section (codes "archived") ids rs us ds refl (λ id. refl) (λ r. refl) (λ u. refl) (λ d. refl),
  notes_free o.notes (sections ids rs us ds) (λ n. no_section (item_key (items.Note n)) ids rs us ds refl (λ id. refl) (λ r. refl) (λ u. refl) (λ d. refl)),
)

-- the bytes of the archive and the notes are counted beside those of the rest
pub others_weigh : (o : OthersView) (ids : List Id) (rs : List Row) (us : List Unrecorded) (ds : List Record)
    → bytes_of (rows_of (other_entries o ++ sections ids rs us ds)) ≡ others_bytes o + bytes_of (rows_of (sections ids rs us ds))
unfolding others_bytes
others_weigh o ids rs us ds = free_bytes (other_entries o) (sections ids rs us ds) (others_free o ids rs us ds)

pub whole_bytes : (o : OthersView) (rs : List Row) (T : Trace) → bytes_of (kept_whole o rs T) ≡ others_bytes o + bytes_of (kept rs T)
unfolding kept kept_whole
whole_bytes o rs T =
    subst (λ (es : Entries). bytes_of (rows_of (other_entries o ++ es)) ≡ others_bytes o + bytes_of (rows_of es)) (sym (entries_are rs T))
    (others_weigh o (drawn T) (filter is_kept rs) (unrecorded T) (shown_records T))
