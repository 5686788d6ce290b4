-- What is committed of changes of the rows and of moves is at no key of the archive and of notes.
use Rattle.std.proofs.Common.{◌≡◌, ◌+◌, ℕ, Bool, true, false, cond, List, [], ◌∷◌, ◌++◌, filter, is_eq, is_some, Option, Some, None, refl, sym, ap, ◌∙◌, subst}
use Rattle.std.specs.List.{AllByRecursion, flat_map}
use Rattle.std.specs.Str.{bytes_eq}
use Rattle.ow_value.specs.Value.{text_cmp}
use Rattle.ow_entity.specs.declared.rows.Row.{Row}
use Rattle.ow_traits.specs.Changes.{changed}
use Rattle.ow_traits.specs.Rows.{text_of}
use Rattle.ow_traits.specs.declared.change_list.Change.{Change}
use Rattle.ow_traits.specs.declared.change_list.Change.TheVariants.{Put, Drop as Dropped, Retire}
use Rattle.ow_floor.specs.Trace.{drawn, shown_records}
use Rattle.ow_floor.specs.declared.moves.Moved.{Moved}
use Rattle.ow_floor.specs.declared.moves.Moved.TheVariants as moves
use Rattle.ow_floor.proofs.Apart.{all_both as paired}
use Rattle.ow_floor.proofs.Firsts.{all_more}
use Rattle.ow_row_text.specs.Bytes.{bytes_of}
use Rattle.ow_row_text.specs.Item.{count_key, done_key, entity_key, open_key}
use Rattle.ow_row_text.specs.Sorted.{AreOtherKeys, Entries, after_at, change_key, changed_at, rows_of}
use Rattle.ow_row_text.specs.declared.item.Item.TheVariants as items
use Rattle.ow_row_text.proofs.Extent.{AreRows-changed, AreRows-rows_of, rows_of-rows, same, text_of-changed, text_of-rows_of}
use Rattle.ow_row_text.proofs.Others.{others_kept}
use Rattle.ow_row_text.proofs.Parts.{not_at}
use Rattle.ow_commits.specs.Commits.{changes_of, put_of, row_changes}
use Rattle.ow_commits.specs.Kept.{OthersView, entries, is_kept, kept, kept_whole, other_entries, others_bytes, unrecorded}
use Rattle.ow_commits.specs.Laws.{BytesBesideOthers, OthersStay}
use Rattle.ow_commits.proofs.Ids.{all_both}
use Rattle.ow_commits.proofs.Sections.{entries_are}
use Rattle.ow_commits.proofs.Whole.{AreFree, free_bytes, no_other, others_free, whole_kept}
use Rattle.ow_records.specs.declared.ids.Id.{Id}
use Rattle.ow_records.specs.Unrecorded.{unrecorded_of}
use Rattle.ow_tables.specs.Builtin.{is_builtin}
use Rattle.ow_tables.specs.Contents.{Change as TableChange}

-- ---- keys of rows and of activations

module _ (o : OthersView) where
  pub count_apart : (namespace : ℕ) → text_of (count_key namespace) (other_entries o) ≡ None
  count_apart namespace = no_other (count_key namespace) o refl (λ n. refl)

  pub row_apart : (r : Row) → text_of (entity_key r) (other_entries o) ≡ None
  row_apart r = no_other (entity_key r) o refl (λ n. refl)

  pub open_apart : (id : Id) → text_of (open_key id) (other_entries o) ≡ None
  open_apart id = no_other (open_key id) o refl (λ n. refl)

  pub done_apart : (id : Id) → text_of (done_key id) (other_entries o) ≡ None
  done_apart id = no_other (done_key id) o refl (λ n. refl)

  -- ---- changes

  abbrev IsApart : Change → Type 0
  IsApart c = text_of (change_key c) (other_entries o) ≡ None

  row_by : (r : Row) (from_start removes : Bool) → AllByRecursion IsApart (cond from_start [] (cond removes (Dropped (entity_key r)) (put_of (items.Row r)) ∷ []))
  row_by r true removes = tt
  row_by r false true = (row_apart r, tt)
  row_by r false false = (row_apart r, tt)

  rows_apart : (cs : List TableChange) → AllByRecursion IsApart (flat_map row_changes cs)
  rows_apart [] = tt
  rows_apart (c ∷ cs) = all_both IsApart (row_changes c) (flat_map row_changes cs) (row_by c.row (is_builtin c.row) c.removes) (rows_apart cs)

  move_apart : (m : Moved) → AllByRecursion IsApart (changes_of m)
  move_apart (moves.Accepted a) = (count_apart (unrecorded_of a).id.namespace, (open_apart (unrecorded_of a).id, tt))
  move_apart (moves.Ended r) = (open_apart r.id, (done_apart r.id, tt))
  move_apart (moves.Drawn id) = (count_apart id.namespace, tt)
  move_apart (moves.Fired r) = (done_apart r.id, tt)

  moves_apart : (ms : List Moved) → AllByRecursion IsApart (flat_map changes_of ms)
  moves_apart [] = tt
  moves_apart (m ∷ ms) = all_both IsApart (changes_of m) (flat_map changes_of ms) (move_apart m) (moves_apart ms)

  pub commits_apart : (cs : List TableChange) (ms : List Moved) → AreOtherKeys (other_entries o) (flat_map row_changes cs ++ flat_map changes_of ms)
  commits_apart cs ms = all_both IsApart (flat_map row_changes cs) (flat_map changes_of ms) (rows_apart cs) (moves_apart ms)

pub others_untouched : OthersStay
others_untouched o cs ms rs ss T U e = whole_kept o (flat_map row_changes cs ++ flat_map changes_of ms) rs ss T U (commits_apart o cs ms) e

-- ---- a key without a text stays without one

nothing : (b : Bool) → ◌≡◌ {A = Option (List ℕ)} (cond b None None) None
nothing true = refl
nothing false = refl

module _ (others : Entries) (q : List ℕ) (there : is_some (text_of q others) ≡ true) where
  not_put : (key text : List ℕ) (b : Bool) → bytes_eq q key ≡ b → text_of key others ≡ None → cond b (Some text) None ≡ None
  not_put key text true e none = let f : true ≡ false = sym there ∙ ap is_some (not_at q key others none e) in cc
  not_put key text false e none = refl

  none_after : (c : Change) → text_of (change_key c) others ≡ None → after_at c q None ≡ None
  none_after (Put key text) none = not_put key text (bytes_eq q key) refl none
  none_after (Dropped key) none = nothing (bytes_eq q key)
  none_after (Retire key text) none = nothing (bytes_eq q key)

  none_changed : (cs : List Change) → AreOtherKeys others cs → changed_at cs q None ≡ None
  none_changed [] h = refl
  none_changed (c ∷ cs) h = ap (changed_at cs q) (none_after c h.0) ∙ none_changed cs h.1

-- ---- entries have a text at their keys

with_more : (b : Bool) (t : List ℕ) (x : Option (List ℕ)) → is_some x ≡ true → is_some (cond b (Some t) x) ≡ true
with_more true t x h = refl
with_more false t x h = h

all_there : (es : Entries) → AllByRecursion (λ e. is_some (text_of e.0 es) ≡ true) es
all_there [] = tt
all_there (e ∷ es) = (
  ap (λ o. is_some (cond (is_eq o) (Some e.1) (text_of e.0 es))) (same e.0),
  all_more (λ x. is_some (text_of x.0 es) ≡ true) (λ x. is_some (text_of x.0 (e ∷ es)) ≡ true) es (λ x h. with_more (is_eq (text_cmp x.0 e.0)) e.1 (text_of x.0 es) h) (all_there es),
)

-- ---- bytes

module _ (others es : Entries) (cs : List Change) (free : AreFree others es) (apart : AreOtherKeys others cs) where
  abbrev New : Entries
  New = changed cs (rows_of es)

  still_free : AreFree others New
  still_free = all_more (λ e. (text_of e.0 es ≡ None) × (is_some (text_of e.0 others) ≡ true)) (λ e. text_of e.0 New ≡ None) others
      (λ e h. text_of-changed e.0 cs (rows_of es) (AreRows-rows_of es) ∙ (ap (changed_at cs e.0) (text_of-rows_of e.0 es ∙ h.0) ∙ none_changed others e.0 h.1 cs apart))
      (paired (λ e. text_of e.0 es ≡ None) (λ e. is_some (text_of e.0 others) ≡ true) others free (all_there others))

  own_rows : rows_of New ≡ New
  own_rows = rows_of-rows New (AreRows-changed cs (rows_of es) (AreRows-rows_of es))

  pub changed_bytes : bytes_of (changed cs (rows_of (others ++ es))) ≡ bytes_of (rows_of others) + bytes_of New
  changed_bytes = ap bytes_of (others_kept cs others es New apart (sym own_rows)) ∙ (free_bytes others New still_free ∙ ap (λ rows. bytes_of (rows_of others) + bytes_of rows) own_rows)

pub bytes_beside : BytesBesideOthers
unfolding kept kept_whole others_bytes
bytes_beside o cs ms rs T =
    changed_bytes (other_entries o) (entries rs T) (flat_map row_changes cs ++ flat_map changes_of ms)
    (subst (λ (es : Entries). AreFree (other_entries o) es) (sym (entries_are rs T)) (others_free o (drawn T) (filter is_kept rs) (unrecorded T) (shown_records T)))
    (commits_apart o cs ms)
