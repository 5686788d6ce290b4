-- What is committed of a note turns what was kept into what is kept with it.
use Rattle.std.proofs.Common.{◌≡◌, ◌+◌, ◌<◌, ◌≤◌, ℕ, add-one, Bool, true, false, cond, codes, List, [], ◌∷◌, ◌++◌, length, map, set, is_eq, Option, Some, None, refl, ap, ◌∙◌, subst, arith}
use Rattle.std.specs.Str.{bytes_eq}
use Rattle.std.proofs.lemmas.Map.Text.{is_eq-slice_cmp}
use Rattle.std.proofs.lemmas.Slice.Eq.{bytes_eq-Decides}
use Rattle.ow_value.specs.Value.{text_cmp}
use Rattle.ow_entity.specs.declared.rows.Row.{Row}
use Rattle.ow_traits.specs.Rows.{text_of}
use Rattle.ow_traits.specs.declared.change_list.Change.{Change}
use Rattle.ow_floor.specs.Trace.{Trace}
use Rattle.ow_row_text.specs.Bytes.{bytes_of, weight, weight_at}
use Rattle.ow_row_text.specs.Item.{item_text, note_key}
use Rattle.ow_row_text.specs.Sorted.{Makes}
use Rattle.ow_row_text.specs.declared.item.Item.TheVariants as items
use Rattle.ow_row_text.specs.declared.item.Note.{Note}
use Rattle.ow_row_text.proofs.Extent.{changes_kept}
use Rattle.ow_row_text.proofs.Lists.{put_after, put_before, put_first, put_over}
use Rattle.ow_commits.specs.Commits.{put_of}
use Rattle.ow_commits.specs.Keeping.{FollowingView, StandsFollowing, row_bytes}
use Rattle.ow_commits.specs.Kept.{OthersView, entries, kept, kept_whole, note_row, other_entries, others_bytes}
use Rattle.ow_commits.specs.Laws.{NotesAreKept}
use Rattle.ow_commits.specs.Noting.{note_of, noting, old_note_bytes, place_of, with_note}
use Rattle.ow_commits.specs.declared.open_bytes.OpenBytes.{OpenBytes}
use Rattle.ow_commits.proofs.Weights.{put_bytes}

-- ---- the rows of notes

-- the keys of the rows of two notes are equal where their keys are
key_test : (a b : List ℕ) (v : Bool) → bytes_eq a b ≡ v → is_eq (text_cmp (note_key a) (note_key b)) ≡ v
key_test a b v e =
    let same : is_eq (text_cmp (note_key a) (note_key b)) ≡ bytes_eq a b = is_eq-slice_cmp a b in
    same ∙ e

module _ (n : Note) where
  abbrev IsPut : List Note → List Note → Type 0
  IsPut old new = Makes (put_of (items.Note n) ∷ []) (map note_row old) (map note_row new)

  over_by : (m : Note) (ms : List Note) → n.key ≡ m.key → IsPut (m ∷ ms) (n ∷ ms)
  over_by m ms e =
      subst (λ (k : List ℕ). Makes (put_of (items.Note n) ∷ []) ((note_key k, item_text (items.Note m)) ∷ map note_row ms) (map note_row (n ∷ ms))) e
      (put_over (note_key n.key) (item_text (items.Note m)) (item_text (items.Note n)) (map note_row ms))

  put_by : (m : Note) (ms : List Note) (b : Bool) → bytes_eq n.key m.key ≡ b → IsPut ms (with_note n ms) → IsPut (m ∷ ms) (cond b (n ∷ ms) (m ∷ with_note n ms))
  put_by m ms true e rest = over_by m ms ((bytes_eq-Decides n.key m.key).0 e)
  put_by m ms false e rest =
      put_after (note_key n.key) (item_text (items.Note n)) (note_row m ∷ []) (map note_row ms) (map note_row (with_note n ms))
      (ap (λ b. cond b (Some (item_text (items.Note m))) None) (key_test n.key m.key false e)) rest

  note_put : (ns : List Note) → IsPut ns (with_note n ns)
  note_put [] = put_first (note_key n.key) (item_text (items.Note n)) []
  note_put (m ∷ ms) = put_by m ms (bytes_eq n.key m.key) refl (note_put ms)

  -- ---- all that is kept

  others_put : (o : OthersView) → Makes (put_of (items.Note n) ∷ []) (other_entries o) (other_entries (noting n o))
  others_put o =
      put_after (note_key n.key) (item_text (items.Note n)) ((codes "archived", item_text (items.Archive o.archive)) ∷ []) (map note_row o.notes) (map note_row (with_note n o.notes)) refl (note_put o.notes)

pub notes_kept : NotesAreKept
unfolding kept_whole
notes_kept o n rs T =
    changes_kept (put_of (items.Note n) ∷ []) (other_entries o ++ entries rs T) (other_entries (noting n o) ++ entries rs T)
    (put_before (note_key n.key) (item_text (items.Note n)) (other_entries o) (other_entries (noting n o)) (entries rs T) (others_put n o))

-- ---- bytes

old_by : (key : List ℕ) (m : Note) (ms : List Note) (b : Bool) → bytes_eq key m.key ≡ b
    → weight (note_key key) (text_of (note_key key) (map note_row ms)) ≡ old_note_bytes key (note_of key ms)
    → weight (note_key key) (cond b (Some (item_text (items.Note m))) (text_of (note_key key) (map note_row ms))) ≡ old_note_bytes key (cond b (Some m.value) (note_of key ms))
unfolding item_text
old_by key m ms true e rest = refl
old_by key m ms false e rest = rest

-- of the row at the key of a note
old_weighs : (key : List ℕ) (ns : List Note) → weight (note_key key) (text_of (note_key key) (map note_row ns)) ≡ old_note_bytes key (note_of key ns)
old_weighs key [] = refl
old_weighs key (m ∷ ms) =
    ap (λ b. weight (note_key key) (cond b (Some (item_text (items.Note m))) (text_of (note_key key) (map note_row ms)))) (key_test key m.key (bytes_eq key m.key) refl)
    ∙ old_by key m ms (bytes_eq key m.key) refl (old_weighs key ms)

noting_weighs : (n : Note) (o : OthersView) → others_bytes (noting n o) + old_note_bytes n.key (note_of n.key o.notes) ≡ others_bytes o + row_bytes (items.Note n)
unfolding others_bytes
noting_weighs n o =
    let one = put_bytes (note_key n.key) (item_text (items.Note n)) (other_entries o) (other_entries (noting n o)) (others_put n o) in
    let old : weight_at (note_key n.key) (other_entries o) ≡ old_note_bytes n.key (note_of n.key o.notes) = old_weighs n.key o.notes in
    omega (arith, one, old)

-- ---- the call

pub record IsNoting (v : FollowingView) (n : Note) (old : Option ℕ) (c : FollowingView) : Type 0 where
  pub changes : c.changes ≡ v.changes ++ put_of (items.Note n) ∷ []
  pub bytes : (o : OthersView) (rest : ℕ) → v.bytes ≡ others_bytes o + rest → old ≡ note_of n.key o.notes → c.bytes ≡ others_bytes (noting n o) + rest
  pub stands : (o : OthersView) (rs : List Row) (T : Trace) → StandsFollowing v o rs T → old ≡ note_of n.key o.notes → StandsFollowing c (noting n o) rs T

pub noting_done : (v : FollowingView) (n : Note) (old : Option ℕ) (c : FollowingView) (cs0 cs1 : List Change) (n0 n1 : ℕ) (os : List OpenBytes) → cs0 ≡ v.changes → n0 ≡ v.bytes → os ≡ v.opens
    → cs1 ≡ cs0 ++ put_of (items.Note n) ∷ [] → n1 + old_note_bytes n.key old ≡ n0 + row_bytes (items.Note n) → c ≡ record { changes = cs1; bytes = n1; opens = os } → IsNoting v n old c
noting_done v n old c cs0 cs1 n0 n1 os start first copied put more is =
    let is_bytes : c.bytes ≡ n1 = ap (λ (x : FollowingView). x.bytes) is in
    let weighs : (o : OthersView) (rest : ℕ) → v.bytes ≡ others_bytes o + rest → old ≡ note_of n.key o.notes → c.bytes ≡ others_bytes (noting n o) + rest
    = λ o rest now same.
    let all = noting_weighs n o in
    let less : old_note_bytes n.key old ≡ old_note_bytes n.key (note_of n.key o.notes) = ap (old_note_bytes n.key) same in
    omega (arith, all, less, now, is_bytes, first, more) in
    record {
      changes = ap (λ (x : FollowingView). x.changes) is ∙ (put ∙ ap (λ (cs : List Change). cs ++ put_of (items.Note n) ∷ []) start);
      bytes = weighs;
      stands = λ o rs T stands same. record {
        bytes = weighs o (bytes_of (kept rs T)) stands.bytes same;
        opens = ap (λ (x : FollowingView). x.opens) is ∙ (copied ∙ stands.opens);
        ids = stands.ids;
      };
    }

-- ---- the place of a note

-- the note is set at its place
set_by : (n m : Note) (ms : List Note) (b : Bool) → cond b 0 (place_of n ms + 1) < length ms + 1 → (place_of n ms < length ms → set ms (place_of n ms) n ≡ with_note n ms)
    → set (m ∷ ms) (cond b 0 (place_of n ms + 1)) n ≡ cond b (n ∷ ms) (m ∷ with_note n ms)
set_by n m ms true lt rest = refl
set_by n m ms false lt rest = rw add-one (ap (λ zs. m ∷ zs) (rest (omega (arith, lt))))

set_there : (n : Note) (ns : List Note) → place_of n ns < length ns → set ns (place_of n ns) n ≡ with_note n ns
set_there n [] lt = absurd (omega (arith, lt))
set_there n (m ∷ ms) lt = set_by n m ms (bytes_eq n.key m.key) (omega (arith, lt)) (set_there n ms)

-- or it comes after all others
push_by : (n m : Note) (ms : List Note) (b : Bool) → length ms + 1 ≤ cond b 0 (place_of n ms + 1) → (length ms ≤ place_of n ms → ms ++ n ∷ [] ≡ with_note n ms) → m ∷ (ms ++ n ∷ []) ≡ cond b (n ∷ ms) (m ∷ with_note n ms)
push_by n m ms true le rest = absurd (omega (arith, le))
push_by n m ms false le rest = ap (λ zs. m ∷ zs) (rest (omega (arith, le)))

pushed : (n : Note) (ns : List Note) → length ns ≤ place_of n ns → ns ++ n ∷ [] ≡ with_note n ns
pushed n [] le = refl
pushed n (m ∷ ms) le = push_by n m ms (bytes_eq n.key m.key) (omega (arith, le)) (pushed n ms)

pub set_at : (n : Note) (ns : List Note) (place : ℕ) → place ≡ place_of n ns → place < length ns → set ns place n ≡ with_note n ns
set_at n ns place is lt = ap (λ i. set ns i n) is ∙ set_there n ns (omega (arith, is, lt))

pub pushed_at : (n : Note) (ns all : List Note) (place : ℕ) → place ≡ place_of n ns → length ns ≤ place → all ≡ ns ++ n ∷ [] → all ≡ with_note n ns
pushed_at n ns all place is le more = more ∙ pushed n ns (omega (arith, is, le))
