-- The laws of kept rows.
use Rattle.std.proofs.Common.{◌≡◌, ℕ, List, [], ◌∷◌, ◌++◌, None, subst, append-nil}
use Rattle.ow_traits.specs.Rows.{text_of}
use Rattle.ow_traits.specs.declared.change_list.Change.TheVariants.{Put}
use Rattle.ow_row_text.specs.Laws.{EntryChanges, SectionChanges, BytesChange}
use Rattle.ow_row_text.specs.Sorted.{Entries, Makes}
use Rattle.ow_row_text.proofs.Bytes.{put_weighs, drop_weighs, weight_at-rows_of, bytes_of-rows_of}
use Rattle.ow_row_text.proofs.Lists.{drop_front, put_first, put_over, put_before, put_after, drop_before, drop_after}

put_last : (key text : List ℕ) (es : Entries) → text_of key es ≡ None → Makes (Put key text ∷ []) es (es ++ (key, text) ∷ [])
put_last key text es h = subst (λ old. Makes (Put key text ∷ []) old (es ++ (key, text) ∷ [])) (append-nil es) (put_after key text es [] ((key, text) ∷ []) h (put_first key text []))

pub entry_changes : EntryChanges
entry_changes = record {
  put_front = put_first;
  put_end = put_last;
  put_over = λ key old new before behind h. put_after key new before ((key, old) ∷ behind) ((key, new) ∷ behind) h (put_over key old new behind);
  drop_at = λ key text before behind h k. drop_after key before ((key, text) ∷ behind) behind h (drop_front key text behind k);
  retire = λ key text old new h. record { each = h.each };
}

pub section_changes : SectionChanges
section_changes = record { put_before = put_before; put_after = put_after; drop_before = drop_before; drop_after = drop_after }

pub bytes_change : BytesChange
bytes_change = record { put = put_weighs; drop = drop_weighs; weight = weight_at-rows_of; order = bytes_of-rows_of }
