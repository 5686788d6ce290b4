-- Changes of some entries, which follow others that have none of the changed keys.
use Rattle.std.proofs.Common.{◌≡◌, ℕ, List, [], ◌∷◌, ◌++◌, Bool, true, false, cond, Option, Some, None, refl, sym, ap, ◌∙◌}
use Rattle.std.specs.Str.{bytes_eq}
use Rattle.ow_traits.specs.Rows.{text_of}
use Rattle.ow_traits.specs.declared.change_list.Change.{Change}
use Rattle.ow_traits.specs.declared.change_list.Change.TheVariants.{Put, Drop as Dropped, Retire}
use Rattle.ow_traits.specs.Changes.{changed}
use Rattle.ow_row_text.specs.Laws.{OthersStay}
use Rattle.ow_row_text.specs.Sorted.{AreOtherKeys, Entries, Makes, after_at, change_key, changed_at, rows_of}
use Rattle.ow_row_text.proofs.Extent.{changes_kept, made_of_kept}
use Rattle.ow_row_text.proofs.Parts.{not_at, or_text, text_of-append}

module _ (others : Entries) (q t : List ℕ) (there : text_of q others ≡ Some t) where
  same_at : (key : List ℕ) (x : Option (List ℕ)) (b : Bool) → bytes_eq q key ≡ b → text_of key others ≡ None → cond b x (Some t) ≡ Some t
  same_at key x true p none = let f : None ≡ Some t = sym (not_at q key others none p) ∙ there in cc
  same_at key x false p none = refl

  after_other : (c : Change) → text_of (change_key c) others ≡ None → after_at c q (Some t) ≡ Some t
  after_other (Put key text) none = same_at key (Some text) (bytes_eq q key) refl none
  after_other (Dropped key) none = same_at key None (bytes_eq q key) refl none
  after_other (Retire key text) none = same_at key None (bytes_eq q key) refl none

  stays : (cs : List Change) → AreOtherKeys others cs → changed_at cs q (Some t) ≡ Some t
  stays [] h = refl
  stays (c ∷ cs) h = ap (changed_at cs q) (after_other c h.0) ∙ stays cs h.1

by_text : (cs : List Change) (others old new : Entries) (q : List ℕ) → AreOtherKeys others cs → text_of q new ≡ changed_at cs q (text_of q old)
    → (o : Option (List ℕ)) → text_of q others ≡ o → or_text o (text_of q new) ≡ changed_at cs q (or_text o (text_of q old))
by_text cs others old new q h made None p = made
by_text cs others old new q h made (Some t) p = sym (stays others q t p cs h)

pub others_made : (cs : List Change) (others old new : Entries) → AreOtherKeys others cs → Makes cs old new → Makes cs (others ++ old) (others ++ new)
others_made cs others old new h made = record {
  each = λ q.
      text_of-append q others new
      ∙ by_text cs others old new q h (made.each q) (text_of q others) refl
      ∙ ap (changed_at cs q) (sym (text_of-append q others old));
}

pub others_kept : (cs : List Change) (others old new : Entries) → AreOtherKeys others cs → changed cs (rows_of old) ≡ rows_of new → changed cs (rows_of (others ++ old)) ≡ rows_of (others ++ new)
others_kept cs others old new h e = changes_kept cs (others ++ old) (others ++ new) (others_made cs others old new h (made_of_kept cs old new e))

pub others_stay : OthersStay
others_stay = record { made = others_made; kept = others_kept }
