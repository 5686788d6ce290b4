-- Changes of a list whose elements are rows each, by the place at which they are made.
use Rattle.std.proofs.Common.{◌≡◌, ℕ, List, [], ◌∷◌, Bool, true, false, cond, map, Option, Some, None, is_eq, refl, sym, ap, ◌∙◌, subst}
use Rattle.std.specs.Str.{bytes_eq}
use Rattle.std.proofs.lemmas.Map.Text.{is_eq-slice_cmp}
use Rattle.ow_value.specs.Value.{text_cmp}
use Rattle.ow_traits.specs.Rows.{text_of}
use Rattle.ow_traits.specs.declared.change_list.Change.TheVariants.{Put, Drop as Dropped}
use Rattle.ow_row_text.specs.Sorted.{Entries, Makes}
use Rattle.ow_row_text.proofs.Lists.{drop_after, put_after, put_over}
use Rattle.ow_row_text.proofs.Parts.{not_at}

-- nothing is done where the key isn't there
pub drop_nothing : (key : List ℕ) (es : Entries) → text_of key es ≡ None → Makes (Dropped key ∷ []) es es
drop_nothing key es none = record { each = λ q. at (bytes_eq q key) (text_of q es) (not_at q key es none) }
  where
    at : (b : Bool) (o : Option (List ℕ)) → (b ≡ true → o ≡ None) → o ≡ cond b None o
    at true o h = h refl
    at false o h = refl

one_dropped : (b c : Bool) (t : List ℕ) (old new : Option (List ℕ)) → c ≡ b → new ≡ cond b None old → new ≡ cond b None (cond c (Some t) old)
one_dropped true c t old new e h = h
one_dropped false true t old new e h = cc
one_dropped false false t old new e h = h

module _ {X : Type 0} (row : X → List ℕ × List ℕ) where
  -- a put in place of an element with the same key
  pub replaced : (x y : X) (xs : List X) → (row x).0 ≡ (row y).0 → Makes (Put (row x).0 (row x).1 ∷ []) (map row (y ∷ xs)) (map row (x ∷ xs))
  replaced x y xs same =
      subst (λ (k : List ℕ). Makes (Put (row x).0 (row x).1 ∷ []) ((k, (row y).1) ∷ map row xs) (map row (x ∷ xs))) same
      (put_over (row x).0 (row y).1 (row x).1 (map row xs))

  single : (key : List ℕ) (y : X) → is_eq (text_cmp key (row y).0) ≡ false → text_of key (row y ∷ []) ≡ None
  single key y differ = ap (λ b. cond b (Some (row y).1) None) differ

  -- a put after an element with another key
  pub put_behind : (x y : X) (xs ys : List X) → is_eq (text_cmp (row x).0 (row y).0) ≡ false → Makes (Put (row x).0 (row x).1 ∷ []) (map row xs) (map row ys)
      → Makes (Put (row x).0 (row x).1 ∷ []) (map row (y ∷ xs)) (map row (y ∷ ys))
  put_behind x y xs ys differ h = put_after (row x).0 (row x).1 (row y ∷ []) (map row xs) (map row ys) (single (row x).0 y differ) h

  pub drop_behind : (key : List ℕ) (y : X) (xs ys : List X) → is_eq (text_cmp key (row y).0) ≡ false → Makes (Dropped key ∷ []) (map row xs) (map row ys)
      → Makes (Dropped key ∷ []) (map row (y ∷ xs)) (map row (y ∷ ys))
  drop_behind key y xs ys differ h = drop_after key (row y ∷ []) (map row xs) (map row ys) (single key y differ) h

  -- a drop of one more element with the key
  pub dropped : (key : List ℕ) (x : X) (xs ys : List X) → key ≡ (row x).0 → Makes (Dropped key ∷ []) (map row xs) (map row ys) → Makes (Dropped key ∷ []) (map row (x ∷ xs)) (map row ys)
  dropped key x xs ys same h = record {
    each = λ q.
        one_dropped (bytes_eq q key) (is_eq (text_cmp q (row x).0)) (row x).1 (text_of q (map row xs)) (text_of q (map row ys))
        (is_eq-slice_cmp q (row x).0 ∙ ap (bytes_eq q) (sym same)) (h.each q);
  }
