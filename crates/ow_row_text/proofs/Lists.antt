-- Changes of a list whose elements are rows each.
use Rattle.std.proofs.Common.{◌≡◌, ℕ, List, [], ◌∷◌, ◌++◌, Bool, true, false, cond, map, Option, Some, None, is_eq, refl, sym, ap, ◌∙◌}
use Rattle.std.specs.Str.{bytes_eq}
use Rattle.std.proofs.lemmas.Map.Text.{is_eq-slice_cmp}
use Rattle.ow_value.specs.Value.{text_cmp}
use Rattle.ow_traits.specs.Rows.{text_of}
use Rattle.ow_traits.specs.declared.change_list.Change.{Change}
use Rattle.ow_traits.specs.declared.change_list.Change.TheVariants.{Put, Drop as Dropped}
use Rattle.ow_row_text.specs.Lists.{Lacks}
use Rattle.ow_row_text.specs.Sorted.{Entries, Makes, changed_at}
use Rattle.ow_row_text.proofs.Parts.{text_of-append, or_text, not_at}

-- ---- one change after another

changed_at-then : (a b : List Change) (q : List ℕ) (o : Option (List ℕ)) → changed_at (a ++ b) q o ≡ changed_at b q (changed_at a q o)
changed_at-then [] b q o = refl
changed_at-then (c ∷ a) b q o = changed_at-then a b q _

pub makes_then : (a b : List Change) (old mid new : Entries) → Makes a old mid → Makes b mid new → Makes (a ++ b) old new
makes_then a b old mid new h k = record { each = λ q. k.each q ∙ ap (changed_at b q) (h.each q) ∙ sym (changed_at-then a b q (text_of q old)) }

-- ---- the elements of a list

module _ {X : Type 0} (row : X → List ℕ × List ℕ) where
  pub absent : (key : List ℕ) (xs : List X) → Lacks row key xs → text_of key (map row xs) ≡ None
  absent key [] h = refl
  absent key (x ∷ xs) h = ap (λ b. cond b (Some (row x).1) (text_of key (map row xs))) h.0 ∙ absent key xs h.1

  -- where the kind of key is another
  pub absent_kind : (key : List ℕ) (xs : List X) → ((x : X) → is_eq (text_cmp key (row x).0) ≡ false) → text_of key (map row xs) ≡ None
  absent_kind key [] h = refl
  absent_kind key (x ∷ xs) h = ap (λ b. cond b (Some (row x).1) (text_of key (map row xs))) (h x) ∙ absent_kind key xs h

  one : (q : List ℕ) (x : X) (o : Option (List ℕ)) → cond (is_eq (text_cmp q (row x).0)) (Some (row x).1) o ≡ cond (bytes_eq q (row x).0) (Some (row x).1) o
  one q x o = ap (λ b. cond b (Some (row x).1) o) (is_eq-slice_cmp q (row x).0)

  pub put_front : (x : X) (xs : List X) → Makes (Put (row x).0 (row x).1 ∷ []) (map row xs) (map row (x ∷ xs))
  put_front x xs = record { each = λ q. one q x (text_of q (map row xs)) }

  map-append : (xs ys : List X) → map row (xs ++ ys) ≡ map row xs ++ map row ys
  map-append [] ys = refl
  map-append (x ∷ xs) ys = ap (λ z. row x ∷ z) (map-append xs ys)

  end_by : (b : Bool) (t : List ℕ) (o : Option (List ℕ)) → (b ≡ true → o ≡ None) → or_text o (cond b (Some t) None) ≡ cond b (Some t) o
  end_by true t o h = ap (λ w. or_text w (Some t)) (h refl)
  end_by false t None h = refl
  end_by false t (Some s) h = refl

  pub put_end : (x : X) (xs : List X) → Lacks row (row x).0 xs → Makes (Put (row x).0 (row x).1 ∷ []) (map row xs) (map row (xs ++ x ∷ []))
  put_end x xs h = record {
    each = λ q.
        ap (text_of q) (map-append xs (x ∷ []))
        ∙ text_of-append q (map row xs) (row x ∷ [])
        ∙ ap (or_text (text_of q (map row xs))) (one q x None)
        ∙ end_by (bytes_eq q (row x).0) (row x).1 (text_of q (map row xs)) (not_at q (row x).0 (map row xs) (absent (row x).0 xs h));
  }

  gone_by : (b c : Bool) (t : List ℕ) (x y : Option (List ℕ)) → b ≡ c → (b ≡ true → x ≡ None) → (b ≡ true → y ≡ None) → or_text x y ≡ cond b None (or_text x (cond c (Some t) y))
  gone_by true c t x y e h k = ap (λ w. or_text w y) (h refl) ∙ k refl
  gone_by false true t x y e h k = cc
  gone_by false false t x y e h k = refl

  pub drop_at : (x : X) (xs ys : List X) → Lacks row (row x).0 xs → Lacks row (row x).0 ys → Makes (Dropped (row x).0 ∷ []) (map row (xs ++ x ∷ ys)) (map row (xs ++ ys))
  drop_at x xs ys h k = record {
    each = λ q.
        let a = text_of q (map row xs) in
        let b = text_of q (map row ys) in
        let whole : text_of q (map row (xs ++ x ∷ ys)) ≡ or_text a (cond (is_eq (text_cmp q (row x).0)) (Some (row x).1) b) = ap (text_of q) (map-append xs (x ∷ ys)) ∙ text_of-append q (map row xs) (map row (x ∷ ys)) in
        ap (text_of q) (map-append xs ys)
        ∙ text_of-append q (map row xs) (map row ys)
        ∙ gone_by (bytes_eq q (row x).0) (is_eq (text_cmp q (row x).0)) (row x).1 a b (sym (is_eq-slice_cmp q (row x).0))
        (not_at q (row x).0 (map row xs) (absent (row x).0 xs h)) (not_at q (row x).0 (map row ys) (absent (row x).0 ys k))
        ∙ ap (cond (bytes_eq q (row x).0) None) (sym whole);
  }

over : (b c : Bool) (t u : List ℕ) (x : Option (List ℕ)) → c ≡ b → cond c (Some u) x ≡ cond b (Some u) (cond c (Some t) x)
over true c t u x e = rw e refl
over false c t u x e = rw e refl

-- a text in place of another
pub put_over : (key old new : List ℕ) (rest : Entries) → Makes (Put key new ∷ []) ((key, old) ∷ rest) ((key, new) ∷ rest)
put_over key old new rest = record { each = λ q. over (bytes_eq q key) (is_eq (text_cmp q key)) old new (text_of q rest) (is_eq-slice_cmp q key) }

-- the first entry
pub put_first : (key text : List ℕ) (rest : Entries) → Makes (Put key text ∷ []) rest ((key, text) ∷ rest)
put_first key text rest = record { each = λ q. ap (λ b. cond b (Some text) (text_of q rest)) (is_eq-slice_cmp q key) }

first_gone : (b c : Bool) (t : List ℕ) (x : Option (List ℕ)) → c ≡ b → (b ≡ true → x ≡ None) → x ≡ cond b None (cond c (Some t) x)
first_gone true c t x e h = h refl
first_gone false true t x e h = cc
first_gone false false t x e h = refl

pub drop_front : (key text : List ℕ) (rest : Entries) → text_of key rest ≡ None → Makes (Dropped key ∷ []) ((key, text) ∷ rest) rest
drop_front key text rest h = record { each = λ q. first_gone (bytes_eq q key) (is_eq (text_cmp q key)) text (text_of q rest) (is_eq-slice_cmp q key) (not_at q key rest h) }

-- ---- two lists one after another

-- a change in the first list: a put, or a drop of a key that the second list lacks
pub put_before : (key text : List ℕ) (old new behind : Entries) → Makes (Put key text ∷ []) old new → Makes (Put key text ∷ []) (old ++ behind) (new ++ behind)
put_before key text old new behind h = record {
  each = λ q. text_of-append q new behind ∙ ap (λ w. or_text w (text_of q behind)) (h.each q) ∙ put_or (bytes_eq q key) text (text_of q old) (text_of q behind) ∙ ap (cond (bytes_eq q key) (Some text)) (sym (text_of-append q old behind));
}
  where
    put_or : (b : Bool) (t : List ℕ) (x y : Option (List ℕ)) → or_text (cond b (Some t) x) y ≡ cond b (Some t) (or_text x y)
    put_or true t x y = refl
    put_or false t x y = refl

pub put_after : (key text : List ℕ) (before old new : Entries) → text_of key before ≡ None → Makes (Put key text ∷ []) old new → Makes (Put key text ∷ []) (before ++ old) (before ++ new)
put_after key text before old new absent h = record {
  each = λ q. text_of-append q before new ∙ ap (or_text (text_of q before)) (h.each q) ∙ put_or (bytes_eq q key) text (text_of q before) (text_of q old) (not_at q key before absent) ∙ ap (cond (bytes_eq q key) (Some text)) (sym (text_of-append q before old));
}
  where
    put_or : (b : Bool) (t : List ℕ) (x y : Option (List ℕ)) → (b ≡ true → x ≡ None) → or_text x (cond b (Some t) y) ≡ cond b (Some t) (or_text x y)
    put_or true t x y h = ap (λ w. or_text w (Some t)) (h refl)
    put_or false t x y h = refl

pub drop_before : (key : List ℕ) (old new behind : Entries) → text_of key behind ≡ None → Makes (Dropped key ∷ []) old new → Makes (Dropped key ∷ []) (old ++ behind) (new ++ behind)
drop_before key old new behind absent h = record {
  each = λ q. text_of-append q new behind ∙ ap (λ w. or_text w (text_of q behind)) (h.each q) ∙ drop_or (bytes_eq q key) (text_of q old) (text_of q behind) (not_at q key behind absent) ∙ ap (cond (bytes_eq q key) None) (sym (text_of-append q old behind));
}
  where
    drop_or : (b : Bool) (x y : Option (List ℕ)) → (b ≡ true → y ≡ None) → or_text (cond b None x) y ≡ cond b None (or_text x y)
    drop_or true x y h = h refl
    drop_or false x y h = refl

pub drop_after : (key : List ℕ) (before old new : Entries) → text_of key before ≡ None → Makes (Dropped key ∷ []) old new → Makes (Dropped key ∷ []) (before ++ old) (before ++ new)
drop_after key before old new absent h = record {
  each = λ q. text_of-append q before new ∙ ap (or_text (text_of q before)) (h.each q) ∙ drop_or (bytes_eq q key) (text_of q before) (text_of q old) (not_at q key before absent) ∙ ap (cond (bytes_eq q key) None) (sym (text_of-append q before old));
}
  where
    drop_or : (b : Bool) (x y : Option (List ℕ)) → (b ≡ true → x ≡ None) → or_text x (cond b None y) ≡ cond b None (or_text x y)
    drop_or true x y h = ap (λ w. or_text w None) (h refl)
    drop_or false x y h = refl
