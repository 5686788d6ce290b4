-- What a search by text finds, and what an edit at that place makes of the entries.
use Rattle.std.proofs.Common.{◌≡◌, ◌≢◌, ℕ, zero, suc, ◌<◌, List, [], ◌∷◌, ◌++◌, true, false, cond, length, get_or, set, take, drop, Option, Some, None, Ordering, Less, Equal, Greater, is_eq, refl, sym, ap, ◌∙◌, subst, arith, slice_get, option_map}
use Rattle.std.specs.List.Sorted.{IsStrictlySortedBy}
use Rattle.std.specs.Ordering.{match_ordering}
use Rattle.std.proofs.lemmas.List.{length-set}
use Rattle.std.proofs.lemmas.Map.Text.{is_eq-slice_cmp}
use Rattle.std.proofs.lemmas.Slice.Eq.{bytes_eq-Decides}
use Rattle.std.proofs.lemmas.Bool.{false_from_ne_true}
use Rattle.ow_value.specs.Value.{text_cmp}
use Rattle.ow_value.proofs.Entries.{lookup_at, lookup_nowhere, insert_at_equal, insert_between, rises_with}
use Rattle.ow_value.proofs.KeySearch as Found
use Rattle.ow_value.proofs.KeySearch.{PartsAt, equal_texts, parted, is_equal}
use Rattle.ow_value.specs.ByText.{ByText, IsByText, StandsAt, value_at, with_value}

pub none-rise : IsStrictlySortedBy text_cmp []
unfolding IsStrictlySortedBy
none-rise = tt

module _ {W : Type 0} where
  abbrev text_of : List ℕ × W → List ℕ
  text_of e = e.0

  -- ---- the edits of a Vec of entries, searched as another list that is equal

  pub put_there : (xs ys : ByText W) (k text : List ℕ) (w : W) (i : ℕ) (d : List ℕ × W) → ys ≡ xs → k ≡ text → IsByText xs → Found.StandsAt text_of k ys i → d ≡ get_or xs i d
      → set xs i (d.0, w) ≡ with_value xs text w
  put_there xs ys k text w i d e f s h at =
      let h2 = subst (λ zs. Found.StandsAt text_of k zs i) e h in
      let eq = subst (λ t. text_cmp (get_or xs i d).0 t ≡ Equal) f (h2.1 d) in
      ap (λ (z : List ℕ × W). set xs i (z.0, w)) at ∙ sym (insert_at_equal text w xs i d s h2.0 eq)

  pub put_between : (xs ys new : ByText W) (k text : List ℕ) (w : W) (i : ℕ) → ys ≡ xs → k ≡ text → PartsAt text_of k ys i → new ≡ take i xs ++ (text, w) ∷ drop i xs
      → new ≡ with_value xs text w
  put_between xs ys new k text w i e f h n =
      let h2 = subst (λ zs. PartsAt text_of k zs i) e h in
      let h3 = subst (λ t. PartsAt text_of t xs i) f h2 in
      n ∙ sym (insert_between text w xs i h3)

  pub found_there : (xs ys : ByText W) (text : List ℕ) (i : ℕ) (d : List ℕ × W) → ys ≡ xs → IsByText xs → Found.StandsAt text_of text ys i → Some (get_or ys i d).1 ≡ value_at text xs
  found_there xs ys text i d e s h =
      let h2 = subst (λ zs. Found.StandsAt text_of text zs i) e h in
      ap (λ zs. Some (get_or zs i d).1) e ∙ sym (lookup_at text xs i d s h2.0 (h2.1 d))

  pub found_nowhere : (xs ys : ByText W) (text : List ℕ) (i : ℕ) → ys ≡ xs → PartsAt text_of text ys i → None ≡ value_at text xs
  found_nowhere xs ys text i e h =
      let h2 = subst (λ zs. PartsAt text_of text zs i) e h in
      sym (lookup_nowhere text xs (parted text_of text xs i h2))

-- ---- texts

pub is_same : (k : List ℕ) → is_eq (text_cmp k k) ≡ true
is_same k = is_eq-slice_cmp k k ∙ (bytes_eq-Decides k k).1 refl

pub same_text : (k : List ℕ) → text_cmp k k ≡ Equal
same_text k = is_equal _ (is_same k)

pub is_another : (k other : List ℕ) → other ≢ k → is_eq (text_cmp other k) ≡ false
is_another k other ne = false_from_ne_true _ (λ e. ne (equal_texts other k (is_equal _ e)))

-- ---- look-ups after a put

module _ {W : Type 0} where
  at_same_by : (k : List ℕ) (w : W) (e : List ℕ × W) (es : ByText W) (o : Ordering) → text_cmp k e.0 ≡ o → value_at k (with_value es k w) ≡ Some w
      → value_at k (match_ordering o ((k, w) ∷ e ∷ es) ((e.0, w) ∷ es) (e ∷ with_value es k w)) ≡ Some w
  at_same_by k w e es Less q h = rw (is_same k) refl
  at_same_by k w e es Equal q h = rw q refl
  at_same_by k w e es Greater q h = rw q h

  pub value_at-same : (k : List ℕ) (w : W) (es : ByText W) → value_at k (with_value es k w) ≡ Some w
  value_at-same k w [] = rw (is_same k) refl
  value_at-same k w (e ∷ es) = at_same_by k w e es (text_cmp k e.0) refl (value_at-same k w es)

  at_other_by : (k other : List ℕ) (w : W) (e : List ℕ × W) (es : ByText W) (o : Ordering) → other ≢ k → text_cmp k e.0 ≡ o → value_at other (with_value es k w) ≡ value_at other es
      → value_at other (match_ordering o ((k, w) ∷ e ∷ es) ((e.0, w) ∷ es) (e ∷ with_value es k w)) ≡ value_at other (e ∷ es)
  at_other_by k other w e es Less ne q h = rw (is_another k other ne) refl
  at_other_by k other w e es Equal ne q h =
      let same : e.0 ≡ k = sym (equal_texts k e.0 q) in
      let no : is_eq (text_cmp other e.0) ≡ false = is_another e.0 other (λ x. ne (x ∙ same)) in
      rw no refl
  at_other_by k other w e es Greater ne q h = ap (λ (r : Option W). cond (is_eq (text_cmp other e.0)) (Some e.1) r) h

  pub value_at-other : (k other : List ℕ) (w : W) (es : ByText W) → other ≢ k → value_at other (with_value es k w) ≡ value_at other es
  value_at-other k other w [] ne = rw (is_another k other ne) refl
  value_at-other k other w (e ∷ es) ne = at_other_by k other w e es (text_cmp k e.0) ne refl (value_at-other k other w es ne)

  -- ---- a text at its place

  get-in : (es : ByText W) (i : ℕ) (d : List ℕ × W) → i < length es → slice_get es i ≡ Some (get_or es i d)
  get-in [] i d lt = absurd (omega arith)
  get-in (e ∷ es) zero d lt = refl
  get-in (e ∷ es) (suc i) d lt = get-in es i d (omega arith)

  value-by : (k : List ℕ) (es : ByText W) (i : ℕ) (d : List ℕ × W) (v : Option W) → value_at k es ≡ v → Some (get_or es i d) ≡ option_map (λ w. (k, w)) v → (get_or es i d).0 ≡ k × (value_at k es ≡ Some (get_or es i d).1)
  value-by k es i d None e q = cc q
  value-by k es i d (Some w) e q =
      let is : get_or es i d ≡ (k, w) = cc q in
      (ap (λ (x : List ℕ × W). x.0) is, e ∙ ap (λ (x : List ℕ × W). Some x.1) (sym is))

  pub value-there : (k : List ℕ) (es : ByText W) (i : ℕ) (d : List ℕ × W) → StandsAt k es i → (get_or es i d).0 ≡ k × (value_at k es ≡ Some (get_or es i d).1)
  value-there k es i d h = value-by k es i d (value_at k es) refl (sym (get-in es i d h.0) ∙ h.1)

  pub set_there : (k : List ℕ) (w : W) (es : ByText W) (i : ℕ) (d : List ℕ × W) → IsByText es → StandsAt k es i → set es i ((get_or es i d).0, w) ≡ with_value es k w
  set_there k w es i d s h =
      sym (insert_at_equal k w es i d s h.0 (ap (λ t. text_cmp t k) (value-there k es i d h).0 ∙ same_text k))

  -- the place that a search found
  pub stands_there : (k : List ℕ) (xs ys : ByText W) (i : ℕ) → ys ≡ xs → IsByText xs → Found.StandsAt text_of k ys i → StandsAt k xs i
  stands_there k xs ys i e s h = by xs s (subst (λ zs. Found.StandsAt text_of k zs i) e h)
    where
      with : (zs : ByText W) (d : List ℕ × W) → IsByText zs → Found.StandsAt text_of k zs i → StandsAt k zs i
      with zs d s h2 =
          let same : (get_or zs i d).0 ≡ k = equal_texts _ _ (h2.1 d) in
          (h2.0, get-in zs i d h2.0 ∙ (ap (λ (t : List ℕ). Some (t, (get_or zs i d).1)) same ∙ ap (option_map (λ (w : W). (k, w))) (sym (lookup_at k zs i d s h2.0 (h2.1 d)))))

      by : (zs : ByText W) → IsByText zs → Found.StandsAt text_of k zs i → StandsAt k zs i
      by [] s h2 = absurd (omega (arith, h2.0))
      by (z ∷ zs) s h2 = with (z ∷ zs) z s h2

  pub set_rises : (w : W) (es : ByText W) (i : ℕ) (d : List ℕ × W) → IsByText es → i < length es → IsByText (set es i ((get_or es i d).0, w))
  set_rises w es i d s lt =
      let k : List ℕ = (get_or es i d).0 in
      subst IsByText (insert_at_equal k w es i d s lt (same_text k)) (rises_with es k w s)

  -- ---- a value that replaces another

  pub replaced_new : (es : ByText W) (i : ℕ) (d : List ℕ × W) (w v : W) (k : List ℕ) → d ≡ get_or es i d → w ≡ v → IsByText es → StandsAt k es i → set es i (d.0, w) ≡ with_value es k v
  replaced_new es i d w v k at new s h =
      ap (λ (x : W). set es i (d.0, x)) new ∙ (ap (λ (z : List ℕ × W). set es i (z.0, v)) at ∙ set_there k v es i d s h)

  pub replaced_back : (es : ByText W) (i : ℕ) (d : List ℕ × W) (r : W) (k : List ℕ) → d ≡ get_or es i d → r ≡ d.1 → StandsAt k es i → value_at k es ≡ Some r
  replaced_back es i d r k at back h =
      (value-there k es i d h).1 ∙ ap Some (ap (λ (z : List ℕ × W). z.1) (sym at) ∙ sym back)

  pub replaced_rises : (es : ByText W) (i : ℕ) (d : List ℕ × W) (w : W) → d ≡ get_or es i d → IsByText es → i < length es → IsByText (set es i (d.0, w))
  replaced_rises es i d w at s lt =
      subst (λ (t : List ℕ). IsByText (set es i (t, w))) (ap (λ (z : List ℕ × W). z.0) (sym at)) (set_rises w es i d s lt)

  get-set : (es : ByText W) (i : ℕ) (e : List ℕ × W) → i < length es → slice_get (set es i e) i ≡ Some e
  get-set [] i e lt = absurd (omega arith)
  get-set (x ∷ es) zero e lt = refl
  get-set (x ∷ es) (suc i) e lt = get-set es i e (omega arith)

  -- the text keeps its place
  pub replaced_stands : (es new : ByText W) (i : ℕ) (d : List ℕ × W) (v : W) (k : List ℕ) → IsByText es → StandsAt k es i → new ≡ with_value es k v → StandsAt k new i
  replaced_stands es new i d v k s h e =
      let is : new ≡ set es i ((get_or es i d).0, v) = e ∙ sym (set_there k v es i d s h) in
      let text : (get_or es i d).0 ≡ k = (value-there k es i d h).0 in (
        omega (arith, ap length is, length-set es i ((get_or es i d).0, v), h.0),
        ap (λ (zs : ByText W). slice_get zs i) is ∙ (get-set es i _ h.0 ∙ (ap (λ (t : List ℕ). Some (t, v)) text
            ∙ ap (option_map (λ (w : W). (k, w))) (sym (ap (value_at k) e ∙ value_at-same k v es)))),
      )
