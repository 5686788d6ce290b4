-- Sorted rows are what they answer at each key.
use Rattle.std.proofs.Common.{◌≡◌, ℕ, List, [], ◌∷◌, Bool, true, false, cond, Option, Some, None, Ordering, Less, Equal, Greater, is_eq, refl, sym, ap, ◌∙◌, subst}
use Rattle.std.specs.List.Sorted.{IsStrictlySortedBy}
use Rattle.std.specs.Ordering.{match_ordering}
use Rattle.std.specs.Str.{bytes_eq}
use Rattle.std.proofs.lemmas.Map.Text.{is_eq-slice_cmp}
use Rattle.std.proofs.lemmas.Slice.Eq.{bytes_eq-Decides}
use Rattle.ow_value.specs.Value.{text_cmp}
use Rattle.ow_value.proofs.KeySearch.{turned, equal_texts, is_equal}
use Rattle.ow_value.proofs.Entries.{rises_with, above_more, Above}
use Rattle.ow_traits.specs.Changes.{changed, after_change}
use Rattle.ow_traits.specs.Rows.{AreRows, text_of, with_row, without}
use Rattle.ow_traits.specs.declared.change_list.Change.{Change}
use Rattle.ow_traits.specs.declared.change_list.Change.TheVariants.{Put, Drop as Dropped, Retire}
use Rattle.ow_traits.proofs.Keys.{AreRows-without}
use Rattle.ow_row_text.specs.Sorted.{Entries, rows_of, after_at, changed_at, Makes}

abbrev Row : Type 0
Row = List ℕ × List ℕ

-- ---- one key

pub same : (k : List ℕ) → text_cmp k k ≡ Equal
same k = is_equal (text_cmp k k) (is_eq-slice_cmp k k ∙ (bytes_eq-Decides k k).1 refl)

-- an entry is found at a key or not
at_entry : (q : List ℕ) (e : Row) (es : Entries) → text_of q (e ∷ es) ≡ cond (bytes_eq q e.0) (Some e.1) (text_of q es)
at_entry q e es = ap (λ b. cond b (Some e.1) (text_of q es)) (is_eq-slice_cmp q e.0)

twice : {A : Type 0} (b : Bool) (x y z : A) → cond b x z ≡ cond b x (cond b y z)
twice true x y z = refl
twice false x y z = refl

-- ---- a put

put_more : (q k t : List ℕ) (e : Row) (old new : Option (List ℕ)) (b c : Bool) → bytes_eq q k ≡ b → bytes_eq q e.0 ≡ c → text_cmp k e.0 ≡ Greater → new ≡ cond b (Some t) old
    → cond c (Some e.1) new ≡ cond b (Some t) (cond c (Some e.1) old)
put_more q k t e old new true true p r g h =
    let a : q ≡ k = (bytes_eq-Decides q k).0 p in
    let d : q ≡ e.0 = (bytes_eq-Decides q e.0).0 r in
    let s : text_cmp k e.0 ≡ Equal = subst (λ x. text_cmp x e.0 ≡ Equal) (sym d ∙ a) (same e.0) in
    cc
put_more q k t e old new true false p r g h = h
put_more q k t e old new false true p r g h = refl
put_more q k t e old new false false p r g h = h

put_by : (q k t : List ℕ) (e : Row) (es : Entries) (o : Ordering) → text_cmp k e.0 ≡ o → text_of q (with_row es k t) ≡ cond (bytes_eq q k) (Some t) (text_of q es)
    → text_of q (match_ordering o ((k, t) ∷ e ∷ es) ((e.0, t) ∷ es) (e ∷ with_row es k t)) ≡ cond (bytes_eq q k) (Some t) (text_of q (e ∷ es))
put_by q k t e es Less g h = at_entry q (k, t) (e ∷ es)
put_by q k t e es Equal g h =
    let s : k ≡ e.0 = equal_texts k e.0 g in
    at_entry q (e.0, t) es
    ∙ ap (λ x. cond (bytes_eq q x) (Some t) (text_of q es)) (sym s)
    ∙ twice (bytes_eq q k) (Some t) (Some e.1) (text_of q es)
    ∙ ap (λ x. cond (bytes_eq q k) (Some t) (cond (bytes_eq q x) (Some e.1) (text_of q es))) s
    ∙ ap (cond (bytes_eq q k) (Some t)) (sym (at_entry q e es))
put_by q k t e es Greater g h =
    at_entry q e (with_row es k t)
    ∙ put_more q k t e (text_of q es) (text_of q (with_row es k t)) (bytes_eq q k) (bytes_eq q e.0) refl refl g h
    ∙ ap (cond (bytes_eq q k) (Some t)) (sym (at_entry q e es))

pub text_of-with_row : (q k t : List ℕ) (rows : Entries) → text_of q (with_row rows k t) ≡ cond (bytes_eq q k) (Some t) (text_of q rows)
text_of-with_row q k t [] = at_entry q (k, t) []
text_of-with_row q k t (e ∷ es) = put_by q k t e es (text_cmp k e.0) refl (text_of-with_row q k t es)

-- ---- keys that are not there

pub above_none : (k : List ℕ) (es : Entries) → Above k es → text_of k es ≡ None
above_none k [] h = refl
above_none k (e ∷ es) h = ap (λ o. cond (is_eq o) (Some e.1) (text_of k es)) h.0 ∙ above_none k es h.1

pub below_none : (k : List ℕ) (e : Row) (es : Entries) → text_cmp k e.0 ≡ Less → AreRows (e ∷ es) → text_of k (e ∷ es) ≡ None
unfolding IsStrictlySortedBy
below_none k e es lt h = above_none k (e ∷ es) (lt, above_more k e.0 es lt h.0)

-- ---- a removal

drop_by : (q k : List ℕ) (e : Row) (es : Entries) (b : Bool) → is_eq (text_cmp k e.0) ≡ b → AreRows (e ∷ es) → text_of q (without k es) ≡ cond (bytes_eq q k) None (text_of q es)
    → text_of q (cond b es (e ∷ without k es)) ≡ cond (bytes_eq q k) None (text_of q (e ∷ es))
unfolding IsStrictlySortedBy
drop_by q k e es true g s h =
    let same_key : k ≡ e.0 = equal_texts k e.0 (is_equal (text_cmp k e.0) g) in
    by_test (bytes_eq q k) refl same_key
  where
    by_test : (b : Bool) → bytes_eq q k ≡ b → k ≡ e.0 → text_of q es ≡ cond b None (text_of q (e ∷ es))
    by_test true p same_key = subst (λ x. text_of x es ≡ None) (sym same_key ∙ sym ((bytes_eq-Decides q k).0 p)) (above_none e.0 es s.0)
    by_test false p same_key = sym (at_entry q e es ∙ ap (λ b. cond b (Some e.1) (text_of q es)) (ap (bytes_eq q) (sym same_key) ∙ p))
drop_by q k e es false g s h =
    at_entry q e (without k es)
    ∙ more (bytes_eq q k) (bytes_eq q e.0) refl refl h
    ∙ ap (cond (bytes_eq q k) None) (sym (at_entry q e es))
  where
    more : (b c : Bool) → bytes_eq q k ≡ b → bytes_eq q e.0 ≡ c → text_of q (without k es) ≡ cond b None (text_of q es)
        → cond c (Some e.1) (text_of q (without k es)) ≡ cond b None (cond c (Some e.1) (text_of q es))
    more true true p r h =
        let a : q ≡ k = (bytes_eq-Decides q k).0 p in
        let d : q ≡ e.0 = (bytes_eq-Decides q e.0).0 r in
        let s : text_cmp k e.0 ≡ Equal = subst (λ x. text_cmp x e.0 ≡ Equal) (sym d ∙ a) (same e.0) in
        let t : is_eq (text_cmp k e.0) ≡ true = ap is_eq s in
        cc
    more true false p r h = h
    more false true p r h = refl
    more false false p r h = h

nothing : (b : Bool) → ◌≡◌ {A = Option (List ℕ)} None (cond b None None)
nothing true = refl
nothing false = refl

pub text_of-without : (q k : List ℕ) (rows : Entries) → AreRows rows → text_of q (without k rows) ≡ cond (bytes_eq q k) None (text_of q rows)
unfolding IsStrictlySortedBy
text_of-without q k [] s = nothing (bytes_eq q k)
text_of-without q k (e ∷ es) s = drop_by q k e es (is_eq (text_cmp k e.0)) refl s (text_of-without q k es s.1)

-- ---- rows that answer alike are the same

found_first : (d : Row) (ds : Entries) → text_of d.0 (d ∷ ds) ≡ Some d.1
found_first d ds = ap (λ o. cond (is_eq o) (Some d.1) (text_of d.0 ds)) (same d.0)

alike_behind : (d : Row) (ds : Entries) (e : Row) (es : Entries) → AreRows (d ∷ ds) → AreRows (e ∷ es) → d.0 ≡ e.0 → (q : List ℕ) → text_of q (d ∷ ds) ≡ text_of q (e ∷ es)
    → (b : Bool) → bytes_eq q d.0 ≡ b → text_of q ds ≡ text_of q es
unfolding IsStrictlySortedBy
alike_behind d ds e es s t key q h true p =
    let a : q ≡ d.0 = (bytes_eq-Decides q d.0).0 p in
    subst (λ x. text_of x ds ≡ text_of x es) (sym a) (above_none d.0 ds s.0 ∙ sym (subst (λ x. text_of x es ≡ None) (sym key) (above_none e.0 es t.0)))
alike_behind d ds e es s t key q h false p =
    sym (at_entry q d ds ∙ ap (λ b. cond b (Some d.1) (text_of q ds)) p)
    ∙ h
    ∙ at_entry q e es
    ∙ ap (λ b. cond b (Some e.1) (text_of q es)) (ap (bytes_eq q) (sym key) ∙ p)

joined : (d : Row) (ds : Entries) (e : Row) (es : Entries) → AreRows (d ∷ ds) → AreRows (e ∷ es) → ((q : List ℕ) → text_of q (d ∷ ds) ≡ text_of q (e ∷ es))
    → (((q : List ℕ) → text_of q ds ≡ text_of q es) → ds ≡ es) → (o : Ordering) → text_cmp d.0 e.0 ≡ o → d ∷ ds ≡ e ∷ es
joined d ds e es s t h more Less g = let f : None ≡ Some d.1 = sym (below_none d.0 e es g t) ∙ sym (h d.0) ∙ found_first d ds in cc
joined d ds e es s t h more Greater g = let f : None ≡ Some e.1 = sym (below_none e.0 d ds (turned d.0 e.0 Greater g) s) ∙ h e.0 ∙ found_first e es in cc
joined d ds e es s t h more Equal g =
    let key : d.0 ≡ e.0 = equal_texts d.0 e.0 g in
    let value : Some d.1 ≡ Some e.1 = sym (found_first d ds) ∙ h d.0 ∙ ap (λ k. text_of k (e ∷ es)) key ∙ found_first e es in
    let text : d.1 ≡ e.1 = cc in
    let tails : ds ≡ es = more (λ q. alike_behind d ds e es s t key q (h q) (bytes_eq q d.0) refl) in
    λ i. (key i, text i) ∷ tails i

pub same_rows : (a b : Entries) → AreRows a → AreRows b → ((q : List ℕ) → text_of q a ≡ text_of q b) → a ≡ b
unfolding IsStrictlySortedBy
same_rows [] [] s t h = refl
same_rows [] (e ∷ es) s t h = let f : None ≡ Some e.1 = h e.0 ∙ ap (λ o. cond (is_eq o) (Some e.1) (text_of e.0 es)) (same e.0) in cc
same_rows (d ∷ ds) [] s t h = let f : None ≡ Some d.1 = sym (h d.0) ∙ ap (λ o. cond (is_eq o) (Some d.1) (text_of d.0 ds)) (same d.0) in cc
same_rows (d ∷ ds) (e ∷ es) s t h = joined d ds e es s t h (same_rows ds es s.1 t.1) (text_cmp d.0 e.0) refl

-- ---- the rows of entries

pub AreRows-rows_of : (es : Entries) → AreRows (rows_of es)
unfolding IsStrictlySortedBy rows_of
AreRows-rows_of [] = tt
AreRows-rows_of (e ∷ es) = rises_with (rows_of es) e.0 e.1 (AreRows-rows_of es)

pub text_of-rows_of : (q : List ℕ) (es : Entries) → text_of q (rows_of es) ≡ text_of q es
unfolding rows_of
text_of-rows_of q [] = refl
text_of-rows_of q (e ∷ es) =
    text_of-with_row q e.0 e.1 (rows_of es)
    ∙ ap (cond (bytes_eq q e.0) (Some e.1)) (text_of-rows_of q es)
    ∙ sym (at_entry q e es)

-- entries whose keys rise are their own rows
pub rows_of-rows : (es : Entries) → AreRows es → rows_of es ≡ es
rows_of-rows es s = same_rows (rows_of es) es (AreRows-rows_of es) s (λ q. text_of-rows_of q es)

-- ---- changes

pub AreRows-after : (c : Change) (rows : Entries) → AreRows rows → AreRows (after_change c rows)
AreRows-after (Put k t) rows s = rises_with rows k t s
AreRows-after (Dropped k) rows s = AreRows-without rows k s
AreRows-after (Retire k t) rows s = AreRows-without rows k s

pub AreRows-changed : (cs : List Change) (rows : Entries) → AreRows rows → AreRows (changed cs rows)
AreRows-changed [] rows s = s
AreRows-changed (c ∷ cs) rows s = AreRows-changed cs (after_change c rows) (AreRows-after c rows s)

pub text_of-after : (q : List ℕ) (c : Change) (rows : Entries) → AreRows rows → text_of q (after_change c rows) ≡ after_at c q (text_of q rows)
text_of-after q (Put k t) rows s = text_of-with_row q k t rows
text_of-after q (Dropped k) rows s = text_of-without q k rows s
text_of-after q (Retire k t) rows s = text_of-without q k rows s

pub text_of-changed : (q : List ℕ) (cs : List Change) (rows : Entries) → AreRows rows → text_of q (changed cs rows) ≡ changed_at cs q (text_of q rows)
text_of-changed q [] rows s = refl
text_of-changed q (c ∷ cs) rows s = text_of-changed q cs (after_change c rows) (AreRows-after c rows s) ∙ ap (changed_at cs q) (text_of-after q c rows s)

pub changes_kept : (cs : List Change) (old new : Entries) → Makes cs old new → changed cs (rows_of old) ≡ rows_of new
changes_kept cs old new h = same_rows (changed cs (rows_of old)) (rows_of new)
    (AreRows-changed cs (rows_of old) (AreRows-rows_of old)) (AreRows-rows_of new)
    (λ q. text_of-changed q cs (rows_of old) (AreRows-rows_of old) ∙ ap (changed_at cs q) (text_of-rows_of q old) ∙ sym (h.each q) ∙ sym (text_of-rows_of q new))

pub made_of_kept : (cs : List Change) (old new : Entries) → changed cs (rows_of old) ≡ rows_of new → Makes cs old new
made_of_kept cs old new e = record {
  each = λ q.
      sym (text_of-rows_of q new)
      ∙ ap (text_of q) (sym e)
      ∙ text_of-changed q cs (rows_of old) (AreRows-rows_of old)
      ∙ ap (changed_at cs q) (text_of-rows_of q old);
}
