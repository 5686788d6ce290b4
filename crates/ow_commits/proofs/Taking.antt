-- What rows hold: what of it is apart, and what it makes once it is taken over.
use Rattle.std.proofs.Common.{◌≡◌, ◌+◌, ℕ, List, [], ◌∷◌, ◌++◌, Bool, true, false, cond, filter, map, is_eq, Option, Some, None, refl, sym, ap, ◌∙◌, subst, arith, append_assoc, append-nil}
use Rattle.std.specs.List.{AllByRecursion, flat_map}
use Rattle.std.specs.Str.{bytes_eq}
use Rattle.std.proofs.lemmas.Cmp.{nat_list_cmp_total}
use Rattle.std.proofs.lemmas.Map.Text.{is_eq-slice_cmp}
use Rattle.ow_value.specs.Value.{text_cmp}
use Rattle.ow_value.proofs.KeySearch.{equal_texts, reversed_eq, is_equal}
use Rattle.ow_entity.specs.declared.rows.Row.{Row}
use Rattle.ow_traits.specs.Rows.{text_of}
use Rattle.ow_traits.specs.declared.change_list.Change.TheVariants.{Drop as Dropped}
use Rattle.ow_row_text.specs.declared.item.Item.TheVariants as items
use Rattle.ow_row_text.specs.Item.{done_key, entity_key, item_text, open_key}
use Rattle.ow_row_text.specs.Lists.{Lacks}
use Rattle.ow_row_text.specs.Sorted.{Entries, Makes, rows_of}
use Rattle.ow_row_text.proofs.Lists.{absent, makes_then, put_end}
use Rattle.ow_row_text.proofs.Parts.{or_text, text_of-append}
use Rattle.ow_commits.specs.Commits.{end_changes, put_of}
use Rattle.ow_commits.specs.Kept.{is_kept}
use Rattle.ow_commits.specs.Opening.{abandoned, opens_bytes}
use Rattle.ow_commits.specs.Keeping.{done_bytes, row_bytes}
use Rattle.ow_commits.proofs.Weights.{done_text, drop_bytes, here_by, open_text, put_bytes, same_key}
use Rattle.ow_row_text.specs.Bytes.{bytes_of, weight, weight_at}
use Rattle.ow_commits.proofs.Picking.{AreApartBy}
use Rattle.ow_commits.proofs.Places.{drop_nothing, dropped}
use Rattle.ow_commits.proofs.Sections.{done_of, done_put, open_dropped, open_of, row_no_done, row_no_open, row_of, sections, both}
use Rattle.ow_commits.proofs.TableRows.{row_kept}
use Rattle.ow_records.specs.declared.ids.Id.{Id}
use Rattle.ow_records.specs.declared.record.Record.{Record}
use Rattle.ow_records.specs.declared.unrecorded.Unrecorded.{Unrecorded}
use Rattle.ow_records.specs.Unrecorded.{abandoned_record}
use Rattle.ow_tables.specs.Rows.{resumed, with_row}

-- ---- each activation that had not ended gets its record

pub turn : (a b : List ℕ) → is_eq (text_cmp a b) ≡ false → is_eq (text_cmp b a) ≡ false
turn a b h = ap is_eq (nat_list_cmp_total.antisymm b a) ∙ reversed_eq (text_cmp a b) ∙ h

lacks_end : (key : List ℕ) (ds : List Record) (r : Record) → Lacks done_of key ds → is_eq (text_cmp key (done_key r.id)) ≡ false → Lacks done_of key (ds ++ r ∷ [])
lacks_end key [] r h e = (e, tt)
lacks_end key (d ∷ ds) r h e = (h.0, lacks_end key ds r h.1 e)

abbrev pub HaveNoRecord : List Unrecorded → List Record → Type 0
HaveNoRecord us ds = AllByRecursion (λ u. Lacks done_of (done_key u.id) ds) us

one_more : (u : Unrecorded) (r : Record) (us : List Unrecorded) (ds : List Record) → u.id ≡ r.id → Lacks open_of (open_key u.id) us → HaveNoRecord us ds → HaveNoRecord us (ds ++ r ∷ [])
one_more u r [] ds e l h = tt
one_more u r (v ∷ us) ds e l h =
    (lacks_end (done_key v.id) ds r h.0 (subst (λ (i : Id). is_eq (text_cmp (done_key v.id) (done_key i)) ≡ false) e (turn (open_key u.id) (open_key v.id) l.0)), one_more u r us ds e l.1 h.1)

module _ (ids : List Id) (rs : List Row) (at : ℕ) where
  abbrev S : List Unrecorded → List Record → Entries
  S us ds = sections ids rs us ds

  one_abandoned : (u : Unrecorded) (us : List Unrecorded) (ds : List Record) → Lacks open_of (open_key u.id) us → Lacks done_of (done_key u.id) ds
      → Makes (end_changes (abandoned_record u at)) (S (u ∷ us) ds) (S us (ds ++ abandoned_record u at ∷ []))
  one_abandoned u us ds apart new =
      makes_then (Dropped (open_key u.id) ∷ []) (put_of (items.Done (abandoned_record u at)) ∷ []) (S (u ∷ us) ds) (S us ds) (S us (ds ++ abandoned_record u at ∷ []))
      (open_dropped u.id ids rs (u ∷ us) us ds (dropped open_of (open_key u.id) u us us refl (drop_nothing (open_key u.id) (map open_of us) (absent open_of (open_key u.id) us apart))))
      (done_put (abandoned_record u at) ids rs us ds (ds ++ abandoned_record u at ∷ []) (put_end done_of (abandoned_record u at) ds new))

  pub all_abandoned : (us : List Unrecorded) (ds : List Record) → AreApartBy open_of us → HaveNoRecord us ds → Makes (flat_map end_changes (abandoned at us)) (S us ds) (S [] (ds ++ abandoned at us))
  all_abandoned [] ds apart new = subst (λ (xs : List Record). Makes [] (S [] ds) (S [] xs)) (sym (append-nil ds)) (record { each = λ q. refl })
  all_abandoned (u ∷ us) ds apart new =
      subst (λ (xs : List Record). Makes (flat_map end_changes (abandoned at (u ∷ us))) (S (u ∷ us) ds) (S [] xs)) (append_assoc ds (abandoned_record u at ∷ []) (abandoned at us))
      (makes_then (end_changes (abandoned_record u at)) (flat_map end_changes (abandoned at us)) (S (u ∷ us) ds) (S us (ds ++ abandoned_record u at ∷ [])) (S [] ((ds ++ abandoned_record u at ∷ []) ++ abandoned at us))
      (one_abandoned u us ds apart.0 new.0)
      (all_abandoned us (ds ++ abandoned_record u at ∷ []) apart.1 (one_more u (abandoned_record u at) us ds refl apart.0 new.1)))

  -- how many bytes there are then
  one_weighs : (u : Unrecorded) (us : List Unrecorded) (ds : List Record) → Lacks open_of (open_key u.id) us → Lacks done_of (done_key u.id) ds
      → bytes_of (rows_of (S us (ds ++ abandoned_record u at ∷ []))) + row_bytes (items.Open u) ≡ bytes_of (rows_of (S (u ∷ us) ds)) + row_bytes (items.Done (abandoned_record u at))
  one_weighs u us ds apart new =
      let one = drop_bytes (open_key u.id) (S (u ∷ us) ds) (S us ds) (open_dropped u.id ids rs (u ∷ us) us ds (dropped open_of (open_key u.id) u us us refl (drop_nothing (open_key u.id) (map open_of us) (absent open_of (open_key u.id) us apart)))) in
      let two = put_bytes (done_key u.id) (item_text (items.Done (abandoned_record u at))) (S us ds) (S us (ds ++ abandoned_record u at ∷ []))
      (done_put (abandoned_record u at) ids rs us ds (ds ++ abandoned_record u at ∷ []) (put_end done_of (abandoned_record u at) ds new)) in
      let there : weight_at (open_key u.id) (S (u ∷ us) ds) ≡ row_bytes (items.Open u)
      = ap (weight (open_key u.id)) (open_text ids rs (u ∷ us) ds u.id ∙ here_by (open_key u.id) (open_key u.id) (item_text (items.Open u)) (map open_of us) true (same_key (open_key u.id) (open_key u.id) refl)) in
      let none : weight_at (done_key u.id) (S us ds) ≡ 0 = ap (weight (done_key u.id)) (done_text ids rs us ds u.id ∙ absent done_of (done_key u.id) ds new) in
      omega (arith, one, two, there, none)

  pub all_weigh : (us : List Unrecorded) (ds : List Record) → AreApartBy open_of us → HaveNoRecord us ds
      → bytes_of (rows_of (S [] (ds ++ abandoned at us))) + opens_bytes us ≡ bytes_of (rows_of (S us ds)) + done_bytes (abandoned at us)
  all_weigh [] ds apart new = ap (λ xs. bytes_of (rows_of (S [] xs)) + 0) (append-nil ds)
  all_weigh (u ∷ us) ds apart new =
      let r = abandoned_record u at in
      let one = one_weighs u us ds apart.0 new.0 in
      let rest = all_weigh us (ds ++ r ∷ []) apart.1 (one_more u r us ds refl apart.0 new.1) in
      let same : bytes_of (rows_of (S [] ((ds ++ r ∷ []) ++ abandoned at us))) ≡ bytes_of (rows_of (S [] (ds ++ r ∷ abandoned at us))) = ap (λ xs. bytes_of (rows_of (S [] xs))) (append_assoc ds (r ∷ []) (abandoned at us)) in
      omega (arith, one, rest, same)

-- ---- rows that are put among the rows that are there from the start

alike_by : (b : Bool) (t : List ℕ) (x y : Option (List ℕ)) → (b ≡ true → x ≡ None) → or_text x (cond b (Some t) y) ≡ or_text (cond b (Some t) x) y
alike_by true t x y h = ap (λ w. or_text w (Some t)) (h refl)
alike_by false t x y h = refl

none_there : (q : List ℕ) (r : Row) (rs : List Row) → Lacks row_of (entity_key r) rs → bytes_eq q (entity_key r) ≡ true → text_of q (map row_of rs) ≡ None
none_there q r rs lacks e =
    let same : q ≡ entity_key r = equal_texts q (entity_key r) (is_equal (text_cmp q (entity_key r)) (is_eq-slice_cmp q (entity_key r) ∙ e)) in
    subst (λ (k : List ℕ). text_of k (map row_of rs) ≡ None) (sym same) (absent row_of (entity_key r) rs lacks)

pub resumed_text : (q : List ℕ) (rs xs : List Row) → AreApartBy row_of rs → AllByRecursion (λ r. is_kept r ≡ true) rs
    → text_of q (map row_of (filter is_kept (resumed rs xs))) ≡ or_text (text_of q (map row_of rs)) (text_of q (map row_of (filter is_kept xs)))
resumed_text q [] xs apart here = refl
resumed_text q (r ∷ rs) xs apart here =
    resumed_text q rs (with_row r xs) apart.1 here.1
    ∙ ap (or_text (text_of q (map row_of rs))) ((row_kept r xs here.0).each q)
    ∙ alike_by (bytes_eq q (entity_key r)) (item_text (items.Row r)) (text_of q (map row_of rs)) (text_of q (map row_of (filter is_kept xs))) (none_there q r rs apart.0)
    ∙ ap (λ b. or_text (cond b (Some (item_text (items.Row r))) (text_of q (map row_of rs))) (text_of q (map row_of (filter is_kept xs)))) (sym (is_eq-slice_cmp q (entity_key r)))

-- ---- sections in another order

or_none : (o : Option (List ℕ)) → or_text o None ≡ o
or_none None = refl
or_none (Some t) = refl

swapped : (x y : Option (List ℕ)) → ((t : List ℕ) → x ≡ Some t → y ≡ None) → or_text x y ≡ or_text y x
swapped None y h = sym (or_none y)
swapped (Some t) y h = ap (λ w. or_text w (Some t)) (sym (h t refl))

there_by : (q : List ℕ) (r : Row) (rs : List Row) (es : Entries) (t : List ℕ) (b : Bool) → is_eq (text_cmp q (entity_key r)) ≡ b → cond b (Some (item_text (items.Row r))) (text_of q (map row_of rs)) ≡ Some t
    → text_of (entity_key r) es ≡ None → (text_of q (map row_of rs) ≡ Some t → text_of q es ≡ None) → text_of q es ≡ None
there_by q r rs es t true e found none rest =
    subst (λ (k : List ℕ). text_of k es ≡ None) (sym (equal_texts q (entity_key r) (is_equal (text_cmp q (entity_key r)) e))) none
there_by q r rs es t false e found none rest = rest found

row_alone : (q : List ℕ) (rs : List Row) (es : Entries) → ((r : Row) → text_of (entity_key r) es ≡ None) → (t : List ℕ) → text_of q (map row_of rs) ≡ Some t → text_of q es ≡ None
row_alone q [] es none t found = cc
row_alone q (r ∷ rs) es none t found = there_by q r rs es t (is_eq (text_cmp q (entity_key r))) refl found (none r) (λ f. row_alone q rs es none t f)

pub rows_last : (q : List ℕ) (rs : List Row) (us : List Unrecorded) (ds : List Record) → text_of q (map open_of us ++ (map done_of ds ++ map row_of rs)) ≡ text_of q (map row_of rs ++ (map open_of us ++ map done_of ds))
rows_last q rs us ds =
    ap (text_of q) (sym (append_assoc (map open_of us) (map done_of ds) (map row_of rs)))
    ∙ text_of-append q (map open_of us ++ map done_of ds) (map row_of rs)
    ∙ sym (swapped (text_of q (map row_of rs)) (text_of q (map open_of us ++ map done_of ds))
    (row_alone q rs (map open_of us ++ map done_of ds) (λ r. both (entity_key r) (map open_of us) (map done_of ds) (row_no_open r us) (row_no_done r ds))))
    ∙ sym (text_of-append q (map row_of rs) (map open_of us ++ map done_of ds))
