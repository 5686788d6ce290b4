-- The records of one namespace: where the records are sorted by their namespaces and ids, they are adjacent, by their ids.
use Rattle.std.proofs.Common.{◌≡◌, ◌≢◌, ℕ, zero, suc, ◌-◌, ◌<◌, ◌≤◌, Bool, true, false, cond, min, List, [], ◌∷◌, ◌++◌, length, fold, filter, get_or, take, drop, Ordering, Less, Equal, Greater, is_lt, refl, sym, ap, ◌∙◌, subst, append_assoc, arith}
use Rattle.std.specs.Prelude.{reverse}
use Rattle.std.specs.List.{AllByRecursion}
use Rattle.std.specs.Ordering.{nat_cmp, ordering_reverse, ordering_then, MatchOrdering}
use Rattle.std.specs.Str.{bytes_eq}
use Rattle.std.proofs.lemmas.Cmp.{ranked, nat_list_cmp_total}
use Rattle.std.proofs.lemmas.List.{length-drop, length-reverse, map-append, reverse-append, take-append-drop}
use Rattle.std.proofs.lemmas.Slice.Eq.{bytes_eq-Decides}
use Rattle.std.proofs.Math.Seq.{take-append_seam, drop-append_seam}
use Rattle.ow_value.specs.Value.{V, text_cmp}
use Rattle.ow_value.specs.View.{view, views}
use Rattle.ow_value.specs.declared.val.Val.{Val}
use Rattle.ow_value.proofs.Between.{both, drop_upto, take_upto}
use Rattle.ow_names.proofs.OrderLaws.{then_then}
use Rattle.ow_records.specs.declared.record.Record.{Record}
use Rattle.ow_records.specs.Records.{id_key, is_in, put_by, sorted_by}
use Rattle.ow_records.specs.Order.{Rises, namespace_key, region, region_of}
use Rattle.ow_records.proofs.Sorting.{all_above, all_weaker, is_less, rises_put}

-- ---- keys

same_length : (a b s t : List ℕ) → length a ≡ length b → text_cmp (a ++ s) (b ++ t) ≡ ordering_then (text_cmp a b) (text_cmp s t)
same_length [] [] s t e = refl
same_length [] (y ∷ ys) s t e = absurd (omega arith)
same_length (x ∷ xs) [] s t e = absurd (omega arith)
same_length (x ∷ xs) (y ∷ ys) s t e = ap (ordering_then (nat_cmp x y)) (same_length xs ys s t (omega arith)) ∙ then_then (nat_cmp x y) _ _

by_length : (o : Ordering) (a b s t : List ℕ) → nat_cmp (length a) (length b) ≡ o
    → ordering_then o (text_cmp (a ++ s) (b ++ t)) ≡ ordering_then (ordering_then o (text_cmp a b)) (text_cmp s t)
by_length Less a b s t e = refl
by_length Equal a b s t e =
    same_length a b s t (subst (λ o. MatchOrdering o (length a < length b) (length a ≡ length b) (length b < length a)) e (ranked (length a) (length b) _ refl))
by_length Greater a b s t e = refl

-- the region decides before what follows
pub region_then : (a b s t : List ℕ) → text_cmp (region a ++ s) (region b ++ t) ≡ ordering_then (text_cmp (region a) (region b)) (text_cmp s t)
region_then a b s t = by_length (nat_cmp (length a) (length b)) a b s t refl

below_or_same : (o p : Ordering) → ordering_then o p ≢ Greater → o ≢ Greater
below_or_same Less p n e = cc
below_or_same Equal p n e = cc
below_or_same Greater p n e = n refl

pub regions_rise : (xs : List Record) → Rises namespace_key xs → Rises region_of xs
unfolding Rises
regions_rise [] h = tt
regions_rise (x ∷ xs) h =
    (all_weaker _ _ xs (λ y n. below_or_same _ (text_cmp (id_key x) (id_key y)) (λ g. n (region_then x.namespace y.namespace _ _ ∙ g))) h.0, regions_rise xs h.1)

pub itself : (a : List ℕ) → text_cmp a a ≡ Equal
itself a = by_order _ (nat_list_cmp_total.antisymm a a)
  where
    by_order : (o : Ordering) → o ≡ ordering_reverse o → o ≡ Equal
    by_order Less e = cc
    by_order Equal e = refl
    by_order Greater e = cc

-- ---- the ids of one namespace

module _ (namespace : List ℕ) where
  -- in one namespace the ids decide
  by_ids : (r x : Record) → is_in namespace r ≡ true → is_in namespace x ≡ true → is_lt (text_cmp (namespace_key r) (namespace_key x)) ≡ is_lt (text_cmp (id_key r) (id_key x))
  by_ids r x e f =
      let same : r.namespace ≡ x.namespace = sym ((bytes_eq-Decides namespace r.namespace).0 e) ∙ (bytes_eq-Decides namespace x.namespace).0 f in
      ap is_lt (region_then r.namespace x.namespace (id_key r) (id_key x)
      ∙ ap (λ o. ordering_then o (text_cmp (id_key r) (id_key x))) (ap (λ a. text_cmp (region r.namespace) (region a)) (sym same) ∙ itself (region r.namespace)))

  filter_other : (r : Record) (xs : List Record) → is_in namespace r ≡ false → filter (is_in namespace) (put_by namespace_key r xs) ≡ filter (is_in namespace) xs
  filter_other r [] e = rw e refl
  filter_other r (x ∷ xs) e = by_test (is_lt (text_cmp (namespace_key r) (namespace_key x))) (filter_other r xs e)
    where
      by_test : (b : Bool) → filter (is_in namespace) (put_by namespace_key r xs) ≡ filter (is_in namespace) xs
          → filter (is_in namespace) (cond b (r ∷ x ∷ xs) (x ∷ put_by namespace_key r xs)) ≡ filter (is_in namespace) (x ∷ xs)
      by_test true more = ap (λ t. cond t (r ∷ filter (is_in namespace) (x ∷ xs)) (filter (is_in namespace) (x ∷ xs))) e
      by_test false more = ap (λ zs. cond (is_in namespace x) (x ∷ zs) zs) more

  put_front : (r : Record) (xs : List Record) → AllByRecursion (λ y. text_cmp (namespace_key r) (namespace_key y) ≡ Less) xs → is_in namespace r ≡ true
      → put_by id_key r (filter (is_in namespace) xs) ≡ r ∷ filter (is_in namespace) xs
  put_front r [] h e = refl
  put_front r (x ∷ xs) h e = by_test (is_in namespace x) refl (put_front r xs h.1 e)
    where
      by_test : (b : Bool) → is_in namespace x ≡ b → put_by id_key r (filter (is_in namespace) xs) ≡ r ∷ filter (is_in namespace) xs
          → put_by id_key r (cond b (x ∷ filter (is_in namespace) xs) (filter (is_in namespace) xs)) ≡ r ∷ cond b (x ∷ filter (is_in namespace) xs) (filter (is_in namespace) xs)
      by_test true f more = rw (sym (by_ids r x e f) ∙ ap is_lt h.0) refl
      by_test false f more = more

  filter_own : (r : Record) (xs : List Record) → Rises namespace_key xs → is_in namespace r ≡ true
      → filter (is_in namespace) (put_by namespace_key r xs) ≡ put_by id_key r (filter (is_in namespace) xs)
  unfolding Rises
  filter_own r [] h e = rw e refl
  filter_own r (x ∷ xs) h e = by_test (is_lt (text_cmp (namespace_key r) (namespace_key x))) refl (filter_own r xs h.1 e)
    where
      by_place : (b : Bool) → is_in namespace x ≡ b → is_lt (text_cmp (namespace_key r) (namespace_key x)) ≡ false
          → filter (is_in namespace) (put_by namespace_key r xs) ≡ put_by id_key r (filter (is_in namespace) xs)
          → cond b (x ∷ filter (is_in namespace) (put_by namespace_key r xs)) (filter (is_in namespace) (put_by namespace_key r xs))
          ≡ put_by id_key r (cond b (x ∷ filter (is_in namespace) xs) (filter (is_in namespace) xs))
      by_place true f g more = rw (sym (by_ids r x e f) ∙ g) (ap (λ zs. x ∷ zs) more)
      by_place false f g more = more

      by_test : (b : Bool) → is_lt (text_cmp (namespace_key r) (namespace_key x)) ≡ b
          → filter (is_in namespace) (put_by namespace_key r xs) ≡ put_by id_key r (filter (is_in namespace) xs)
          → filter (is_in namespace) (cond b (r ∷ x ∷ xs) (x ∷ put_by namespace_key r xs)) ≡ put_by id_key r (filter (is_in namespace) (x ∷ xs))
      by_test true g more =
          ap (λ t. cond t (r ∷ filter (is_in namespace) (x ∷ xs)) (filter (is_in namespace) (x ∷ xs))) e
          ∙ sym (put_front r (x ∷ xs) (is_less _ g, all_above namespace_key r x xs (is_less _ g) h.0) e)
      by_test false g more = by_place (is_in namespace x) refl g more

  filter_fold : (rs xs ys : List Record) → Rises namespace_key xs → filter (is_in namespace) xs ≡ ys
      → filter (is_in namespace) (fold (λ zs r. put_by namespace_key r zs) xs rs) ≡ fold (λ zs r. put_by id_key r zs) ys (filter (is_in namespace) rs)
  filter_fold [] xs ys h e = e
  filter_fold (r ∷ rs) xs ys h e = by_test (is_in namespace r) refl (filter_fold rs (put_by namespace_key r xs))
    where
      by_test : (b : Bool) → is_in namespace r ≡ b
          → ((zs : List Record) → Rises namespace_key (put_by namespace_key r xs) → filter (is_in namespace) (put_by namespace_key r xs) ≡ zs
          → filter (is_in namespace) (fold (λ zs r. put_by namespace_key r zs) (put_by namespace_key r xs) rs) ≡ fold (λ zs r. put_by id_key r zs) zs (filter (is_in namespace) rs))
          → filter (is_in namespace) (fold (λ zs r. put_by namespace_key r zs) (put_by namespace_key r xs) rs)
          ≡ fold (λ zs r. put_by id_key r zs) ys (cond b (r ∷ filter (is_in namespace) rs) (filter (is_in namespace) rs))
      by_test true f more = more (put_by id_key r ys) (rises_put namespace_key r xs h) (filter_own r xs h f ∙ ap (put_by id_key r) e)
      by_test false f more = more ys (rises_put namespace_key r xs h) (filter_other r xs f ∙ e)

  pub filter_sorted : (rs : List Record) → filter (is_in namespace) (sorted_by namespace_key rs) ≡ sorted_by id_key (filter (is_in namespace) rs)
  unfolding Rises
  filter_sorted rs = filter_fold rs [] [] tt refl

  -- ---- the records of one namespace are adjacent

  same_region : (a b : List ℕ) → bytes_eq (region a) (region b) ≡ bytes_eq a b
  same_region a b = both _ _
      (λ e. (bytes_eq-Decides a b).1 (inside ((bytes_eq-Decides (region a) (region b)).0 e)))
      (λ e. (bytes_eq-Decides (region a) (region b)).1 (ap region ((bytes_eq-Decides a b).0 e)))
    where
      inside : length a ∷ a ≡ length b ∷ b → a ≡ b
      inside e = cc

  pub in_region : (r : Record) → bytes_eq (region namespace) (region_of r) ≡ is_in namespace r
  in_region r = same_region namespace r.namespace

pub rises_drop : (key : Record → List ℕ) (xs : List Record) (n : ℕ) → Rises key xs → Rises key (drop n xs)
unfolding Rises
rises_drop key xs zero h = h
rises_drop key [] (suc n) h = h
rises_drop key (x ∷ xs) (suc n) h = rises_drop key xs n h.1

-- ---- what of it is shown

turned_at : {A : Type 0} (k : ℕ) (xs : List A) → reverse xs ≡ reverse (drop k xs) ++ reverse (take k xs)
turned_at k xs = ap reverse (sym (take-append-drop k xs)) ∙ reverse-append (take k xs) (drop k xs)

front_length : {A : Type 0} (s : ℕ) (xs : List A) → s ≤ length xs → s ≡ length (reverse (drop (length xs - s) xs))
front_length s xs le = omega (arith, length-reverse (drop (length xs - s) xs), length-drop (length xs - s) xs)

last_dropped : {A : Type 0} (xs : List A) (s : ℕ) → s ≤ length xs → drop s (reverse xs) ≡ reverse (take (length xs - s) xs)
last_dropped xs s le =
    let front = reverse (drop (length xs - s) xs) in
    let back = reverse (take (length xs - s) xs) in
    ap (drop s) (turned_at (length xs - s) xs) ∙ ap (λ n. drop n (front ++ back)) (front_length s xs le) ∙ drop-append_seam front back

last_taken : {A : Type 0} (xs : List A) (m : ℕ) → m ≤ length xs → take m (reverse xs) ≡ reverse (drop (length xs - m) xs)
last_taken xs m le =
    let front = reverse (drop (length xs - m) xs) in
    let back = reverse (take (length xs - m) xs) in
    ap (take m) (turned_at (length xs - m) xs) ∙ ap (λ n. take n (front ++ back)) (front_length m xs le) ∙ take-append_seam front back

-- without the last `skip` items, the last `limit` items, the last first
pub last_shown : {A : Type 0} (xs rest : List A) (n m skip limit : ℕ) → rest ≡ take (length xs - n) xs → n ≡ min skip (length xs) → m ≡ min limit (length rest)
    → reverse (drop (length rest - m) rest) ≡ take limit (drop skip (reverse xs))
last_shown xs rest n m skip limit r is_n is_m =
    sym (last_taken rest m (omega arith))
    ∙ take_upto (reverse rest) m limit (omega (arith, length-reverse rest))
    ∙ ap (take limit) (ap reverse r ∙ sym (last_dropped xs n (omega arith)) ∙ drop_upto (reverse xs) n skip (omega (arith, length-reverse xs)))

last_alone : {A : Type 0} (i : ℕ) (xs : List A) (d : A) → length xs ≡ suc i → drop i xs ≡ get_or xs i d ∷ []
last_alone i [] d e = absurd (omega arith)
last_alone zero (x ∷ []) d e = refl
last_alone zero (x ∷ y ∷ ys) d e = absurd (omega arith)
last_alone (suc i) (x ∷ xs) d e = last_alone i xs d (omega arith)

-- in reverse order, the last item comes first
pub last_first : {A : Type 0} (xs : List A) (x : A) → 1 ≤ length xs → x ≡ get_or xs (length xs - 1) x → reverse xs ≡ x ∷ reverse (take (length xs - 1) xs)
last_first xs x le at =
    turned_at (length xs - 1) xs ∙ ap (λ zs. reverse zs ++ reverse (take (length xs - 1) xs)) (last_alone (length xs - 1) xs x (omega arith) ∙ ap (λ z. z ∷ []) (sym at))

pub shown_more : (vs ws : List Val) (v : Val) (x : V) (more : List V) → ws ≡ vs ++ v ∷ [] → view v ≡ x → views vs ++ x ∷ more ≡ views ws ++ more
shown_more vs ws v x more e f =
    sym (ap (λ zs. views zs ++ more) e ∙ ap (λ zs. zs ++ more) (map-append view vs (v ∷ [])) ∙ append_assoc (views vs) (view v ∷ []) more ∙ ap (λ y. views vs ++ y ∷ more) f)
