-- What a look-up finds after a change.
use Rattle.std.proofs.Common.{◌≡◌, ℕ, Bool, true, false, not, cond, List, [], ◌∷◌, find, filter, Option, Some, None, Ordering, Less, Equal, Greater, refl, sym, ap, ◌∙◌, subst}
use Rattle.std.specs.Ordering.{match_ordering}
use Rattle.std.specs.Str.{bytes_eq}
use Rattle.std.proofs.lemmas.Slice.Eq.{bytes_eq-Decides}
use Rattle.ow_value.specs.Value.{text_cmp}
use Rattle.ow_value.proofs.KeySearch.{test_of, equal_texts, turned}
use Rattle.ow_names.specs.declared.full.FullName.{FullName}
use Rattle.ow_entity.specs.declared.kinds.EntityKind.{EntityKind}
use Rattle.ow_entity.specs.declared.rows.Row.{Row}
use Rattle.ow_tables.specs.Contents.{Change}
use Rattle.ow_tables.specs.Rows.{key, key_of, found, found_after, with_row, changed}

abbrev finds : List ℕ → List Row → Option Row
finds k rows = find (λ r. bytes_eq k (key_of r)) rows

-- ---- after a put

-- the row of the key is the one that was put, and any other is found as before
pub put_finds : (k : List ℕ) (r : Row) (rows : List Row) → finds k (with_row r rows) ≡ cond (bytes_eq k (key_of r)) (Some r) (finds k rows)
put_finds k r [] = refl
put_finds k r (x ∷ xs) = by_order (text_cmp (key_of r) (key_of x)) refl (put_finds k r xs)
  where
    behind : (a b : Bool) (f : Option Row) → (a ≡ true → b ≡ false) → cond a (Some x) (cond b (Some r) f) ≡ cond b (Some r) (cond a (Some x) f)
    behind true b f h = rw (h refl) refl
    behind false b f h = refl

    by_equal : (a b : Bool) (f : Option Row) → a ≡ b → cond b (Some r) f ≡ cond b (Some r) (cond a (Some x) f)
    by_equal a true f e = refl
    by_equal a false f e = rw e refl

    by_order : (o : Ordering) → text_cmp (key_of r) (key_of x) ≡ o → finds k (with_row r xs) ≡ cond (bytes_eq k (key_of r)) (Some r) (finds k xs)
        → finds k (match_ordering o (r ∷ x ∷ xs) (r ∷ xs) (x ∷ with_row r xs)) ≡ cond (bytes_eq k (key_of r)) (Some r) (finds k (x ∷ xs))
    by_order Less e more = refl
    by_order Equal e more = by_equal (bytes_eq k (key_of x)) (bytes_eq k (key_of r)) (finds k xs) (ap (bytes_eq k) (sym (equal_texts (key_of r) (key_of x) e)))
    by_order Greater e more =
        ap (λ f. cond (bytes_eq k (key_of x)) (Some x) f) more
        ∙ behind (bytes_eq k (key_of x)) (bytes_eq k (key_of r)) (finds k xs)
        (λ t. ap (λ a. bytes_eq a (key_of r)) ((bytes_eq-Decides k (key_of x)).0 t) ∙ test_of (key_of x) (key_of r) Less (turned (key_of r) (key_of x) Greater e))

-- ---- after a removal

none_either : (b : Bool) (f : Option Row) → f ≡ None → f ≡ cond b None f
none_either true f e = e
none_either false f e = refl

-- no row has the key any more, and any other is found as before
without_finds : (k l : List ℕ) (rows : List Row) → finds k (filter (λ r. not (bytes_eq l (key_of r))) rows) ≡ cond (bytes_eq k l) None (finds k rows)
without_finds k l [] = none_either (bytes_eq k l) None refl
without_finds k l (x ∷ xs) = by_test (bytes_eq l (key_of x)) refl (without_finds k l xs)
  where
    out : (a c : Bool) (f : Option Row) → a ≡ c → cond c None f ≡ cond c None (cond a (Some x) f)
    out a true f e = refl
    out a false f e = rw e refl

    stays : (a c : Bool) (f : Option Row) → (a ≡ true → c ≡ false) → cond a (Some x) (cond c None f) ≡ cond c None (cond a (Some x) f)
    stays true c f h = rw (h refl) refl
    stays false c f h = refl

    by_test : (b : Bool) → bytes_eq l (key_of x) ≡ b → finds k (filter (λ r. not (bytes_eq l (key_of r))) xs) ≡ cond (bytes_eq k l) None (finds k xs)
        → finds k (cond (not b) (x ∷ filter (λ r. not (bytes_eq l (key_of r))) xs) (filter (λ r. not (bytes_eq l (key_of r))) xs)) ≡ cond (bytes_eq k l) None (finds k (x ∷ xs))
    by_test true e more = more ∙ out (bytes_eq k (key_of x)) (bytes_eq k l) (finds k xs) (ap (bytes_eq k) (sym ((bytes_eq-Decides l (key_of x)).0 e)))
    by_test false e more =
        ap (λ f. cond (bytes_eq k (key_of x)) (Some x) f) more
        ∙ stays (bytes_eq k (key_of x)) (bytes_eq k l) (finds k xs) (λ t. apart k l (key_of x) ((bytes_eq-Decides k (key_of x)).0 t) e)
      where
        turned_test : (a b : List ℕ) → bytes_eq b a ≡ false → (t : Bool) → bytes_eq a b ≡ t → t ≡ false
        turned_test a b h true t = sym (subst (λ z. bytes_eq z a ≡ true) ((bytes_eq-Decides a b).0 t) (test_same a)) ∙ h
          where
            test_same : (z : List ℕ) → bytes_eq z z ≡ true
            test_same z = (bytes_eq-Decides z z).1 refl
        turned_test a b h false t = refl

        apart : (a b c : List ℕ) → a ≡ c → bytes_eq b c ≡ false → bytes_eq a b ≡ false
        apart a b c e h = turned_test a b (ap (bytes_eq b) e ∙ h) (bytes_eq a b) refl

-- ---- after a change

by_kind : (r : Row) (removes : Bool) (kind : EntityKind) (name : FullName) (rows : List Row) → let c : Change = record { row = r; removes = removes } in
    found kind name (changed c rows) ≡ found_after c kind name (found kind name rows)
by_kind r true kind name rows = without_finds (key kind name) (key_of r) rows
by_kind r false kind name rows = put_finds (key kind name) r rows

pub changes : (c : Change) (old new : List Row) → new ≡ changed c old → (kind : EntityKind) (name : FullName) → found kind name new ≡ found_after c kind name (found kind name old)
changes c old new e kind name = ap (found kind name) e ∙ by_kind c.row c.removes kind name old
