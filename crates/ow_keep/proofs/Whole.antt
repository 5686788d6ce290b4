-- Rows are judged as they are kept.
use Rattle.std.proofs.Common.{◌≡◌, ◌≢◌, ℕ, ◌&&◌, List, [], ◌∷◌, Bool, true, false, cond, map, codes, is_some, Option, Some, None, option_and_then, Result, Ok, Err, refl, sym, ap, ◌∙◌, subst, inl, inr}
use Rattle.std.specs.List.{AllByRecursion}
use Rattle.std.specs.Str.{bytes_eq}
use Rattle.std.proofs.lemmas.Bool.{and_parts}
use Rattle.std.proofs.lemmas.Slice.Eq.{bytes_eq-Decides}
use Rattle.ow_traits.specs.Rows.{text_of}
use Rattle.ow_row_text.specs.Item.{item_key, item_text, item_row}
use Rattle.ow_keep.specs.Kept.{MayStand, AreKept, IsFirstBad, IsBadRow, TellsBad}
use Rattle.ow_keep.specs.Known.{IsItem}
use Rattle.ow_keep.specs.Judged.{or_key, gathered, versioned, judged, IsBad}
use Rattle.ow_keep.specs.Allowed.{item_at, confirmed, is_row_of, is_shallow, is_allowed}
use Rattle.ow_keep.specs.ItemIn.{item_from}
use Rattle.ow_row_text.specs.Sorted.{Entries}
use Rattle.ow_row_text.specs.declared.item.Item.{Item}
use Rattle.ow_keep.specs.declared.refusal.KeepRefusal.{KeepRefusal}
use Rattle.ow_keep.specs.declared.refusal.KeepRefusal.TheVariants.{BadKept, NoMemory}
use Rattle.ow_keep.proofs.Back.{item_back}

-- ---- one row

taken : (b : Bool) (j i : Item) → cond b (Some j) None ≡ Some i → (b ≡ true) × (j ≡ i)
taken true j i e = (refl, cc)
taken false j i e = let f : ⊥ = cc in absurd f

confirmed_sound : (all : Entries) (r : List ℕ × List ℕ) (j i : Item) → confirmed all r j ≡ Some i → (item_row i ≡ r) × MayStand all i
confirmed_sound all r j i e =
    let t = taken (is_row_of j r && is_allowed all j) j i e in
    let a = and_parts (is_row_of j r) (is_allowed all j) t.0 in
    let b = and_parts (bytes_eq (item_key j) r.0) (bytes_eq (item_text j) r.1 && is_shallow j) a.0 in
    let c = and_parts (bytes_eq (item_text j) r.1) (is_shallow j) b.1 in
    let k : item_key j ≡ r.0 = (bytes_eq-Decides (item_key j) r.0).0 b.0 in
    let s : item_text j ≡ r.1 = (bytes_eq-Decides (item_text j) r.1).0 c.0 in
    subst (λ x. (item_row x ≡ r) × MayStand all x) t.1 (λ n. (k n, s n), record { shallow = c.1; allowed = a.1 })

from_option : (all : Entries) (r : List ℕ × List ℕ) (o : Option Item) (i : Item) → option_and_then (confirmed all r) o ≡ Some i → (item_row i ≡ r) × MayStand all i
from_option all r None i e = let f : ⊥ = cc in absurd f
from_option all r (Some j) i e = confirmed_sound all r j i e

pub item_at-sound : (all : Entries) (r : List ℕ × List ℕ) (i : Item) → item_at all r ≡ Some i → (item_row i ≡ r) × MayStand all i
unfolding item_at
item_at-sound all r i e = from_option all r (item_from r.0 r.1) i e

four : {A : Type 0} (a b c d : Bool) (x y : A) → a ≡ true → b ≡ true → c ≡ true → d ≡ true → cond ((a && (b && c)) && d) x y ≡ x
four a b c d x y e f g h = rw (e, f, g, h) refl

pub item_at_row : (all : Entries) (i : Item) → IsItem i → MayStand all i → item_at all (item_row i) ≡ Some i
unfolding item_at
item_at_row all i h s =
    ap (option_and_then (confirmed all (item_row i))) (item_back all i h s)
    ∙ four (bytes_eq (item_key i) (item_key i)) (bytes_eq (item_text i) (item_text i)) (is_shallow i) (is_allowed all i) (Some i) None
    ((bytes_eq-Decides (item_key i) (item_key i)).1 refl) ((bytes_eq-Decides (item_text i) (item_text i)).1 refl) s.shallow s.allowed

-- ---- all rows

abbrev Good : Entries → Entries → List Item → Type 0
Good all rows is = (rows ≡ map item_row is) × AllByRecursion (MayStand all) is

good_step : (all : Entries) (r : List ℕ × List ℕ) (rs : Entries) (is : List Item) (o : Option Item) (rest : Result (List Item) (List ℕ))
    → item_at all r ≡ o → ((js : List Item) → rest ≡ Ok js → Good all rs js) → or_key r.0 o rest ≡ Ok is → Good all (r ∷ rs) is
good_step all r rs is None rest p h e = let f : ⊥ = cc in absurd f
good_step all r rs is (Some i) (Err key) p h e = let f : ⊥ = cc in absurd f
good_step all r rs is (Some i) (Ok js) p h e =
    let a = item_at-sound all r i p in
    let b = h js refl in
    let same : i ∷ js ≡ is = cc in
    subst (Good all (r ∷ rs)) same (λ n. sym a.0 n ∷ b.0 n, (a.1, b.1))

pub gathered-sound : (all rows : Entries) (is : List Item) → gathered all rows ≡ Ok is → Good all rows is
gathered-sound all [] is e = let same : [] ≡ is = cc in subst (Good all []) same (refl, tt)
gathered-sound all (r ∷ rs) is e = good_step all r rs is (item_at all r) (gathered all rs) refl (λ js q. gathered-sound all rs js q) e

pub gathered-rows : (all : Entries) (is : List Item) → AllByRecursion IsItem is → AllByRecursion (MayStand all) is → gathered all (map item_row is) ≡ Ok is
gathered-rows all [] h s = refl
gathered-rows all (i ∷ is) h s = λ n. or_key (item_key i) (item_at_row all i h.0 s.0 n) (gathered-rows all is h.1 s.1 n)

-- ---- the first bad row

not_row : (all : Entries) (r : List ℕ × List ℕ) → item_at all r ≡ None → (i : Item) → IsItem i → MayStand all i → item_row i ≢ r
not_row all r e i h s same = let f = item_at_row all i h s in let g : item_at all (item_row i) ≡ None = ap (item_at all) same ∙ e in cc

bad_step : (all : Entries) (r : List ℕ × List ℕ) (rs : Entries) (key : List ℕ) (o : Option Item) (rest : Result (List Item) (List ℕ))
    → item_at all r ≡ o → ((k : List ℕ) → rest ≡ Err k → IsFirstBad all rs k) → or_key r.0 o rest ≡ Err key → IsFirstBad all (r ∷ rs) key
bad_step all r rs key None rest p h e =
    let same : r.0 ≡ key = cc in
    subst (IsFirstBad all (r ∷ rs)) same (record { text = r.1; before = []; behind = rs; whole = refl; good = tt; bad = not_row all r p })
bad_step all r rs key (Some i) (Ok js) p h e = let f : ⊥ = cc in absurd f
bad_step all r rs key (Some i) (Err k) p h e =
    let a = item_at-sound all r i p in
    let same : k ≡ key = cc in
    let b = h key (ap Err same) in
    record {
      text = b.text;
      before = i ∷ b.before;
      behind = b.behind;
      whole = λ n. sym a.0 n ∷ b.whole n;
      good = (a.1, b.good);
      bad = b.bad;
    }

pub gathered-bad : (all rows : Entries) (key : List ℕ) → gathered all rows ≡ Err key → IsFirstBad all rows key
gathered-bad all [] key e = let f : ⊥ = cc in absurd f
gathered-bad all (r ∷ rs) key e = bad_step all r rs key (item_at all r) (gathered all rs) refl (λ k q. gathered-bad all rs k q) e

-- ---- the row of the version

version_step : (all : Entries) (b : Bool) (is js : List Item) → is_some (text_of (codes "version") all) ≡ b → gathered all all ≡ Ok js
    → cond b (Ok js) (Err (codes "version")) ≡ Ok is → AreKept all is
version_step all true is js p g e =
    let same : js ≡ is = cc in
    let a = gathered-sound all all js g in
    subst (AreKept all) same (record { rows = a.0; each = a.1; version = inr p })
version_step all false is js p g e = let f : ⊥ = cc in absurd f

versioned-sound : (all : Entries) (is : List Item) (g : Result (List Item) (List ℕ)) → gathered all all ≡ g → versioned all g ≡ Ok is → AreKept all is
versioned-sound all is (Err key) p e = let f : ⊥ = cc in absurd f
versioned-sound all is (Ok js) p e = version_step all (is_some (text_of (codes "version") all)) is js refl p e

pub judged-sound : (rows : Entries) (is : List Item) → judged rows ≡ Ok is → AreKept rows is
judged-sound [] is e = let same : [] ≡ is = cc in subst (AreKept []) same (record { rows = refl; each = tt; version = inl refl })
judged-sound (r ∷ rs) is e = versioned-sound (r ∷ rs) is (gathered (r ∷ rs) (r ∷ rs)) refl e

no_row : {A : Type 0} (r : A) (rs : List A) → r ∷ rs ≡ [] → ⊥
no_row r rs e = cc

with_version : (all : Entries) (is : List Item) (b : Bool) → is_some (text_of (codes "version") all) ≡ b → b ≡ true → cond b (Ok is) (Err (codes "version")) ≡ Ok is
with_version all is true p e = refl
with_version all is false p e = cc

judged_by : (all : Entries) (is : List Item) → all ≢ [] → AreKept all is → gathered all all ≡ Ok is → versioned all (gathered all all) ≡ Ok is
judged_by all is n k g =
    ap (versioned all) g
    ∙ with_version all is (is_some (text_of (codes "version") all)) refl (elim k.version as (λ _. is_some (text_of (codes "version") all) ≡ true) [ inl e ↦ absurd (n e) | inr e ↦ e ])

gathered_kept : (all : Entries) (is : List Item) → AreKept all is → AllByRecursion IsItem is → gathered all all ≡ Ok is
gathered_kept all is k h = ap (gathered all) k.rows ∙ gathered-rows all is h k.each

no_items_of : (is : List Item) → [] ≡ map item_row is → [] ≡ is
no_items_of [] e = refl
no_items_of (i ∷ is) e = cc

pub judged-kept : (rows : Entries) (is : List Item) → AreKept rows is → AllByRecursion IsItem is → judged rows ≡ Ok is
judged-kept [] is k h = ap Ok (no_items_of is k.rows)
judged-kept (r ∷ rs) is k h = judged_by (r ∷ rs) is (no_row r rs) k (gathered_kept (r ∷ rs) is k h)

version_bad : (all : Entries) (b : Bool) (key : List ℕ) (js : List Item) → is_some (text_of (codes "version") all) ≡ b → gathered all all ≡ Ok js
    → cond b (Ok js) (Err (codes "version")) ≡ Err key → IsBadRow all key
version_bad all true key js p g e = let f : ⊥ = cc in absurd f
version_bad all false key js p g e = let same : codes "version" ≡ key = cc in let a = gathered-sound all all js g in inr (record { names = sym same; missing = p; items = js; rows = a.0; good = a.1 })

versioned-bad : (all : Entries) (key : List ℕ) (g : Result (List Item) (List ℕ)) → gathered all all ≡ g → versioned all g ≡ Err key → IsBadRow all key
versioned-bad all key (Err k) p e = let same : k ≡ key = cc in inl (gathered-bad all all key (p ∙ ap Err same))
versioned-bad all key (Ok js) p e = version_bad all (is_some (text_of (codes "version") all)) key js refl p e

pub judged-bad : (rows : Entries) (key : List ℕ) → judged rows ≡ Err key → IsBadRow rows key
judged-bad [] key e = let f : ⊥ = cc in absurd f
judged-bad (r ∷ rs) key e = versioned-bad (r ∷ rs) key (gathered (r ∷ rs) (r ∷ rs)) refl e

-- ---- what the call answers

pub tells_bad : (rows : Entries) (e : KeepRefusal) → IsBad (judged rows) e → TellsBad rows e
tells_bad rows (BadKept key) h = judged-bad rows key h
tells_bad rows NoMemory h = tt

pub only_kept : (rows : Entries) (is : List Item) (e : KeepRefusal) → IsBad (judged rows) e → AreKept rows is → AllByRecursion IsItem is → e ≡ NoMemory
only_kept rows is (BadKept key) h k g = let f = judged-kept rows is k g in cc
only_kept rows is NoMemory h k g = refl
