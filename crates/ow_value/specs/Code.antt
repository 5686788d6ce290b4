-- The code by which a proof distinguishes two values: a tree of numbers that gives the value back.
use Rattle.std.specs.Prelude.{◌≡◌, ℕ, zero, suc, ℤ, pos, negsuc, List, [], ◌∷◌, Bool, true, false, refl}
use Rattle.std.proofs.Common.{sym, ap, ◌∙◌}
use base.Stored.{Coded, Gv, gnil, gnum, gcons}
use Rattle.ow_value.specs.Value.{V, null, boolean, whole, text, list, object, Items, no_items, item, Members, no_members, member}

abbrev num : Gv → ℕ
num gnil = 0
num (gnum n) = n
num (gcons a b) = 0

abbrev head : Gv → Gv
head gnil = gnil
head (gnum n) = gnil
head (gcons a b) = a

abbrev tail : Gv → Gv
tail gnil = gnil
tail (gnum n) = gnil
tail (gcons a b) = b

abbrev code_bool : Bool → ℕ
code_bool true = 1
code_bool false = 0

abbrev bool_back : ℕ → Bool
bool_back zero = false
bool_back (suc n) = true

bool_same : (b : Bool) → bool_back (code_bool b) ≡ b
bool_same true = refl
bool_same false = refl

abbrev code_int : ℤ → Gv
code_int (pos n) = gcons (gnum 0) (gnum n)
code_int (negsuc n) = gcons (gnum 1) (gnum n)

abbrev by_sign : ℕ → ℕ → ℤ
by_sign zero n = pos n
by_sign (suc k) n = negsuc n

int_same : (z : ℤ) → by_sign (num (head (code_int z))) (num (tail (code_int z))) ≡ z
int_same (pos n) = refl
int_same (negsuc n) = refl

abbrev code_text : List ℕ → Gv
code_text [] = gnil
code_text (n ∷ ns) = gcons (gnum n) (code_text ns)

abbrev text_back : Gv → List ℕ
text_back gnil = []
text_back (gnum n) = []
text_back (gcons a b) = num a ∷ text_back b

text_same : (ns : List ℕ) → text_back (code_text ns) ≡ ns
text_same [] = refl
text_same (n ∷ ns) = ap (λ ms. n ∷ ms) (text_same ns)

abbrev mutual
  code : V → Gv
  code null = gcons (gnum 0) gnil
  code (boolean b) = gcons (gnum 1) (gnum (code_bool b))
  code (whole z) = gcons (gnum 2) (code_int z)
  code (text s) = gcons (gnum 3) (code_text s)
  code (list vs) = gcons (gnum 4) (code_items vs)
  code (object ps) = gcons (gnum 5) (code_members ps)

  code_items : Items → Gv
  code_items no_items = gnil
  code_items (item v vs) = gcons (code v) (code_items vs)

  code_members : Members → Gv
  code_members no_members = gnil
  code_members (member k v ps) = gcons (gcons (code_text k) (code v)) (code_members ps)

-- what a tree is as a value, as items, as members and as a pair
abbrev Back : Type 0
Back = V × Items × Members × List ℕ × V

abbrev by_tag : ℕ → Gv → Back → V
by_tag zero g r = null
by_tag (suc zero) g r = boolean (bool_back (num g))
by_tag (suc (suc zero)) g r = whole (by_sign (num (head g)) (num (tail g)))
by_tag (suc (suc (suc zero))) g r = text (text_back g)
by_tag (suc (suc (suc (suc zero)))) g r = list r.1
by_tag (suc (suc (suc (suc (suc n))))) g r = object r.2

abbrev join : Gv → Gv → Back → Back → Back
join a b ra rb = (by_tag (num a) b rb, item ra.0 rb.1, member ra.3 ra.4 rb.2, text_back a, rb.0)

abbrev back : Gv → Back
back gnil = (null, no_items, no_members, [], null)
back (gnum n) = (null, no_items, no_members, [], null)
back (gcons a b) = join a b (back a) (back b)

mutual
  pub same : (v : V) → (back (code v)).0 ≡ v
  same null = refl
  same (boolean b) = ap boolean (bool_same b)
  same (whole z) = ap whole (int_same z)
  same (text s) = ap text (text_same s)
  same (list vs) = ap list (items_same vs)
  same (object ps) = ap object (members_same ps)

  items_same : (vs : Items) → (back (code_items vs)).1 ≡ vs
  items_same no_items = refl
  items_same (item v vs) = λ i. item (same v i) (items_same vs i)

  members_same : (ps : Members) → (back (code_members ps)).2 ≡ ps
  members_same no_members = refl
  members_same (member k v ps) = λ i. member (text_same k i) (same v i) (members_same ps i)

abbrev pub value_code : Coded V
value_code = record { code = code; inj = λ x y p. sym (same x) ∙ ap (λ g. (back g).0) p ∙ same y }
