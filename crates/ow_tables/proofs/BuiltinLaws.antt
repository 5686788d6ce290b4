-- When a name is that of a built-in row, part by part.
use Rattle.std.proofs.Common.{◌≡◌, ◌&&◌, Bool, true, false, List, ℕ, Option, Some, None, codes, refl, sym, ap, ◌∙◌}
use Rattle.std.specs.Str.{bytes_eq}
use Rattle.std.proofs.lemmas.Slice.Eq.{bytes_eq-Decides}
use Rattle.std.proofs.lemmas.Bool.{and_parts, and_from}
use Rattle.ow_value.specs.Value.{text_cmp}
use Rattle.ow_value.proofs.Between.{both}
use Rattle.ow_names.specs.Name.{IsName}
use Rattle.ow_names.specs.FullName.{full_text, IsFullName}
use Rattle.ow_names.specs.declared.full.FullName.{FullName}
use Rattle.ow_names.proofs.NameLaws.{name_if_no_fault}
use Rattle.ow_names.proofs.PathLaws.{equal_names}
use Rattle.ow_tables.specs.Builtin.{echo, utils}

system_name : IsName (codes "whisk.system")
system_name = name_if_no_fault (codes "whisk.system") refl

utils_name : IsName (codes "utils")
utils_name = name_if_no_fault (codes "utils") refl

echo_name : IsName (codes "echo")
echo_name = name_if_no_fault (codes "echo") refl

pub echo_full : IsFullName echo.name
echo_full = record { namespace = system_name; inside = utils_name; name = echo_name }

pub utils_full : IsFullName utils.name
utils_full = record { namespace = system_name; inside = tt; name = utils_name }

-- the text of a name is that of its parts
text_of : (n : FullName) (s : List ℕ) (o : Option (List ℕ)) (l : List ℕ) → s ≡ n.namespace → n.package ≡ o → l ≡ n.name
    → full_text (record { namespace = s; «package» = o; name = l }) ≡ full_text n
text_of n s o l e f g =
    ap (λ (a : List ℕ). full_text (record { namespace = a; «package» = o; name = l })) e
    ∙ ap (λ (a : Option (List ℕ)). full_text (record { namespace = n.namespace; «package» = a; name = l })) (sym f)
    ∙ ap (λ (a : List ℕ). full_text (record { namespace = n.namespace; «package» = n.package; name = a })) g

are_equal : (s t : List ℕ) → bytes_eq s t ≡ true → s ≡ t
are_equal s t = (bytes_eq-Decides s t).0

is_equal : (s t : List ℕ) → s ≡ t → bytes_eq s t ≡ true
is_equal s t = (bytes_eq-Decides s t).1

-- two names have one text exactly where they are one name
same_text : (a b : FullName) → IsFullName a → IsFullName b → bytes_eq (full_text a) (full_text b) ≡ true → a ≡ b
same_text a b ha hb e =
    (equal_names a b _ ha hb refl).0 (ap (λ t. text_cmp t (full_text b)) (are_equal (full_text a) (full_text b) e) ∙ (equal_names b b _ hb hb refl).1 refl)

-- ---- the action

echo_parts : (s p l : List ℕ) → IsName s → IsName p → IsName l
    → (bytes_eq s echo.name.namespace && (bytes_eq p utils.name.name && bytes_eq l echo.name.name))
    ≡ bytes_eq (full_text (record { namespace = s; «package» = Some p; name = l })) (full_text echo.name)
echo_parts s p l hs hp hl = both _ _
    (λ e. is_equal _ _ (text_of echo.name s (Some p) l
    (are_equal _ _ (and_parts _ _ e).0)
    (sym (ap (λ (a : List ℕ). Some a) (are_equal _ _ (and_parts _ _ (and_parts _ _ e).1).0)))
    (are_equal _ _ (and_parts _ _ (and_parts _ _ e).1).1)))
    (λ e.
    let same = same_text _ echo.name (record { namespace = hs; inside = hp; name = hl }) echo_full e in
    and_from _ _ (is_equal _ _ (ap (λ (n : FullName). n.namespace) same))
    (and_from _ _ (is_equal _ _ (inside (ap (λ (n : FullName). n.package) same))) (is_equal _ _ (ap (λ (n : FullName). n.name) same))))
  where
    inside : {a b : List ℕ} → Some a ≡ Some b → a ≡ b
    inside e = cc

pub is_echo : (n : FullName) (s p l : List ℕ) (r : Bool) → s ≡ n.namespace → IsName s → l ≡ n.name → IsName l → n.package ≡ Some p → IsName p
    → r ≡ (bytes_eq s echo.name.namespace && (bytes_eq p utils.name.name && bytes_eq l echo.name.name))
    → r ≡ bytes_eq (full_text n) (full_text echo.name)
is_echo n s p l r e hs g hl f hp i =
    i ∙ echo_parts s p l hs hp hl ∙ ap (λ t. bytes_eq t (full_text echo.name)) (text_of n s (Some p) l e f g)

pub no_echo : (n : FullName) (s l : List ℕ) → s ≡ n.namespace → IsName s → l ≡ n.name → IsName l → n.package ≡ None
    → false ≡ bytes_eq (full_text n) (full_text echo.name)
no_echo n s l e hs g hl f =
    both _ _ (λ b. cc) (λ b. flat_is_none (ap (λ (m : FullName). m.package) (same_text _ echo.name (record { namespace = hs; inside = tt; name = hl }) echo_full b)))
    ∙ ap (λ t. bytes_eq t (full_text echo.name)) (text_of n s None l e f g)
  where
    flat_is_none : {A : Type 0} {a : List ℕ} → None ≡ Some a → A
    flat_is_none q = cc

-- ---- the package

utils_parts : (s l : List ℕ) → IsName s → IsName l
    → (bytes_eq s utils.name.namespace && bytes_eq l utils.name.name)
    ≡ bytes_eq (full_text (record { namespace = s; «package» = None; name = l })) (full_text utils.name)
utils_parts s l hs hl = both _ _
    (λ e. is_equal _ _ (text_of utils.name s None l (are_equal _ _ (and_parts _ _ e).0) refl (are_equal _ _ (and_parts _ _ e).1)))
    (λ e.
    let same = same_text (record { namespace = s; «package» = None; name = l }) utils.name (record { namespace = hs; inside = tt; name = hl }) utils_full e in
    and_from _ _ (is_equal _ _ (ap (λ (n : FullName). n.namespace) same)) (is_equal _ _ (ap (λ (n : FullName). n.name) same)))

pub is_utils : (n : FullName) (s l : List ℕ) (r : Bool) → s ≡ n.namespace → IsName s → l ≡ n.name → IsName l → n.package ≡ None
    → r ≡ (bytes_eq s utils.name.namespace && bytes_eq l utils.name.name)
    → r ≡ bytes_eq (full_text n) (full_text utils.name)
is_utils n s l r e hs g hl f i =
    i ∙ utils_parts s l hs hl ∙ ap (λ t. bytes_eq t (full_text utils.name)) (text_of n s None l e f g)

pub no_utils : (n : FullName) (s p l : List ℕ) → s ≡ n.namespace → IsName s → l ≡ n.name → IsName l → n.package ≡ Some p → IsName p
    → false ≡ bytes_eq (full_text n) (full_text utils.name)
no_utils n s p l e hs g hl f hp =
    both _ _ (λ b. cc) (λ b. inside_is_none (ap (λ (m : FullName). m.package) (same_text _ utils.name (record { namespace = hs; inside = hp; name = hl }) utils_full b)))
    ∙ ap (λ t. bytes_eq t (full_text utils.name)) (text_of n s (Some p) l e f g)
  where
    inside_is_none : {A : Type 0} {a : List ℕ} → Some a ≡ None → A
    inside_is_none q = cc
