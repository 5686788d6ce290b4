-- Tokens that are written one after the other.
use Rattle.std.proofs.Common.{◌≡◌, List, [], ◌∷◌, ◌++◌, Result, Ok, Err, OnOk, Option, Some, None, refl, sym, ap, ◌∙◌}
use Rattle.std.proofs.lemmas.List.{append_assoc}
use Rattle.json.specs.Token.{Token, end_array}
use Rattle.ow_value.specs.Value.{V, Pairs, items_of, members_of}
use Rattle.ow_value.specs.Text.{value_tokens, items_tokens, members_tokens}
use Rattle.ow_names.specs.declared.full.FullName.{FullName}
use Rattle.ow_records.specs.Written.{cause_members}
use Rattle.ow_records.specs.declared.ids.Id.{Id}
use Rattle.ow_row_text.specs.Item.{binding_members}
use Rattle.ow_row_text.specs.Tokens.{binding_tokens, cause_tokens, values_tokens}

pub then_ok : {T E : Type 0} {P Q : Type 0} (r : Result T E) → (P → Q) → OnOk r P → OnOk r Q
then_ok (Ok x) f h = f h
then_ok (Err e) f h = h

-- ---- tokens that are written after others

pub two : (t a b : List Token) {u v : List Token} → u ≡ t ++ a → v ≡ u ++ b → v ≡ t ++ (a ++ b)
two t a b e f = f ∙ ap (λ w. w ++ b) e ∙ append_assoc t a b

pub three : (t a b c : List Token) {u v w : List Token} → u ≡ t ++ a → v ≡ u ++ b → w ≡ v ++ c → w ≡ t ++ (a ++ (b ++ c))
three t a b c {u = u} e f g = two t a (b ++ c) e (two u b c f g)

pub four : (t a b c d : List Token) {u v w x : List Token} → u ≡ t ++ a → v ≡ u ++ b → w ≡ v ++ c → x ≡ w ++ d → x ≡ t ++ (a ++ (b ++ (c ++ d)))
four t a b c d {u = u} e f g h = two t a (b ++ (c ++ d)) e (three u b c d f g h)

pub five : (t a b c d m : List Token) {u v w x y : List Token} → u ≡ t ++ a → v ≡ u ++ b → w ≡ v ++ c → x ≡ w ++ d → y ≡ x ++ m → y ≡ t ++ (a ++ (b ++ (c ++ (d ++ m))))
five t a b c d m {u = u} e f g h i = two t a (b ++ (c ++ (d ++ m))) e (four u b c d m f g h i)

-- ---- members that may be left out

pub caused : (o : Option Id) (ps : Pairs) → cause_tokens o ++ members_tokens (members_of ps) ≡ members_tokens (members_of (cause_members o ps))
caused None ps = refl
caused (Some cause) ps = refl

pub bound : (o : Option FullName) (ps : Pairs) → binding_tokens o ++ members_tokens (members_of ps) ≡ members_tokens (members_of (binding_members o ps))
bound None ps = refl
bound (Some name) ps = refl

-- ---- lists

values_append : (xs ys : List V) → values_tokens (xs ++ ys) ≡ values_tokens xs ++ values_tokens ys
values_append [] ys = refl
values_append (v ∷ xs) ys = ap (λ ts. value_tokens v ++ ts) (values_append xs ys) ∙ sym (append_assoc (value_tokens v) (values_tokens xs) (values_tokens ys))

-- more values after the ones that were written
pub more : (t : List Token) (xs ys : List V) {u v : List Token} → u ≡ t ++ values_tokens xs → v ≡ u ++ values_tokens ys → v ≡ t ++ values_tokens (xs ++ ys)
more t xs ys e f = two t (values_tokens xs) (values_tokens ys) e f ∙ ap (λ w. t ++ w) (sym (values_append xs ys))

items_closed : (xs : List V) → values_tokens xs ++ end_array ∷ [] ≡ items_tokens (items_of xs)
items_closed [] = refl
items_closed (v ∷ xs) = append_assoc (value_tokens v) (values_tokens xs) (end_array ∷ []) ∙ ap (λ ts. value_tokens v ++ ts) (items_closed xs)

-- the end of a list after its values
pub close : (t : List Token) (xs : List V) {u v : List Token} → u ≡ t ++ values_tokens xs → v ≡ u ++ end_array ∷ [] → v ≡ t ++ items_tokens (items_of xs)
close t xs e f = two t (values_tokens xs) (end_array ∷ []) e f ∙ ap (λ w. t ++ w) (items_closed xs)
