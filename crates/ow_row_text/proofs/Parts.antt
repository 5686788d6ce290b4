-- Entries in several sections.
use Rattle.std.proofs.Common.{◌≡◌, ℕ, List, [], ◌∷◌, ◌++◌, Bool, true, false, cond, Option, Some, None, is_eq, refl, sym, ap, ◌∙◌, subst}
use Rattle.std.specs.Str.{bytes_eq}
use Rattle.std.proofs.lemmas.Slice.Eq.{bytes_eq-Decides}
use Rattle.ow_value.specs.Value.{text_cmp}
use Rattle.ow_traits.specs.Rows.{text_of}
use Rattle.ow_row_text.specs.Sorted.{Entries}

abbrev pub or_text : Option (List ℕ) → Option (List ℕ) → Option (List ℕ)
or_text None o = o
or_text (Some t) o = Some t

through : (b : Bool) (t : List ℕ) (x y : Option (List ℕ)) → cond b (Some t) (or_text x y) ≡ or_text (cond b (Some t) x) y
through true t x y = refl
through false t x y = refl

pub text_of-append : (q : List ℕ) (a b : Entries) → text_of q (a ++ b) ≡ or_text (text_of q a) (text_of q b)
text_of-append q [] b = refl
text_of-append q (e ∷ a) b = ap (cond (is_eq (text_cmp q e.0)) (Some e.1)) (text_of-append q a b) ∙ through (is_eq (text_cmp q e.0)) e.1 (text_of q a) (text_of q b)

-- what is not at the key isn't at a text that equals it
pub not_at : (q k : List ℕ) (es : Entries) → text_of k es ≡ None → bytes_eq q k ≡ true → text_of q es ≡ None
not_at q k es h e = subst (λ x. text_of x es ≡ None) (sym ((bytes_eq-Decides q k).0 e)) h
