-- What a path gives: the parts of a text, and the name that the text of a full name reads as.
use Rattle.std.proofs.Common.{◌≡◌, ℕ, ◌<◌, ◌≤◌, ◌+◌, ◌-◌, List, [], ◌∷◌, ◌++◌, Bool, true, false, length, take, drop, cond, codes, Option, Some, None, IfSome, Result, Ok, refl, sym, ap, ◌∙◌, arith, ◌↔◌, Ordering, Equal}
use Rattle.std.specs.List.{position, position_or_len}
use Rattle.std.specs.Str.{bytes_eq}
use Rattle.std.proofs.lemmas.Cmp.{nat_list_cmp_total, tied_itself}
use Rattle.std.proofs.lemmas.Grind.{common_steps}
use Rattle.std.proofs.lemmas.List.{take_all, length-drop}
use Rattle.std.proofs.lemmas.List.Splits.{length-slice_split, slice_split_none, slice_split_first, slice_split_at, slice_split-cons_yes}
use Rattle.std.proofs.lemmas.List.Sums.{fails_before_first}
use Rattle.std.proofs.lemmas.Slice.Eq.{bytes_eq-Decides}
use Rattle.ow_value.specs.Value.{text_cmp}
use Rattle.ow_value.proofs.KeySearch.{equal_texts}
use Rattle.ow_names.specs.declared.full.FullName.{FullName}
use Rattle.ow_names.specs.declared.refusal.NameRefusal.{NameRefusal}
use Rattle.ow_names.specs.FullName.{local_text, full_text, IsFullName}
use Rattle.ow_names.specs.Name.{IsName, first_fault}
use Rattle.ow_names.specs.Slash.{is_slash}
use Rattle.ow_names.specs.Path.{parts, home, or_fault, of_parts, resolved}
use Rattle.ow_names.proofs.NameLaws.{first_fault-name, no_slash}

-- ---- cutting

-- no slash: the text is its only part
pub cuts_none : (s : List ℕ) → position is_slash s ≡ None → parts s ≡ s ∷ []
cuts_none s e =
    let all : length s ≤ position_or_len is_slash s = grind (arith, common_steps) in
    slice_split_none is_slash s (λ k d lt. fails_before_first is_slash s k d (omega arith))

-- the first part ends at the first slash
pub cuts_first : (s : List ℕ) (place : ℕ) → position is_slash s ≡ Some place
    → parts s ≡ take place s ∷ parts (take (length s - (place + 1)) (drop (place + 1) s))
cuts_first s place e =
    let at : position_or_len is_slash s ≡ place = grind (arith, common_steps) in
    let inside : place < length s = grind (arith, common_steps) in
    let rest : take (length s - (place + 1)) (drop (place + 1) s) ≡ drop (place + 1) s = take_all _ _ (omega (arith, length-drop (place + 1) s)) in
    slice_split_first is_slash s 0 (omega arith) ∙ ap (λ n. take n s ∷ parts (drop (n + 1) s)) at ∙ ap (λ r. take place s ∷ parts r) (sym rest)

pub four_cuts : (s r t u v a b c d : List ℕ) → parts s ≡ a ∷ parts r → parts r ≡ b ∷ parts t → parts t ≡ c ∷ parts u → parts u ≡ d ∷ parts v → 4 < length (parts s)
four_cuts s r t u v a b c d e f g h = rw (e, f, g, h, length-slice_split) (omega arith)

-- ---- reading back

abbrev local_parts : (pack : Option (List ℕ)) (name : List ℕ) → List (List ℕ)
local_parts None name = name ∷ []
local_parts (Some p) name = p ∷ name ∷ []

parts-local : (pack : Option (List ℕ)) (name : List ℕ) → IfSome pack IsName → IsName name → parts (local_text pack name) ≡ local_parts pack name
parts-local None name hp hn = slice_split_none is_slash name (no_slash name hn)
parts-local (Some p) name hp hn = slice_split_at is_slash p 47 name (no_slash p hp) refl ∙ ap (λ x. p ∷ x) (slice_split_none is_slash name (no_slash name hn))

parts-full_text : (n : FullName) → IsFullName n → parts (full_text n) ≡ [] ∷ n.namespace ∷ local_parts n.package n.name
parts-full_text n h =
    slice_split-cons_yes is_slash 47 (n.namespace ++ 47 ∷ local_text n.package n.name) refl
    ∙ ap (λ x. [] ∷ x) (slice_split_at is_slash n.namespace 47 (local_text n.package n.name) (no_slash n.namespace h.namespace) refl)
    ∙ ap (λ x. [] ∷ n.namespace ∷ x) (parts-local n.package n.name h.inside h.name)

pub no_fault : (s : List ℕ) (r : Result FullName NameRefusal) → IsName s → or_fault (first_fault s) r ≡ r
no_fault s r h = ap (λ o. or_fault o r) (first_fault-name s h)

of_local : (here ns : List ℕ) (pack : Option (List ℕ)) (name : List ℕ) → IsName ns → IfSome pack IsName → IsName name
    → of_parts here ([] ∷ ns ∷ local_parts pack name) ≡ Ok (record { namespace = home here ns; «package» = pack; name = name })
of_local here ns None name hs hp hn = no_fault ns _ hs ∙ no_fault name _ hn
of_local here ns (Some p) name hs hp hn = no_fault ns _ hs ∙ no_fault p _ hp ∙ no_fault name _ hn

-- the name that is read from a full text, where `_` means the reader's namespace
resolved-full_text : (here : List ℕ) (n : FullName) → IsFullName n → resolved here (full_text n) ≡ Ok (record n { namespace = home here n.namespace })
resolved-full_text here n h = ap (of_parts here) (parts-full_text n h) ∙ of_local here n.namespace n.package n.name h.namespace h.inside h.name

pub reads_back : (here : List ℕ) (n : FullName) → IsFullName n → home here n.namespace ≡ n.namespace → resolved here (full_text n) ≡ Ok n
reads_back here n h e = resolved-full_text here n h ∙ ap (λ (s : List ℕ). Ok (record n { namespace = s })) e

pub reads_back_from : (here : List ℕ) (n : FullName) (s : List ℕ) → IsFullName n → home here n.namespace ≡ n.namespace → s ≡ full_text n → resolved here s ≡ Ok n
reads_back_from here n s h e f = ap (resolved here) f ∙ reads_back here n h e

by_test : (b : Bool) (x y : List ℕ) → bytes_eq x y ≡ b → cond b y x ≡ x
by_test true x y e = sym ((bytes_eq-Decides x y).0 e)
by_test false x y e = refl

stays : (x : List ℕ) → home (codes "_") x ≡ x
stays x = by_test (bytes_eq x (codes "_")) x (codes "_") refl

abbrev ok : FullName → Result FullName NameRefusal
ok n = Ok n

pub full_text-inj : (a b : FullName) → IsFullName a → IsFullName b → full_text a ≡ full_text b → a ≡ b
full_text-inj a b ha hb e =
    let p : resolved (codes "_") (full_text a) ≡ Ok a = reads_back (codes "_") a ha (stays a.namespace) in
    let q : resolved (codes "_") (full_text b) ≡ Ok b = reads_back (codes "_") b hb (stays b.namespace) in
    let r : ok a ≡ ok b = sym p ∙ ap (resolved (codes "_")) e ∙ q in
    cc

pub equal_names : (a b : FullName) (o : Ordering) → IsFullName a → IsFullName b → o ≡ text_cmp (full_text a) (full_text b) → (o ≡ Equal) ↔ (a ≡ b)
equal_names a b o ha hb e = (
  λ q. full_text-inj a b ha hb (equal_texts _ _ (sym e ∙ q)),
  λ q. e ∙ ap (λ n. text_cmp (full_text a) (full_text n)) (sym q) ∙ tied_itself nat_list_cmp_total (full_text a),
)
