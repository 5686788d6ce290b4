-- What a text is as a document, and what is said of the bodies of all entries.
use Rattle.std.proofs.Common.{◌≡◌, ℕ, List, [], ◌∷◌, Bool, true, false, cond, map, Option, Some, None, option_map, not, refl, sym, ap, ◌∙◌}
use Rattle.std.proofs.lemmas.List.Folds.{list_all-map}
use Rattle.std.proofs.lemmas.Str.{IsUtf8-from_is_utf8, is_utf8-from_IsUtf8}
use Rattle.std.specs.List.{find, list_all}
use Rattle.std.specs.Str.{IsUtf8, is_utf8}
use Rattle.toml.specs.Data.{Members}
use Rattle.toml.specs.Parse.{parse_document}
use Rattle.toml.specs.View.{view}
use Rattle.ow_deploy.specs.Entries.{Listing}
use Rattle.ow_deploy.specs.EntryView.{entry_view}
use Rattle.ow_deploy.specs.Manifest.{document, is_body, is_shallow, wrong_body}
use Rattle.ow_deploy.specs.declared.entries.Entry.{Entry}

pub document_read : (s : List ℕ) (m : Members) → IsUtf8 s → parse_document s ≡ Some m → document s ≡ Some m
unfolding document
document_read s m u e = rw (is_utf8-from_IsUtf8 s u) e

refused_by : (s : List ℕ) (b : Bool) → is_utf8 s ≡ b → (IsUtf8 s → parse_document s ≡ None) → cond b (parse_document s) None ≡ None
refused_by s true e h = h (IsUtf8-from_is_utf8 s e)
refused_by s false e h = refl

pub document_refused : (s : List ℕ) → (IsUtf8 s → parse_document s ≡ None) → document s ≡ None
unfolding document
document_refused s h = refused_by s (is_utf8 s) refl h

found_or : {X Y : Type 0} (f : X → Y) (b : Bool) (x : X) (o : Option X) (r : Option Y) → r ≡ option_map f o → cond b (Some (f x)) r ≡ option_map f (cond b (Some x) o)
found_or f true x o r e = refl
found_or f false x o r e = e

pub find-map : {X Y : Type 0} (p : Y → Bool) (f : X → Y) (xs : List X) → find p (map f xs) ≡ option_map f (find (λ x. p (f x)) xs)
find-map p f [] = refl
find-map p f (x ∷ xs) = found_or f (p (f x)) x (find (λ y. p (f y)) xs) (find p (map f xs)) (find-map p f xs)

pub all_viewed : (es : List Entry) → list_all is_shallow (map entry_view es) ≡ list_all (λ e. is_shallow (entry_view e)) es
all_viewed es = list_all-map is_shallow entry_view es

-- the path of the first entry whose body is none
pub wrong_path : (es : List Entry) (o : Option Entry) → o ≡ find (λ e. not (is_body (view e.body.now))) es → option_map (λ e. e.path.now) o ≡ wrong_body (map entry_view es)
wrong_path es None h = sym (ap (option_map (λ (l : Listing). l.path)) (find-map (λ (l : Listing). not (is_body l.body)) entry_view es ∙ ap (option_map entry_view) (sym h)))
wrong_path es (Some e) h = sym (ap (option_map (λ (l : Listing). l.path)) (find-map (λ (l : Listing). not (is_body l.body)) entry_view es ∙ ap (option_map entry_view) (sym h)))
