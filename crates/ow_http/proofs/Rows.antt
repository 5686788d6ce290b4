-- Rows put together: a word, a part, a rest, and what follows each.
use Rattle.std.proofs.Common.{◌≡◌, ℕ, ◌-◌, List, [], ◌∷◌, ◌++◌, Option, Some, None, Bool, true, false, cond, refl, sym, ap, ◌∙◌, arith, ◌==◌, ◌&&◌, not, nat_lt}
use Rattle.std.proofs.lemmas.Bool.Decides.{nat_tests}
use Rattle.std.proofs.lemmas.List.{append-nil}
use Rattle.std.specs.List.{onto_first}
use Rattle.std.proofs.lemmas.Bool.{and_parts}
use Rattle.matchit.specs.Rows.{RowsOf}
use Rattle.matchit.specs.Seek.{step, or_else, seek, first, param_step}
use Rattle.ow_names.specs.Path.{parts as segments}
use Rattle.ow_http.proofs.Walk.{under, under-nil, own-append, own-under, step-append, step-hit, param_step-empty, seek-empty}
use Rattle.ow_http.proofs.BySegments.{Reads, Ends, AreEnds, Parts, IsWord, on_word, first-word, seek-ends}
use Rattle.ow_http.proofs.ByPart.{on_part, first-part}

-- the word's bytes, none of them a slash
abbrev pub is_word : List ℕ → Bool
is_word [] = true
is_word (x ∷ w) = (nat_lt x 256 && not (x == 47)) && is_word w

word-is : (w : List ℕ) → is_word w ≡ true → IsWord w
word-is [] e = tt
word-is (x ∷ w) e =
    let h = (and_parts (nat_lt x 256 && not (x == 47)) (is_word w) e).0 in
    let low = (and_parts (nat_lt x 256) (not (x == 47)) h).0 in
    let no = (and_parts (nat_lt x 256) (not (x == 47)) h).1 in
    (grind (arith, nat_tests, low), (λ q. grind (arith, nat_tests, no, q)), word-is w (and_parts (nat_lt x 256 && not (x == 47)) (is_word w) e).1)

abbrev is_nil : {A : Type 0} → List A → Bool
is_nil [] = true
is_nil (x ∷ xs) = false

nil-is : {A : Type 0} (xs : List A) → is_nil xs ≡ true → xs ≡ []
nil-is [] e = refl
nil-is (x ∷ xs) e = cc

-- the rows beside a word, tested along it
abbrev pub is_apart : {K : Type 0} → List ℕ → RowsOf K → Bool
is_apart [] r = is_nil r
is_apart (x ∷ w) r = is_nil (step 256 r) && (is_nil (step 257 r) && is_apart w (step x r))

apart-is : {K : Type 0} (w : List ℕ) (r : RowsOf K) → is_apart w r ≡ true → Parts w r
apart-is [] r e = nil-is r e
apart-is (x ∷ w) r e =
    let f = (and_parts _ _ e).1 in
    (nil-is _ (and_parts _ _ e).0, nil-is _ (and_parts _ _ f).0, apart-is w (step x r) (and_parts _ _ f).1)

-- a route that ends here
abbrev pub ends : {K : Type 0} → K → RowsOf K
ends k = ([], k) ∷ []

abbrev pub here : {K : Type 0} → K → List (List ℕ) → Option K
here k [] = Some k
here k (s ∷ ss) = None

pub segments-full : (path : List ℕ) → (s : List ℕ) × (ss : List (List ℕ)) × (segments path ≡ s ∷ ss)
segments-full [] = ([], [], refl)
segments-full (b ∷ p) = by (b == 47) refl
  where
    full : (ss : List (List ℕ)) → (s : List ℕ) × (more : List (List ℕ)) × (onto_first b ss ≡ s ∷ more)
    full [] = (b ∷ [], [], refl)
    full (s ∷ ss) = (b ∷ s, ss, refl)

    by : (v : Bool) → (b == 47) ≡ v → (s : List ℕ) × (ss : List (List ℕ)) × (cond v ([] ∷ segments p) (onto_first b (segments p)) ≡ s ∷ ss)
    by true e = ([], segments p, refl)
    by false e = full (segments p)

pub Reads-as : {K : Type 0} (r : RowsOf K) (f g : List (List ℕ) → Option K) → Reads r f → ((s : List ℕ) (ss : List (List ℕ)) → f (s ∷ ss) ≡ g (s ∷ ss)) → Reads r g
Reads-as r f g reads same path bytes =
    let full = segments-full path in
    reads path bytes ∙ ap f full.2 ∙ same full.0 full.1 ∙ sym (ap g full.2)

pub Reads-none : {K : Type 0} → Reads {K = K} [] (λ ss. None)
Reads-none path bytes = seek-empty 0 path

pub Reads-word : {K : Type 0} (w : List ℕ) (t r : RowsOf K) (f g : List (List ℕ) → Option K) → is_word w ≡ true → is_apart w r ≡ true
    → Ends t f → Reads r g → Reads (under w t ++ r) (λ ss. on_word w f (g ss) ss)
Reads-word w t r f g is apart ends reads path bytes =
    first-word w t r f ends (apart-is w r apart) (word-is w is) path bytes ∙ ap (λ z. on_word w f z (segments path)) (reads path bytes)

pub Reads-part : {K : Type 0} (t : RowsOf K) (f : List (List ℕ) → Option K) → Ends t f → Reads (under (256 ∷ []) t) (on_part f)
Reads-part t f ends path bytes = first-part t f ends path bytes

ends-append : {K : Type 0} (t r : RowsOf K) → AreEnds t → AreEnds r → AreEnds (t ++ r)
ends-append [] r h g = g
ends-append (([], k) ∷ t) r h g = ends-append t r h g
ends-append ((x ∷ w, k) ∷ t) r h g = (h.0, ends-append t r h.1 g)

ends-slash : {K : Type 0} (r : RowsOf K) → AreEnds (under (47 ∷ []) r)
ends-slash [] = tt
ends-slash ((t, k) ∷ r) = (refl, ends-slash r)

pub Ends-more : {K : Type 0} (r : RowsOf K) (f : List (List ℕ) → Option K) → Reads r f → f [] ≡ None → Ends (under (47 ∷ []) r) f
unfolding seek
Ends-more r f reads e = record {
  at_end = own-under 47 [] r ∙ sym e;
  at_slash = λ path bytes. seek-ends (under (47 ∷ []) r) (ends-slash r) 47 path
      ∙ ap (λ z. seek 0 z path) (step-hit 47 [] r ∙ under-nil r) ∙ reads path bytes;
  shape = ends-slash r;
}

pub Ends-both : {K : Type 0} (r : RowsOf K) (k : K) (f : List (List ℕ) → Option K) → Reads r f → f [] ≡ Some k → Ends (under (47 ∷ []) r ++ ends k) f
unfolding seek
Ends-both r k f reads e =
    let shape : AreEnds (under (47 ∷ []) r ++ ends k) = ends-append (under (47 ∷ []) r) (ends k) (ends-slash r) tt in
    record {
      at_end = own-append (under (47 ∷ []) r) (ends k) ∙ ap (λ z. or_else z (Some k)) (own-under 47 [] r) ∙ sym e;
      at_slash = λ path bytes. seek-ends (under (47 ∷ []) r ++ ends k) shape 47 path
          ∙ ap (λ z. seek 0 z path) (step-append 47 (under (47 ∷ []) r) (ends k) ∙ append-nil _ ∙ step-hit 47 [] r ∙ under-nil r) ∙ reads path bytes;
      shape = shape;
    }

pub Ends-here : {K : Type 0} (k : K) → Ends (ends k) (here k)
unfolding seek
Ends-here k = record {
  at_end = refl;
  at_slash = λ path bytes. let full = segments-full path in
      seek-ends (ends k) tt 47 path ∙ seek-empty 0 path ∙ sym (ap (here k) full.2);
  shape = tt;
}

-- a rest that isn't empty
abbrev pub on_rest : {K : Type 0} → K → List (List ℕ) → Option K
on_rest k [] = None
on_rest k ([] ∷ []) = None
on_rest k ([] ∷ s ∷ ss) = Some k
on_rest k ((x ∷ s) ∷ ss) = Some k

pub Reads-rest : {K : Type 0} (k : K) → Reads ((257 ∷ [], k) ∷ []) (on_rest k)
unfolding seek
Reads-rest k [] bytes = refl
Reads-rest {K} k (b ∷ p) bytes = found ∙ sym (by (b == 47) refl)
  where
    miss : (257 == b) ≡ false
    miss = grind (arith, nat_tests, bytes.0)

    found : first ((257 ∷ [], k) ∷ []) (b ∷ p) ≡ Some k
    found = rw miss (simp (seek-empty {K = K} 0 p, param_step-empty {K = K} (b ∷ p), seek-empty {K = K} ((param_step {K = K} [] (b ∷ p)).0 - 1) p) refl)

    onto : (ss : List (List ℕ)) → on_rest k (onto_first b ss) ≡ Some k
    onto [] = refl
    onto (s ∷ ss) = refl

    by : (v : Bool) → (b == 47) ≡ v → on_rest k (cond v ([] ∷ segments p) (onto_first b (segments p))) ≡ Some k
    by true e = let full = segments-full p in ap (λ z. on_rest k ([] ∷ z)) full.2
    by false e = onto (segments p)
