-- What a walk over rows finds, as a function of the path's segments.
use Rattle.std.proofs.Common.{◌≡◌, ◌≢◌, ℕ, ◌<◌, List, [], ◌∷◌, ◌++◌, Option, None, Bool, true, false, cond, refl, sym, ap, ◌∙◌, arith, ◌==◌}
use Rattle.std.proofs.lemmas.Bool.Decides.{nat_tests}
use Rattle.std.proofs.lemmas.List.{append-nil}
use Rattle.std.specs.List.{onto_first}
use Rattle.std.specs.Str.{bytes_eq}
use Rattle.matchit.specs.Rows.{RowsOf, param_token, catch_all_token}
use Rattle.matchit.specs.Seek.{own, step, or_else, seek, first}
use Rattle.ow_names.specs.Path.{parts as segments}
use Rattle.ow_http.proofs.Walk.{under, under-nil, own-append, own-under, step-append, step-hit, step-miss, seek-empty, seek-byte}

abbrev pub AreBytes : List ℕ → Type 0
AreBytes [] = Unit {0}
AreBytes (b ∷ p) = (b < 256) × AreBytes p

-- what the rows find in a path is this function of its segments
abbrev pub Reads : {K : Type 0} → RowsOf K → (List (List ℕ) → Option K) → Type 0
Reads rows f = (path : List ℕ) → AreBytes path → first rows path ≡ f (segments path)

-- each row ends here or goes on with a slash
abbrev pub AreEnds : {K : Type 0} → RowsOf K → Type 0
AreEnds [] = Unit {0}
AreEnds (([], k) ∷ r) = AreEnds r
AreEnds ((x ∷ t, k) ∷ r) = (x ≡ 47) × AreEnds r

-- what the rows find after a segment is this function of the segments that follow
pub record Ends {K : Type 0} (rows : RowsOf K) (f : List (List ℕ) → Option K) : Type 0 where
  pub at_end : own rows ≡ f []
  pub at_slash : (path : List ℕ) → AreBytes path → first rows (47 ∷ path) ≡ f (segments path)
  pub shape : AreEnds rows

abbrev pub head_of : List (List ℕ) → List ℕ
head_of [] = []
head_of (s ∷ ss) = s

abbrev pub tail_of : List (List ℕ) → List (List ℕ)
tail_of [] = []
tail_of (s ∷ ss) = ss

-- what is found after a word, or another answer
abbrev pub on_word : {K : Type 0} → List ℕ → (List (List ℕ) → Option K) → Option K → List (List ℕ) → Option K
on_word w f other ss = cond (bytes_eq (head_of ss) w) (f (tail_of ss)) other

-- a word has no slash
abbrev pub IsWord : List ℕ → Type 0
IsWord [] = Unit {0}
IsWord (x ∷ w) = (x < 256) × (x ≢ 47) × IsWord w

-- beside the word there is neither a parameter nor a rest, and after it there is nothing
abbrev pub Parts : {K : Type 0} → List ℕ → RowsOf K → Type 0
Parts [] r = r ≡ []
Parts (x ∷ w) r = (step param_token r ≡ []) × (step catch_all_token r ≡ []) × Parts w (step x r)

on_word-slash : {K : Type 0} (w : List ℕ) (x : ℕ) (f : List (List ℕ) → Option K) (o : Option K) (ss : List (List ℕ)) → on_word (x ∷ w) f o ([] ∷ ss) ≡ o
on_word-slash w x f o ss = refl

on_word-nil : {K : Type 0} (f : List (List ℕ) → Option K) (o : Option K) (b : ℕ) (ss : List (List ℕ)) → on_word [] f o (onto_first b ss) ≡ o
on_word-nil f o b [] = refl
on_word-nil f o b (s ∷ ss) = refl

on_word-hit : {K : Type 0} (x : ℕ) (w : List ℕ) (f : List (List ℕ) → Option K) (o : Option K) (ss : List (List ℕ))
    → on_word (x ∷ w) f o (onto_first x ss) ≡ on_word w f o ss
on_word-hit x w f o [] = let e : (x == x) ≡ true = grind (arith, nat_tests) in rw e refl
on_word-hit x w f o (s ∷ ss) = let e : (x == x) ≡ true = grind (arith, nat_tests) in rw e refl

on_word-miss : {K : Type 0} (x b : ℕ) (w : List ℕ) (f : List (List ℕ) → Option K) (o : Option K) (ss : List (List ℕ))
    → b ≢ x → on_word (x ∷ w) f o (onto_first b ss) ≡ o
on_word-miss x b w f o [] n = let e : (b == x) ≡ false = grind (arith, nat_tests) in rw e refl
on_word-miss x b w f o (s ∷ ss) n = let e : (b == x) ≡ false = grind (arith, nat_tests) in rw e refl

pub segments-byte : (b : ℕ) (path : List ℕ) → b ≢ 47 → segments (b ∷ path) ≡ onto_first b (segments path)
segments-byte b path n = let e : (b == 47) ≡ false = grind (arith, nat_tests) in rw e refl

-- two numbers are the same or not
pub data Dec (a b : ℕ) : Type 0 where
  yes : a ≡ b → Dec a b
  no : a ≢ b → Dec a b

pub decide : (a b : ℕ) → Dec a b
decide a b = by (a == b) refl
  where
    by : (v : Bool) → (a == b) ≡ v → Dec a b
    by true e = yes (grind (arith, nat_tests))
    by false e = no (λ q. grind (arith, nat_tests))

pub step-ends : {K : Type 0} (b : ℕ) (t : RowsOf K) → AreEnds t → b ≢ 47 → step b t ≡ []
step-ends b [] h n = refl
step-ends b (([], k) ∷ r) h n = step-ends b r h n
step-ends b ((x ∷ t, k) ∷ r) h n =
    let e : (x == b) ≡ false = grind (arith, nat_tests, h.0) in
    rw e (step-ends b r h.1 n)

pub seek-ends : {K : Type 0} (t : RowsOf K) → AreEnds t → (b : ℕ) (p : List ℕ) → seek 0 t (b ∷ p) ≡ seek 0 (step b t) p
seek-ends t h b p = seek-byte t b p (step-ends param_token t h (λ q. omega arith)) (step-ends catch_all_token t h (λ q. omega arith))

elsewhere : {K : Type 0} (t : RowsOf K) → AreEnds t → (b : ℕ) (p : List ℕ) → b ≢ 47 → seek 0 t (b ∷ p) ≡ None
elsewhere t h b p n = seek-ends t h b p ∙ ap (λ z. seek 0 z p) (step-ends b t h n) ∙ seek-empty 0 p

word-nil : {K : Type 0} (t : RowsOf K) (f : List (List ℕ) → Option K) → Ends t f → (o : Option K) → o ≡ None
    → (path : List ℕ) → AreBytes path → first t path ≡ on_word [] f o (segments path)
unfolding seek
word-nil t f ends o none [] bytes = ends.at_end
word-nil t f ends o none (b ∷ p) bytes = elim (decide b 47) [
  | yes e ↦ rw e (ends.at_slash p bytes.1)
  | no n ↦ elsewhere t ends.shape b p n ∙ sym none ∙ sym (on_word-nil f o b (segments p)) ∙ sym (ap (on_word [] f o) (segments-byte b p n))
]

other_word : {K : Type 0} (x b : ℕ) (w : List ℕ) (f : List (List ℕ) → Option K) (o : Option K) (p : List ℕ)
    → b ≢ x → on_word (x ∷ w) f o (segments (b ∷ p)) ≡ o
other_word x b w f o p n = elim (decide b 47) [
  | yes e ↦ rw e (on_word-slash w x f o (segments p))
  | no m ↦ ap (on_word (x ∷ w) f o) (segments-byte b p m) ∙ on_word-miss x b w f o (segments p) n
]

same_word : {K : Type 0} (x : ℕ) (w : List ℕ) (f : List (List ℕ) → Option K) (o : Option K) (p : List ℕ)
    → x ≢ 47 → on_word (x ∷ w) f o (segments (x ∷ p)) ≡ on_word w f o (segments p)
same_word x w f o p n = ap (on_word (x ∷ w) f o) (segments-byte x p n) ∙ on_word-hit x w f o (segments p)

step-beside : {K : Type 0} (b x : ℕ) (w : List ℕ) (t r : RowsOf K) → x ≢ b → step b (under (x ∷ w) t ++ r) ≡ step b r
step-beside b x w t r n = step-append b (under (x ∷ w) t) r ∙ ap (λ z. z ++ step b r) (step-miss b x w t n)

step-along : {K : Type 0} (x : ℕ) (w : List ℕ) (t r : RowsOf K) → step x (under (x ∷ w) t ++ r) ≡ under w t ++ step x r
step-along x w t r = step-append x (under (x ∷ w) t) r ∙ ap (λ z. z ++ step x r) (step-hit x w t)

seek-beside : {K : Type 0} (x : ℕ) (w : List ℕ) (t r : RowsOf K) (b : ℕ) (p : List ℕ) → x < 256 → step param_token r ≡ [] → step catch_all_token r ≡ []
    → seek 0 (under (x ∷ w) t ++ r) (b ∷ p) ≡ seek 0 (step b (under (x ∷ w) t ++ r)) p
seek-beside x w t r b p h e f =
    let n1 : x ≢ param_token = λ q. omega arith in
    let n2 : x ≢ catch_all_token = λ q. omega arith in
    seek-byte (under (x ∷ w) t ++ r) b p (step-beside param_token x w t r n1 ∙ e) (step-beside catch_all_token x w t r n2 ∙ f)

-- a word's rows, with the other rows beside them
pub first-word : {K : Type 0} (w : List ℕ) (t r : RowsOf K) (f : List (List ℕ) → Option K) → Ends t f → Parts w r → IsWord w
    → (path : List ℕ) → AreBytes path → first (under w t ++ r) path ≡ on_word w f (first r path) (segments path)
unfolding seek
first-word [] t r f ends e h path bytes =
    ap (λ z. first (under [] t ++ z) path) e ∙ ap (λ z. first z path) (append-nil (under [] t) ∙ under-nil t)
    ∙ word-nil t f ends (first r path) (ap (λ z. first z path) e ∙ seek-empty 0 path) path bytes
first-word (x ∷ w) t r f ends e h [] bytes =
    own-append (under (x ∷ w) t) r ∙ ap (λ z. or_else z (own r)) (own-under x w t)
first-word (x ∷ w) t r f ends e h (y ∷ p) bytes = elim (decide y x) [
  | yes q ↦ rw q (seek-beside x w t r x p h.0 e.0 e.1 ∙ ap (λ z. seek 0 z p) (step-along x w t r)
      ∙ first-word w t (step x r) f ends e.2 h.2 p bytes.1
      ∙ ap (λ z. on_word w f z (segments p)) (sym (seek-byte r x p e.0 e.1))
      ∙ sym (same_word x w f (first r (x ∷ p)) p h.1))
  | no n ↦ seek-beside x w t r y p h.0 e.0 e.1 ∙ ap (λ z. seek 0 z p) (step-beside y x w t r (λ q. n (sym q)))
      ∙ sym (seek-byte r y p e.0 e.1) ∙ sym (other_word x y w f (first r (y ∷ p)) p n)
]
