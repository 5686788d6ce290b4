-- What a walk over rows finds after a parameter that takes a whole segment.
use Rattle.std.proofs.Common.{◌≡◌, ◌≢◌, ℕ, zero, suc, ◌+◌, ◌-◌, ◌<◌, List, [], ◌∷◌, ◌++◌, length, drop, Option, None, Bool, true, false, cond, refl, sym, ap, subst, ◌∙◌, arith, ltb, ◌==◌, nat_eq, ◌&&◌}
use Rattle.std.proofs.lemmas.Bool.Decides.{nat_tests}
use Rattle.std.proofs.lemmas.List.{length-append}
use Rattle.std.proofs.Math.Seq.{drop-append_seam, drop-length}
use Rattle.std.specs.List.{onto_first}
use Rattle.std.specs.Cmp.Lexicographic.{pointwise}
use Rattle.matchit.specs.Rows.{RowsOf, param_token, catch_all_token}
use Rattle.matchit.specs.Seek.{step, seek, first, param_step, segment, has_slash, cuts, longest_from, with_suffix}
use Rattle.ow_names.specs.Path.{parts as segments}
use Rattle.ow_http.proofs.Walk.{under, under-nil, own-under, step-hit, step-miss, or_else-none, seek-empty, seek-drop}
use Rattle.ow_http.proofs.BySegments.{AreBytes, AreEnds, Ends, decide, yes, no, head_of, tail_of, seek-ends, segments-byte}

-- some row goes on
abbrev goes_on : {K : Type 0} → RowsOf K → Bool
goes_on [] = false
goes_on (([], k) ∷ r) = goes_on r
goes_on ((x ∷ t, k) ∷ r) = true

abbrev pub slash : List ℕ
slash = 47 ∷ []

longest-kept : {K : Type 0} (seg : List ℕ) (t : RowsOf K) → AreEnds t → longest_from seg slash t ≡ slash
longest-kept seg [] h = refl
longest-kept seg (([], k) ∷ r) h = longest-kept seg r h
longest-kept seg ((x ∷ t, k) ∷ r) h = rw h.0 (longest-kept seg r h.1)

longest-none : {K : Type 0} (seg : List ℕ) (t : RowsOf K) → AreEnds t → cuts seg slash ≡ false → longest_from seg [] t ≡ []
longest-none seg [] h e = refl
longest-none seg (([], k) ∷ r) h e = longest-none seg r h e
longest-none seg ((x ∷ t, k) ∷ r) h e = rw h.0 (rw e (longest-none seg r h.1 e))

longest-some : {K : Type 0} (seg : List ℕ) (t : RowsOf K) → AreEnds t → cuts seg slash ≡ true → longest_from seg [] t ≡ cond (goes_on t) slash []
longest-some seg [] h e = refl
longest-some seg (([], k) ∷ r) h e = longest-some seg r h e
longest-some seg ((x ∷ t, k) ∷ r) h e = rw h.0 (rw e (longest-kept seg r h.1))

-- the rows that go on are found by their slash
step-suffix : {K : Type 0} (t : RowsOf K) → AreEnds t → step 47 (with_suffix slash t) ≡ step 47 t
step-suffix [] h = refl
step-suffix (([], k) ∷ r) h = step-suffix r h
step-suffix ((x ∷ t, k) ∷ r) h = rw h.0 (ap (λ z. (t, k) ∷ z) (step-suffix r h.1))

suffix-ends : {K : Type 0} (t : RowsOf K) → AreEnds t → AreEnds (with_suffix slash t)
suffix-ends [] h = tt
suffix-ends (([], k) ∷ r) h = suffix-ends r h
suffix-ends ((x ∷ t, k) ∷ r) h = let g = suffix-ends r h.1 in subst (λ y. AreEnds (with_suffix slash ((y ∷ t, k) ∷ r))) (sym h.0) (refl, g)

step-none : {K : Type 0} (t : RowsOf K) → goes_on t ≡ false → step 47 t ≡ []
step-none [] e = refl
step-none (([], k) ∷ r) e = step-none r e
step-none ((x ∷ t, k) ∷ r) e = cc

-- no byte is a slash
abbrev IsFree : List ℕ → Type 0
IsFree [] = Unit {0}
IsFree (x ∷ s) = (x ≢ 47) × IsFree s

data Cut (path : List ℕ) : Type 0 where
  whole : IsFree path → Cut path
  cut : (s q : List ℕ) → IsFree s → path ≡ s ++ 47 ∷ q → Cut path

cut_of : (path : List ℕ) → Cut path
cut_of [] = whole tt
cut_of (b ∷ p) = elim (decide b 47) [
  | yes e ↦ cut [] p tt (ap (λ z. z ∷ p) e)
  | no n ↦ elim (cut_of p) [
    | whole f ↦ whole (n, f)
    | cut s q f e ↦ cut (b ∷ s) q (n, f) (ap (λ z. b ∷ z) e)
  ]
]

not-slash : (x : ℕ) → x ≢ 47 → (x == 47) ≡ false
not-slash x n = grind (arith, nat_tests)

segment-free : (s : List ℕ) → IsFree s → segment s ≡ s
segment-free [] h = refl
segment-free (x ∷ s) h = rw (not-slash x h.0) (ap (λ z. x ∷ z) (segment-free s h.1))

segment-cut : (s q : List ℕ) → IsFree s → segment (s ++ 47 ∷ q) ≡ s ++ slash
segment-cut [] q h = refl
segment-cut (x ∷ s) q h = rw (not-slash x h.0) (ap (λ z. x ∷ z) (segment-cut s q h.1))

has_slash-free : (s : List ℕ) → IsFree s → has_slash s ≡ false
has_slash-free [] h = refl
has_slash-free (x ∷ s) h = rw (not-slash x h.0) (has_slash-free s h.1)

has_slash-cut : (s q : List ℕ) → IsFree s → has_slash (s ++ 47 ∷ q) ≡ true
has_slash-cut [] q h = refl
has_slash-cut (x ∷ s) q h = rw (not-slash x h.0) (has_slash-cut s q h.1)

segments-free : (s : List ℕ) → IsFree s → segments s ≡ s ∷ []
segments-free [] h = refl
segments-free (x ∷ s) h = segments-byte x s h.0 ∙ ap (onto_first x) (segments-free s h.1)

segments-cut : (s q : List ℕ) → IsFree s → segments (s ++ 47 ∷ q) ≡ s ∷ segments q
segments-cut [] q h = refl
segments-cut (x ∷ s) q h = segments-byte x (s ++ 47 ∷ q) h.0 ∙ ap (onto_first x) (segments-cut s q h.1)

drop-free : (n : ℕ) (s : List ℕ) → IsFree s → IsFree (drop n s)
drop-free zero s h = h
drop-free (suc n) [] h = tt
drop-free (suc n) (x ∷ s) h = drop-free n s h.1

ends-free : (s : List ℕ) → IsFree s → pointwise nat_eq slash s ≡ false
ends-free [] h = refl
ends-free (x ∷ s) h = let e : nat_eq 47 x ≡ false = grind (arith, nat_tests, h.0) in rw e refl

cuts-free : (s : List ℕ) → IsFree s → cuts s slash ≡ false
cuts-free s h = rw (ends-free (drop (length s - 1) s) (drop-free (length s - 1) s h)) (by (ltb 1 (length s)))
  where
    by : (b : Bool) → (b && false) ≡ false
    by true = refl
    by false = refl

cuts-last : (seg : List ℕ) → ltb 1 (length seg) ≡ true → drop (length seg - 1) seg ≡ slash → cuts seg slash ≡ true
cuts-last seg long last = rw (long, last) refl

cuts-cut : (b : ℕ) (s : List ℕ) → cuts (b ∷ (s ++ slash)) slash ≡ true
cuts-cut b s =
    let n : length (b ∷ (s ++ slash)) ≡ length (b ∷ s) + 1 = length-append (b ∷ s) slash in
    let m : length (b ∷ (s ++ slash)) - 1 ≡ length (b ∷ s) = omega arith in
    let long : ltb 1 (length (b ∷ (s ++ slash))) ≡ true = grind (arith, nat_tests, n) in
    cuts-last (b ∷ (s ++ slash)) long (ap (λ z. drop z (b ∷ (s ++ slash))) m ∙ drop-append_seam (b ∷ s) slash)

step-free : {K : Type 0} (t : RowsOf K) → AreEnds t → (s : List ℕ) → IsFree s → param_step t s ≡ (length s, t)
unfolding param_step
step-free t h s f = rw (segment-free s f, longest-none s t h (cuts-free s f), has_slash-free s f) refl

step-slash : {K : Type 0} (t : RowsOf K) → AreEnds t → (q : List ℕ) → param_step t (47 ∷ q) ≡ (0, [])
unfolding param_step
step-slash t h q = rw (longest-none slash t h refl) refl

step-cut : {K : Type 0} (t : RowsOf K) → AreEnds t → (b : ℕ) (s q : List ℕ) → IsFree (b ∷ s)
    → param_step t (b ∷ (s ++ 47 ∷ q)) ≡ cond (goes_on t) (length (b ∷ s), with_suffix slash t) (0, [])
unfolding param_step
step-cut {K} t h b s q f =
    let n : length (b ∷ (s ++ slash)) ≡ length (b ∷ s) + 1 = length-append (b ∷ s) slash in
    let m : length (b ∷ (s ++ slash)) - 1 ≡ length (b ∷ s) = omega arith in
    rw (segment-cut (b ∷ s) q f, longest-some (b ∷ (s ++ slash)) t h (cuts-cut b s), has_slash-cut (b ∷ s) q f)
    (elim (goes_on t) as (λ v. cond {A = ℕ × RowsOf K} (ltb 0 (length (cond {A = List ℕ} v slash []))) (length (b ∷ (s ++ slash)) - length (cond {A = List ℕ} v slash []), with_suffix (cond {A = List ℕ} v slash []) t) (cond {A = ℕ × RowsOf K} true (0, []) (length (b ∷ (s ++ 47 ∷ q)), t)) ≡ cond {A = ℕ × RowsOf K} v (length (b ∷ s), with_suffix slash t) (0, [])) [
      | true ↦ ap (λ z. (z, with_suffix slash t)) m
      | false ↦ refl
    ])

seek-param : {K : Type 0} (t : RowsOf K) (b : ℕ) (p : List ℕ) → b < 256
    → seek 0 (under (256 ∷ []) t) (b ∷ p) ≡ seek ((param_step t (b ∷ p)).0 - 1) (param_step t (b ∷ p)).1 p
unfolding seek
seek-param {K} t b p h =
    let n : param_token ≢ b = λ q. omega arith in
    let m : param_token ≢ catch_all_token = λ q. omega arith in
    rw (step-miss b 256 [] t n, step-hit 256 [] t, under-nil t, step-miss 257 256 [] t m, seek-empty {K = K} 0 p) (or_else-none _)

-- what is found after a part that isn't empty
abbrev pub on_part : {K : Type 0} → (List (List ℕ) → Option K) → List (List ℕ) → Option K
on_part f ss = cond (ltb 0 (length (head_of ss))) (f (tail_of ss)) None

bytes-after : (s q : List ℕ) → AreBytes (s ++ 47 ∷ q) → AreBytes q
bytes-after [] q h = h.1
bytes-after (x ∷ s) q h = bytes-after s q h.1

part-free : {K : Type 0} (t : RowsOf K) (f : List (List ℕ) → Option K) → Ends t f → (s : List ℕ) → IsFree s → AreBytes s
    → first (under (256 ∷ []) t) s ≡ on_part f (segments s)
unfolding seek
part-free t f ends [] h bytes = own-under 256 [] t
part-free t f ends (b ∷ p) h bytes =
    let one : ltb 0 (length (b ∷ p)) ≡ true = grind (arith, nat_tests) in
    let m : length (b ∷ p) - 1 ≡ length p = omega arith in
    seek-param t b p bytes.0 ∙ ap (λ z. seek (z.0 - 1) z.1 p) (step-free t ends.shape (b ∷ p) h)
    ∙ ap (λ z. seek z t p) m ∙ seek-drop (length p) t p ∙ ap (λ z. seek 0 t z) (drop-length p) ∙ ends.at_end
    ∙ sym (ap (on_part f) (segments-free (b ∷ p) h) ∙ rw one refl)

part-cut : {K : Type 0} (t : RowsOf K) (f : List (List ℕ) → Option K) → Ends t f → (s q : List ℕ) → IsFree s → AreBytes (s ++ 47 ∷ q)
    → first (under (256 ∷ []) t) (s ++ 47 ∷ q) ≡ on_part f (segments (s ++ 47 ∷ q))
part-cut t f ends [] q h bytes =
    seek-param t 47 q bytes.0 ∙ ap (λ z. seek (z.0 - 1) z.1 q) (step-slash t ends.shape q) ∙ seek-empty 0 q
part-cut {K} t f ends (b ∷ s) q h bytes =
    let one : ltb 0 (length (b ∷ s)) ≡ true = grind (arith, nat_tests) in
    let behind : seek 0 t (47 ∷ q) ≡ f (segments q) = ends.at_slash q (bytes-after (b ∷ s) q bytes) in
    let on : goes_on t ≡ true → seek (length (b ∷ s) - 1) (with_suffix slash t) (s ++ 47 ∷ q) ≡ f (segments q) = λ (e : goes_on t ≡ true).
    ap (λ z. seek z (with_suffix slash t) (s ++ 47 ∷ q)) (omega arith) ∙ seek-drop (length s) (with_suffix slash t) (s ++ 47 ∷ q)
    ∙ ap (λ z. seek 0 (with_suffix slash t) z) (drop-append_seam s (47 ∷ q))
    ∙ seek-ends (with_suffix slash t) (suffix-ends t ends.shape) 47 q ∙ ap (λ z. seek 0 z q) (step-suffix t ends.shape)
    ∙ sym (seek-ends t ends.shape 47 q) ∙ behind in
    let off : goes_on t ≡ false → seek {K = K} 0 [] (s ++ 47 ∷ q) ≡ f (segments q) = λ (e : goes_on t ≡ false).
    seek-empty 0 (s ++ 47 ∷ q) ∙ sym (seek-empty 0 q) ∙ sym (ap (λ z. seek 0 z q) (step-none t e)) ∙ sym (seek-ends t ends.shape 47 q) ∙ behind in
    seek-param t b (s ++ 47 ∷ q) bytes.0 ∙ ap (λ z. seek (z.0 - 1) z.1 (s ++ 47 ∷ q)) (step-cut t ends.shape b s q h)
    ∙ by (goes_on t) refl on off
    ∙ sym (ap (on_part f) (segments-cut (b ∷ s) q h) ∙ rw one refl)
  where
    by : (v : Bool) → goes_on t ≡ v
        → (goes_on t ≡ true → seek (length (b ∷ s) - 1) (with_suffix slash t) (s ++ 47 ∷ q) ≡ f (segments q))
        → (goes_on t ≡ false → seek {K = K} 0 [] (s ++ 47 ∷ q) ≡ f (segments q))
        → seek ((cond {A = ℕ × RowsOf K} v (length (b ∷ s), with_suffix slash t) (0, [])).0 - 1) ((cond {A = ℕ × RowsOf K} v (length (b ∷ s), with_suffix slash t) (0, [])).1) (s ++ 47 ∷ q) ≡ f (segments q)
    by true e on off = on e
    by false e on off = off e

-- a part, and what follows it
pub first-part : {K : Type 0} (t : RowsOf K) (f : List (List ℕ) → Option K) → Ends t f → (path : List ℕ) → AreBytes path
    → first (under (256 ∷ []) t) path ≡ on_part f (segments path)
first-part t f ends path bytes = elim (cut_of path) [
  | whole h ↦ part-free t f ends path h bytes
  | cut s q h e ↦ subst (λ z. first (under (256 ∷ []) t) z ≡ on_part f (segments z)) (sym e) (part-cut t f ends s q h (subst AreBytes e bytes))
]
