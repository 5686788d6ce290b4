-- What removals free.
use Rattle.std.proofs.Common.{◌≡◌, ◌==◌, ◌+◌, ◌-◌, ◌≤◌, ◌<◌, ◌||◌, ◌++◌, ℕ, suc, Bool, true, false, cond, List, [], ◌∷◌, take, refl, sym, arith}
use Rattle.std.specs.Prelude.{nat_le}
use Rattle.std.specs.List.{AllByRecursion}
use Rattle.std.proofs.lemmas.Bool.Decides.{nat_tests}
use Rattle.ow_value.proofs.KeySearch.{turned_eq}
use Rattle.ow_slots.specs.declared.states.State.{State}
use Rattle.ow_slots.specs.declared.states.State.TheVariants.{Vacant, Opening, Prewarmed, Busy, Idle, Closing}
use Rattle.ow_slots.specs.declared.states.Slot.{Slot}
use Rattle.ow_slots.specs.State.{state_memory}
use Rattle.ow_pool.specs.declared.candidates.Candidate.{Candidate}
use Rattle.ow_pool.specs.Candidates.{put, put_if, is_before, is_closing, candidate_in, candidates_from, is_among, outside, shortest}
use Rattle.ow_pool.specs.Four.{freeing}

pub apart_of : (a b : ℕ) → a < b → (b == a) ≡ false
apart_of a b lt = grind (arith, nat_tests)

pub apart_up : (a b : ℕ) → a < b → (a == b) ≡ false
apart_up a b lt = grind (arith, nat_tests)

pub self_same : (a : ℕ) → (a == a) ≡ true
self_same a = grind (arith, nat_tests)

-- sets that are the same from n on leave the same
outside_same : (s t : ℕ → Bool) (n : ℕ) (slots : List Slot) → ((k : ℕ) → n ≤ k → s k ≡ t k) → outside s n slots ≡ outside t n slots
outside_same s t n [] same = refl
outside_same s t n (x ∷ slots) same =
    let here : s n ≡ t n = same n (omega arith) in
    let rest = outside_same s t (suc n) slots (λ k le. same k (omega arith)) in
    rw (here, rest) refl

abbrev more : (ℕ → Bool) → ℕ → ℕ → Bool
more set m k = set k || (m == k)

-- a candidate frees its memory
abbrev Frees : ℕ → List Slot → Candidate → Type 0
Frees n slots c = (set : ℕ → Bool) → set c.slot ≡ false → outside set n slots ≡ outside (more set c.slot) n slots + c.memory

abbrev Facts : ℕ → List Slot → Candidate → Type 0
Facts n slots c = (n ≤ c.slot) × Frees n slots c

or_false : (b : Bool) → (b || false) ≡ b
or_false true = refl
or_false false = refl

lift_fact : (n : ℕ) (s : Slot) (slots : List Slot) (c : Candidate) → Facts (suc n) slots c → Facts n (s ∷ slots) c
lift_fact n s slots c f = (
  let le = f.0 in omega arith,
  λ set out.
      let apart : (c.slot == n) ≡ false = let le = f.0 in apart_of n c.slot (omega arith) in
      let rest = f.1 set out in
      rw (apart, or_false (set n)) (omega (arith, rest)),
)

lift_facts : (n : ℕ) (s : Slot) (slots : List Slot) (cs : List Candidate) → AllByRecursion (Facts (suc n) slots) cs → AllByRecursion (Facts n (s ∷ slots)) cs
lift_facts n s slots [] all = tt
lift_facts n s slots (c ∷ cs) all = (lift_fact n s slots c all.0, lift_facts n s slots cs all.1)

pub all_put : (P : Candidate → Type 0) (x : Candidate) (cs : List Candidate) → P x → AllByRecursion P cs → AllByRecursion P (put x cs)
unfolding put
all_put P x [] here all = (here, tt)
all_put P x (y ∷ ys) here all = at (is_before y x) (all_put P x ys here all.1)
  where
    at : (b : Bool) → AllByRecursion P (put x ys) → AllByRecursion P (cond b (y ∷ put x ys) (x ∷ y ∷ ys))
    at true rest = (all.0, rest)
    at false rest = (here, all)

-- a slot that can be removed holds its memory, and isn't closing
new_fact : (n m : ℕ) (s : Slot) (slots : List Slot) (x : Candidate) → x.slot ≡ n → is_closing s.state ≡ false → state_memory s.state ≡ x.memory → Facts n (s ∷ slots) x
new_fact n m s slots x here kept holds = (
  omega (arith, here),
  λ set out.
      let outn : set n ≡ false = rw here at out in
      let same = outside_same set (more set x.slot) (suc n) slots (λ k le. let apart : (x.slot == k) ≡ false = apart_up x.slot k (omega (arith, here)) in rw (apart, or_false (set k)) refl) in
      let hit : (x.slot == n) ≡ true = rw here (self_same n) in
      rw (kept, outn, hit, holds, same) (omega arith),
)

put_facts : (n : ℕ) (s : Slot) (slots : List Slot) (state : State) → s.state ≡ state → (cs : List Candidate) → AllByRecursion (Facts n (s ∷ slots)) cs
    → AllByRecursion (Facts n (s ∷ slots)) (put_if (candidate_in n state) cs)
put_facts n s slots Vacant e cs all = all
put_facts n s slots (Opening r k m) e cs all = all
put_facts n s slots (Prewarmed k m) e cs all =
    let x : Candidate = record { slot = n; memory = m; prewarmed = true; last_used = 0 } in
    all_put (Facts n (s ∷ slots)) x cs (new_fact n 0 s slots x refl (rw e refl) (rw e refl)) all
put_facts n s slots (Busy w) e cs all = all
put_facts n s slots (Idle key last) e cs all =
    let x : Candidate = record { slot = n; memory = key.memory; prewarmed = false; last_used = last } in
    all_put (Facts n (s ∷ slots)) x cs (new_fact n 0 s slots x refl (rw e refl) (rw e refl)) all
put_facts n s slots (Closing m) e cs all = all

pub facts : (n : ℕ) (slots : List Slot) → AllByRecursion (Facts n slots) (candidates_from n slots)
facts n [] = tt
facts n (s ∷ slots) = put_facts n s slots s.state refl (candidates_from (suc n) slots) (lift_facts n s slots (candidates_from (suc n) slots) (facts (suc n) slots))

-- no slot occurs twice among the candidates
abbrev pub Distinct : List Candidate → Type 0
Distinct [] = Unit {0}
Distinct (c ∷ cs) = (is_among cs c.slot ≡ false) × Distinct cs

swap_or : (a b c : Bool) → (a || (b || c)) ≡ (b || (a || c))
swap_or true true c = refl
swap_or true false c = refl
swap_or false b c = refl

pub among_put : (x : Candidate) (cs : List Candidate) (n : ℕ) → is_among (put x cs) n ≡ ((x.slot == n) || is_among cs n)
unfolding put
among_put x [] n = refl
among_put x (y ∷ ys) n = at (is_before y x) (among_put x ys n)
  where
    at : (b : Bool) → is_among (put x ys) n ≡ ((x.slot == n) || is_among ys n) → is_among (cond b (y ∷ put x ys) (x ∷ y ∷ ys)) n ≡ ((x.slot == n) || ((y.slot == n) || is_among ys n))
    at true rest = rw rest (swap_or (y.slot == n) (x.slot == n) (is_among ys n))
    at false rest = refl

pub first_false : (a b : Bool) → (a || b) ≡ false → (a ≡ false) × (b ≡ false)
first_false true b e = cc
first_false false b e = (refl, e)

distinct_put : (x : Candidate) (cs : List Candidate) → is_among cs x.slot ≡ false → Distinct cs → Distinct (put x cs)
unfolding put
distinct_put x [] fresh distinct = (refl, tt)
distinct_put x (y ∷ ys) fresh distinct = at (is_before y x) (distinct_put x ys (first_false (y.slot == x.slot) (is_among ys x.slot) fresh).1 distinct.1)
  where
    at : (b : Bool) → Distinct (put x ys) → Distinct (cond b (y ∷ put x ys) (x ∷ y ∷ ys))
    at true rest =
        let apart : (x.slot == y.slot) ≡ false = turned_eq y.slot x.slot (first_false (y.slot == x.slot) (is_among ys x.slot) fresh).0 in
        (rw (among_put x ys y.slot, apart) distinct.0, rest)
    at false rest = (fresh, distinct)

pub unmet : (n : ℕ) (slots : List Slot) (cs : List Candidate) → AllByRecursion (Facts (suc n) slots) cs → is_among cs n ≡ false
unmet n slots [] all = refl
unmet n slots (c ∷ cs) all =
    let apart : (c.slot == n) ≡ false = let le = all.0.0 in apart_of n c.slot (omega arith) in
    rw (apart, unmet n slots cs all.1) refl

distinct_put_if : (n : ℕ) (state : State) (cs : List Candidate) → is_among cs n ≡ false → Distinct cs → Distinct (put_if (candidate_in n state) cs)
distinct_put_if n Vacant cs fresh d = d
distinct_put_if n (Opening r k m) cs fresh d = d
distinct_put_if n (Prewarmed k m) cs fresh d = distinct_put (record { slot = n; memory = m; prewarmed = true; last_used = 0 }) cs fresh d
distinct_put_if n (Busy w) cs fresh d = d
distinct_put_if n (Idle key last) cs fresh d = distinct_put (record { slot = n; memory = key.memory; prewarmed = false; last_used = last }) cs fresh d
distinct_put_if n (Closing m) cs fresh d = d

pub distinct : (n : ℕ) (slots : List Slot) → Distinct (candidates_from n slots)
distinct n [] = tt
distinct n (s ∷ slots) = distinct_put_if n s.state (candidates_from (suc n) slots) (unmet n slots (candidates_from (suc n) slots) (facts (suc n) slots)) (distinct (suc n) slots)

-- one more in the set
among_more : (done : List Candidate) (c : Candidate) (k : ℕ) → is_among (done ++ c ∷ []) k ≡ (is_among done k || (c.slot == k))
among_more [] c k = or_false (c.slot == k)
among_more (d ∷ done) c k = rw (among_more done c k) (grouped (d.slot == k) (is_among done k) (c.slot == k))
  where
    grouped : (a b e : Bool) → (a || (b || e)) ≡ ((a || b) || e)
    grouped true b e = refl
    grouped false b e = refl

abbrev Unmet : List Candidate → List Candidate → Type 0
Unmet done left = AllByRecursion (λ c. is_among done c.slot ≡ false) left

unmet_more : (done : List Candidate) (c : Candidate) (left : List Candidate) → is_among left c.slot ≡ false → Unmet done left → Unmet (done ++ c ∷ []) left
unmet_more done c [] fresh unmet = tt
unmet_more done c (d ∷ left) fresh unmet =
    let both = first_false (d.slot == c.slot) (is_among left c.slot) fresh in
    (rw (among_more done c d.slot, unmet.0, turned_eq d.slot c.slot both.0) refl, unmet_more done c left both.1 unmet.1)

-- each in turn is held by what is left
abbrev pub Holds : ℕ → List Candidate → Type 0
Holds rest [] = Unit {0}
Holds rest (c ∷ left) = (c.memory ≤ rest) × Holds (rest - c.memory) left

freed : (slots : List Slot) (rest : ℕ) (done : List Candidate) (c : Candidate) → rest ≡ outside (is_among done) 0 slots → Frees 0 slots c → is_among done c.slot ≡ false
    → rest ≡ outside (is_among (done ++ c ∷ [])) 0 slots + c.memory
freed slots rest done c is frees fresh =
    let less = frees (is_among done) fresh in
    let same = outside_same (is_among (done ++ c ∷ [])) (more (is_among done) c.slot) 0 slots (λ k le. among_more done c k) in
    omega (arith, is, less, same)

pub holds : (slots : List Slot) (rest : ℕ) (done left : List Candidate) → rest ≡ outside (is_among done) 0 slots → AllByRecursion (Facts 0 slots) left → Unmet done left → Distinct left → Holds rest left
holds slots rest done [] is all unmet d = tt
holds slots rest done (c ∷ left) is all unmet d =
    let less = freed slots rest done c is all.0.1 unmet.0 in
    (omega (arith, less), holds slots (rest - c.memory) (done ++ c ∷ []) left (omega (arith, less)) all.1 (unmet_more done c left d.0 unmet.1) d.1)

-- the shortest prefix is found by counting what is left
pub shortest_freeing : (slots : List Slot) (memory pool rest : ℕ) (passes : List Candidate → Bool) (done left : List Candidate)
    → ((d : List Candidate) (c : Candidate) → passes (d ++ c ∷ []) ≡ nat_le (outside (is_among (d ++ c ∷ [])) 0 slots + memory) pool)
    → rest ≡ outside (is_among done) 0 slots → AllByRecursion (Facts 0 slots) left → Unmet done left → Distinct left
    → shortest passes done left ≡ freeing rest memory pool done left
shortest_freeing slots memory pool rest passes done [] test is all unmet d = refl
shortest_freeing slots memory pool rest passes done (c ∷ left) test is all unmet d =
    let less = freed slots rest done c is all.0.1 unmet.0 in
    let now : outside (is_among (done ++ c ∷ [])) 0 slots ≡ rest - c.memory = omega (arith, less) in
    let later = shortest_freeing slots memory pool (rest - c.memory) passes (done ++ c ∷ []) left test (sym now) all.1 (unmet_more done c left d.0 unmet.1) d.1 in
    rw (test done c, now, later) refl

le_true : (a b : ℕ) → a ≤ b → nat_le a b ≡ true
le_true a b le = grind (arith, nat_tests)

-- four are enough
pub four_enough : (rest memory pool : ℕ) (done left : List Candidate) → rest ≤ pool → memory ≤ 512 → AllByRecursion (λ c. 128 ≤ c.memory) left → Holds rest left
    → freeing rest memory pool done left ≡ freeing rest memory pool done (take 4 left)
four_enough rest memory pool done [] le m sizes h = refl
four_enough rest memory pool done (a ∷ []) le m sizes h = refl
four_enough rest memory pool done (a ∷ b ∷ []) le m sizes h = refl
four_enough rest memory pool done (a ∷ b ∷ c ∷ []) le m sizes h = refl
four_enough rest memory pool done (a ∷ b ∷ c ∷ d ∷ left) le m sizes h =
    let sa = sizes.0 in let sb = sizes.1.0 in let sc = sizes.1.1.0 in let sd = sizes.1.1.1.0 in
    let ha = h.0 in let hb = h.1.0 in let hc = h.1.1.0 in let hd = h.1.1.1.0 in
    let enough : nat_le (rest - a.memory - b.memory - c.memory - d.memory + memory) pool ≡ true = le_true _ _ (omega arith) in
    rw enough refl
