-- The code's count is rule 4.
use Rattle.std.proofs.Common.{◌≡◌, ◌+◌, ◌≤◌, ◌&&◌, ◌||◌, ◌++◌, ℕ, suc, Bool, true, false, cond, List, [], ◌∷◌, Option, sum_by, take, refl, sym, ◌∙◌, arith}
use Rattle.std.specs.Prelude.{nat_le}
use Rattle.std.specs.List.{list_any, AllByRecursion}
use Rattle.ow_slots.specs.declared.states.State.{State}
use Rattle.ow_slots.specs.declared.states.State.TheVariants.{Vacant, Opening, Prewarmed, Busy, Idle, Closing}
use Rattle.ow_slots.specs.declared.states.Slot.{Slot}
use Rattle.ow_slots.specs.Slots.{memory_held}
use Rattle.ow_slots.specs.State.{state_memory, can_open, IsSized}
use Rattle.ow_pool.specs.declared.candidates.Candidate.{Candidate}
use Rattle.ow_pool.specs.Candidates.{put_if, is_closing, is_among, candidate_in, candidates_from, outside, shortest, numbers_of}
use Rattle.ow_pool.specs.Four.{freeing}
use Rattle.ow_pool.specs.Rules.{removal, remove_or_wait, makes_room, has_any, kept_share, IsWithinPool}
use Rattle.ow_pool.specs.declared.answers.Place.TheVariants.{Nothing}
use Rattle.ow_pool.specs.declared.answers.Unplaced.TheVariants.{NoRoom}
use Rattle.std.proofs.lemmas.List.Sums.{sum_by-cons}
use Rattle.ow_pool.proofs.Room.{facts, distinct, holds, shortest_freeing, four_enough, all_put}

kept_at : (b : Bool) (m : ℕ) → cond (b || false) 0 m ≡ cond b 0 m
kept_at true m = refl
kept_at false m = refl

pub outside_none : (n : ℕ) (slots : List Slot) → outside (is_among []) n slots ≡ sum_by kept_share slots
outside_none n [] = refl
outside_none n (s ∷ slots) = rw (kept_at (is_closing s.state) (state_memory s.state), outside_none (suc n) slots) (sym (sum_by-cons kept_share s slots))

share_le : (b : Bool) (m : ℕ) → cond b 0 m ≤ m
share_le true m = omega arith
share_le false m = omega arith

pub kept_le : (slots : List Slot) → sum_by kept_share slots ≤ memory_held slots
kept_le [] = omega arith
kept_le (s ∷ slots) = let a = share_le (is_closing s.state) (state_memory s.state) in let b = kept_le slots in
    rw (sum_by-cons kept_share s slots, sum_by-cons (λ (x : Slot). state_memory x.state) s slots) (omega (arith, a, b))

sized_put : (n : ℕ) (state : State) (cs : List Candidate) → IsSized state → AllByRecursion (λ c. 128 ≤ c.memory) cs → AllByRecursion (λ c. 128 ≤ c.memory) (put_if (candidate_in n state) cs)
sized_put n Vacant cs size all = all
sized_put n (Opening r k m) cs size all = all
sized_put n (Prewarmed k m) cs size all = all_put (λ (c : Candidate). 128 ≤ c.memory) (record { slot = n; memory = m; prewarmed = true; last_used = 0 }) cs size.0 all
sized_put n (Busy w) cs size all = all
sized_put n (Idle key last) cs size all = all_put (λ (c : Candidate). 128 ≤ c.memory) (record { slot = n; memory = key.memory; prewarmed = false; last_used = last }) cs size.0 all
sized_put n (Closing m) cs size all = all

sized : (n : ℕ) (slots : List Slot) → AllByRecursion (λ (s : Slot). IsSized s.state) slots → AllByRecursion (λ c. 128 ≤ c.memory) (candidates_from n slots)
sized n [] all = tt
sized n (s ∷ slots) all = sized_put n s.state (candidates_from (suc n) slots) all.0 (sized (suc n) slots all.1)

any_more : (d : List Candidate) (c : Candidate) → has_any (d ++ c ∷ []) ≡ true
any_more [] c = refl
any_more (e ∷ d) c = refl

passed : (a x y : Bool) → (a && (x || (y || true))) ≡ a
passed true true y = refl
passed true false true = refl
passed true false false = refl
passed false x y = refl

unmet_none : (cs : List Candidate) → AllByRecursion (λ c. is_among [] c.slot ≡ false) cs
unmet_none [] = tt
unmet_none (c ∷ cs) = (refl, unmet_none cs)

pub counted : (slots : List Slot) (memory pool rest : ℕ) → IsWithinPool slots pool → memory ≤ 512 → rest ≡ sum_by kept_share slots
    → shortest (makes_room slots memory pool) [] (candidates_from 0 slots) ≡ freeing rest memory pool [] (take 4 (candidates_from 0 slots))
counted slots memory pool rest fits small is =
    let cs = candidates_from 0 slots in
    let out : rest ≡ outside (is_among []) 0 slots = is ∙ sym (outside_none 0 slots) in
    let le : rest ≤ pool = let a = kept_le slots in let b = fits.within in omega (arith, a, b, is) in
    shortest_freeing slots memory pool rest (makes_room slots memory pool) [] cs
    (λ d c. rw (any_more d c) (passed (nat_le (outside (is_among (d ++ c ∷ [])) 0 slots + memory) pool) (list_any can_open slots) (list_any (λ (s : Slot). is_closing s.state) slots)))
    out (facts 0 slots) (unmet_none cs) (distinct 0 slots)
    ∙ four_enough rest memory pool [] cs le small (sized 0 slots fits.sized)
    (holds slots rest [] cs out (facts 0 slots) (unmet_none cs) (distinct 0 slots))

-- whether the closing slots make room, by the count
abbrev AtOnce : List Slot → ℕ → ℕ → ℕ → Bool → Type 0
AtOnce slots rest m p b = b ≡ (nat_le (rest + m) p && (list_any can_open slots || (list_any (λ s. is_closing s.state) slots || false)))

-- the answers by the count are the rule's
pub waits_now : (slots : List Slot) (memory pool rest m p : ℕ) → m ≡ memory → p ≡ pool → rest ≡ sum_by kept_share slots → AtOnce slots rest m p true
    → Nothing NoRoom ≡ removal slots memory pool
waits_now slots memory pool rest m p em ep is test =
    let out : outside (is_among []) 0 slots ≡ rest = outside_none 0 slots ∙ sym is in
    rw (← em, ← ep, out, ← test) refl

pub removes : (slots : List Slot) (memory pool rest m p : ℕ) (first : List Candidate) (found : Option (List ℕ)) → m ≡ memory → p ≡ pool → rest ≡ sum_by kept_share slots
    → IsWithinPool slots pool → memory ≤ 512 → first ≡ take 4 (candidates_from 0 slots) → AtOnce slots rest m p false → found ≡ numbers_of (freeing rest m p [] first)
    → remove_or_wait found ≡ removal slots memory pool
removes slots memory pool rest m p first found em ep is fits small made test got =
    let out : outside (is_among []) 0 slots ≡ rest = outside_none 0 slots ∙ sym is in
    let test' : AtOnce slots rest memory pool false = rw (em, ep) at test in
    let got' : found ≡ numbers_of (freeing rest memory pool [] (take 4 (candidates_from 0 slots))) = rw (em, ep, made) at got in
    rw (counted slots memory pool rest fits small is, out, ← test', got') refl
