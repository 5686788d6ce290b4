-- What a sweep does, late run by late run.
use Rattle.std.proofs.Common.{◌≡◌, ◌+◌, ◌-◌, ◌++◌, ◌<◌, ◌≤◌, ℕ, zero, suc, true, false, List, [], ◌∷◌, length, refl, sym, ap, ◌∙◌, append-nil, append_assoc, arith, inl, inr, subst}
use Rattle.ow_packages.specs.Access.{Standing}
use Rattle.ow_floor.specs.Calls.{has_items, moved, overrun_first}
use Rattle.ow_floor.specs.Laws.{Grows, Stands}
use Rattle.ow_floor.specs.Trace.{Trace, open_items}
use Rattle.ow_floor.specs.View.{Shown}
use Rattle.ow_floor.specs.declared.moves.Moved.{Moved}
use Rattle.ow_floor.proofs.Making.{moved_append}
use Rattle.ow_trees.specs.Driving.{IsSweeping}
use Rattle.ow_trees.specs.Steps.{late_in, next_in, stepped, steps_after, sweep_items, swept_all, swept_on, unless_empty}
use Rattle.ow_trees.specs.declared.bounds.TheConstants.{MOST_STEPS}
use Rattle.ow_trees.proofs.Coming.{IsLateEnd, after_none, late_end, late_stepped}
use Rattle.ow_trees.proofs.Following.{IsMoved}

-- ---- how many were late

late_append : (xs ys : Trace) → late_in (xs ++ ys) ≡ late_in xs + late_in ys
late_append [] ys = omega arith
late_append (x ∷ xs) ys = omega (arith, late_append xs ys)

late_one : (at : ℕ) (items : Trace) → IsLateEnd at items → true ≡ has_items items → late_in items ≡ 1
late_one at items (inl none) e =
    let empty : true ≡ has_items [] = e ∙ ap has_items none in
    cc
late_one at items (inr some) e = ap late_in some.2

-- what the first late run ends, with the steps that follow
abbrev pub one_late : Standing → ℕ → Trace → Trace
one_late rs at T = steps_after rs at T (overrun_first at T)

late_more : (rs : Standing) (at : ℕ) (U : Trace) → true ≡ has_items (overrun_first at U) → late_in (one_late rs at U) ≡ 1
late_more rs at U e =
    let items = overrun_first at U in
    let steps = stepped MOST_STEPS rs at (items ++ U) (next_in items) in
    omega (arith, late_append steps items, late_stepped MOST_STEPS rs at (items ++ U) (next_in items), late_one at items (late_end at U) e)

-- ---- one by one

unless_full : (items : Trace) (follow : Trace → Trace) → true ≡ has_items items → unless_empty items follow ≡ follow items
unless_full [] follow e = cc
unless_full (item ∷ items) follow e = refl

empty_of : (items : Trace) → false ≡ has_items items → items ≡ []
empty_of [] e = refl
empty_of (item ∷ items) e = cc

swept_rest : (left n : ℕ) (rs : Standing) (at : ℕ) (U made : Trace) → n + 1 ≡ left → true ≡ has_items (overrun_first at U)
    → swept_on n rs at (one_late rs at U ++ U) ++ (one_late rs at U ++ made) ≡ swept_on left rs at U ++ made
swept_rest zero n rs at U made e late = absurd (omega (arith, e))
swept_rest (suc left) n rs at U made e late =
    let same : n ≡ left = omega (arith, e) in
    let one = one_late rs at U in
    ap (λ m. swept_on m rs at (one ++ U) ++ (one ++ made)) same
    ∙ (sym (append_assoc (swept_on left rs at (one ++ U)) one made)
    ∙ ap (λ xs. xs ++ made) (sym (unless_full (overrun_first at U) (λ items. swept_on left rs at (steps_after rs at U items ++ U) ++ steps_after rs at U items) late)))

swept_end : (left : ℕ) (rs : Standing) (at : ℕ) (U : Trace) → overrun_first at U ≡ [] → swept_on left rs at U ≡ []
swept_end zero rs at U e = refl
swept_end (suc left) rs at U e = ap (λ items. unless_empty items (λ late. swept_on left rs at (steps_after rs at U late ++ U) ++ steps_after rs at U late)) e

pub sweeping_start : (rs : Standing) (at : ℕ) (T : Trace) (v : Shown) (before : List Moved) → Stands v T → IsSweeping rs at 0 T v before before
sweeping_start rs at T v before st = record {
  made = [];
  left = length (open_items T);
  stands = st;
  fuel = omega arith;
  rest = append-nil (swept_all rs at T);
  count = refl;
  noted = sym (append-nil before);
}

pub sweeping_next : (rs : Standing) (at late most : ℕ) (T : Trace) (v w : Shown) (start before after : List Moved) → most ≡ length (open_items T) → late < most → Grows v w (λ U. one_late rs at U)
    → IsMoved (λ U. one_late rs at U) v before after → ((U : Trace) → Stands v U → true ≡ has_items (overrun_first at U)) → IsSweeping rs at late T v start before → IsSweeping rs at (late + 1) T w start after
sweeping_next rs at late most T v w start before after size less grows moves told f =
    let U = f.made ++ T in
    let one = one_late rs at U in
    let n = f.left - 1 in
    let is_late = told U f.stands in
    let fuel : f.left + late ≡ length (open_items T) = f.fuel in
    record {
      made = one ++ f.made;
      left = n;
      stands = subst (λ (V : Trace). Stands w V) (sym (append_assoc one f.made T)) (grows U f.stands);
      fuel = omega (arith, fuel, size, less);
      rest = ap (λ V. swept_on n rs at V ++ (one ++ f.made)) (append_assoc one f.made T) ∙ (swept_rest f.left n rs at U f.made (omega (arith, fuel, size, less)) is_late ∙ f.rest);
      count = omega (arith, f.count, late_append one f.made, late_more rs at U is_late);
      noted = moves U f.stands ∙ (ap (λ ms. ms ++ moved one) f.noted ∙ (append_assoc start (moved f.made) (moved one) ∙ ap (λ ms. start ++ ms) (sym (moved_append one f.made))));
    }

-- ---- the end

-- this many were late, and each of these has ended
pub record IsSwept (rs : Standing) (at late : ℕ) (T : Trace) (w : Shown) (start after : List Moved) : Type 0 where
  pub stands : Stands w (swept_all rs at T ++ T)
  pub count : late ≡ late_in (swept_all rs at T)
  pub noted : after ≡ start ++ moved (swept_all rs at T)

swept_by : (rs : Standing) (at late : ℕ) (T : Trace) (w : Shown) (start after : List Moved) → (f : IsSweeping rs at late T w start after) → swept_on f.left rs at (f.made ++ T) ≡ [] → IsSwept rs at late T w start after
swept_by rs at late T w start after f none =
    let same : f.made ≡ swept_all rs at T = sym (ap (λ xs. xs ++ f.made) none) ∙ f.rest in
    record {
      stands = subst (λ (xs : Trace). Stands w (xs ++ T)) same f.stands;
      count = f.count ∙ ap late_in same;
      noted = f.noted ∙ ap (λ xs. start ++ moved xs) same;
    }

zero_on : (left : ℕ) (rs : Standing) (at : ℕ) (U : Trace) → left ≡ 0 → swept_on left rs at U ≡ []
zero_on zero rs at U e = refl
zero_on (suc left) rs at U e = absurd (omega (arith, e))

pub swept_full : (rs : Standing) (at late most : ℕ) (T : Trace) (w : Shown) (start after : List Moved) → most ≡ length (open_items T) → most ≤ late → IsSweeping rs at late T w start after → IsSwept rs at late T w start after
swept_full rs at late most T w start after size full f =
    let fuel : f.left + late ≡ length (open_items T) = f.fuel in
    swept_by rs at late T w start after f (zero_on f.left rs at (f.made ++ T) (omega (arith, fuel, size, full)))

pub swept_none : (rs : Standing) (at late : ℕ) (T : Trace) (v w : Shown) (start before after : List Moved) → Grows v w (λ U. one_late rs at U) → IsMoved (λ U. one_late rs at U) v before after
    → ((U : Trace) → Stands v U → false ≡ has_items (overrun_first at U)) → IsSweeping rs at late T v start before → IsSwept rs at late T w start after
swept_none rs at late T v w start before after grows moves told f =
    let U = f.made ++ T in
    let none = empty_of (overrun_first at U) (told U f.stands) in
    let empty : one_late rs at U ≡ [] = after_none rs at (overrun_first at U) U (ap next_in none) ∙ none in
    let same = moves U f.stands ∙ (ap (λ xs. before ++ moved xs) empty ∙ append-nil before) in
    swept_by rs at late T w start after
    (record {
      made = f.made;
      left = f.left;
      stands = subst (λ (xs : Trace). Stands w (xs ++ U)) empty (grows U f.stands);
      fuel = f.fuel;
      rest = f.rest;
      count = f.count;
      noted = same ∙ f.noted;
    }) (swept_end f.left rs at U none)

pub moved_swept : (rs : Standing) (at : ℕ) (T : Trace) (before after : List Moved) → after ≡ before ++ moved (swept_all rs at T) → after ≡ before ++ moved (sweep_items rs at T)
moved_swept rs at T before after is = is ∙ ap (λ ms. before ++ ms) (sym (append-nil (moved (swept_all rs at T))))

pub count_swept : (rs : Standing) (at late : ℕ) (T : Trace) → late ≡ late_in (swept_all rs at T) → late ≡ late_in (sweep_items rs at T)
count_swept rs at late T is = omega (arith, is)
