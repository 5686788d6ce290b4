-- Where receipts and a book differ.
use Rattle.std.proofs.Common.{◌≡◌, ℕ, ◌<◌, ◌≤◌, true, List, Option, Some, None, length, reverse, arith, refl, sym, ap, ◌∙◌, subst, ⊎_elim}
use Rattle.std.specs.List.{Contains}
use Rattle.std.specs.Prelude.{MatchOption, slice_get, slice_index}
use Rattle.std.proofs.lemmas.Bool.{cases_lt}
use Rattle.std.proofs.lemmas.List.{length-reverse, reverse-reverse}
use Rattle.std.proofs.lemmas.Option.{MatchOption-at_none, MatchOption-at_some}
use Rattle.ow_hall.specs.declared.entry.Entry.{Entry}
use Rattle.ow_hall.specs.History.{History}
use Rattle.ow_hall.specs.Ledger.{Ledger}
use Rattle.ow_desk.specs.declared.placed.Placed.{Placed}
use Rattle.ow_desk.specs.Notes.{Notes}
use Rattle.ow_audit.specs.declared.sides.Difference.{Difference}
use Rattle.ow_audit.specs.declared.sides.Side.{Side}
use Rattle.ow_audit.specs.declared.sides.Side.TheVariants as sides
use Rattle.ow_audit.specs.Places.{AreTimes, IsBooked, IsRight, first_fall_of, placed, times}
use Rattle.ow_audit.specs.Numbers.{NumbersMatch, capped}
use Rattle.ow_audit.specs.Drains.{ends_drained}
use Rattle.ow_audit.specs.Differs.{AreOnce, AreRight, Counts, HeldWrongly, Matches, Twice, Undrained, WrongEntry, side_of}
use Rattle.ow_audit.proofs.PlaceLaws.{counted_once, no_fall_rise, once_past, once_right, stands}

-- ---- an entry at a place

pub unheld_wrong : (book : List Entry) (ps : List Placed) (d : Difference) (k : ℕ) → d.place ≡ k → d.held ≡ sides.Nothing → d.kept ≡ side_of (slice_get book k)
    → k < length book → times k ps ≡ 0 → ((j : ℕ) → j < k → IsRight book ps j) → WrongEntry book ps d
unheld_wrong book ps d k place held kept lt none right = record {
  before = λ j less. right j (subst (λ (n : ℕ). j < n) place less);
  held = subst (λ (s : Side). HeldWrongly book ps d.place s) (sym held) (subst (λ (n : ℕ). HeldWrongly book ps n sides.Nothing) (sym place) (lt, none));
  kept = kept ∙ ap (λ (n : ℕ). side_of (slice_get book n)) (sym place);
}

pub unbooked_wrong : (book : List Entry) (ps : List Placed) (d : Difference) (w : Placed) → d.place ≡ w.place → d.held ≡ sides.One w.entry → d.kept ≡ side_of (slice_get book w.place)
    → Contains ps w → (IsBooked book w → ⊥) → ((j : ℕ) → j < w.place → IsRight book ps j) → WrongEntry book ps d
unbooked_wrong book ps d w place held kept among wrong right = record {
  before = λ j less. right j (subst (λ (n : ℕ). j < n) place less);
  held = subst (λ (s : Side). HeldWrongly book ps d.place s) (sym held) (subst (λ (n : ℕ). HeldWrongly book ps n (sides.One w.entry)) (sym place) (stands ps w among, wrong));
  kept = kept ∙ ap (λ (n : ℕ). side_of (slice_get book n)) (sym place);
}

-- ---- a book with the oldest entry first

oldest_first : (book : List Entry) (B : History) → reverse book ≡ B → reverse B ≡ book
oldest_first book B e = ap reverse (sym e) ∙ reverse-reverse book

module _ (all : List Notes) (L : Ledger) (book : List Entry) (e : reverse book ≡ L.entries) where
  -- where no place was found to be wrong
  pub no_wrong : (o : Option Difference) → MatchOption o ((k : ℕ) → IsRight book (placed all) k) (WrongEntry book (placed all)) → o ≡ None → (k : ℕ) → IsRight book (placed all) k
  no_wrong o m none = MatchOption-at_none ((k : ℕ) → IsRight book (placed all) k) (WrongEntry book (placed all)) none m

  pub are_right : ((k : ℕ) → IsRight book (placed all) k) → AreRight all L
  are_right right k = subst (λ (xs : List Entry). IsRight xs (placed all) k) (sym (oldest_first book L.entries e)) (right k)

  pub counts_of : (m n : ℕ) (d : Difference) → Counts (length book) m n d → Counts (length L.entries) m n d
  counts_of m n d c = record { place = c.place ∙ (sym (length-reverse book) ∙ ap length e); held = c.held; kept = c.kept }

  pub is_undrained : (o : Option Difference) (d : Difference) → MatchOption o (ends_drained (reverse book) ≡ true) (Undrained (reverse book)) → o ≡ Some d → Undrained L.entries d
  is_undrained o d m is = subst (λ (B : History). Undrained B d) e (MatchOption-at_some (ends_drained (reverse book) ≡ true) (Undrained (reverse book)) d is m)

  pub is_drained : (o : Option Difference) → MatchOption o (ends_drained (reverse book) ≡ true) (Undrained (reverse book)) → o ≡ None → ends_drained L.entries ≡ true
  is_drained o m none = subst (λ (B : History). ends_drained B ≡ true) e (MatchOption-at_none (ends_drained (reverse book) ≡ true) (Undrained (reverse book)) none m)

-- ---- how many times each place occurs

pub are_once : (all : List Notes) (book : List Entry) (counts : List ℕ) → AreTimes (length book) (placed all) counts → ((k : ℕ) → IsRight book (placed all) k)
    → ((k : ℕ) → k < length counts → slice_index counts k ≤ 1) → AreOnce all
are_once all book counts are right few k = ⊎_elim
    (λ lt. counted_once (length book) (placed all) counts k are (few k (omega (arith, are.len))) lt)
    (λ le. once_past book (placed all) k (right k) le)
    (cases_lt k (length book))

pub is_twice : (all : List Notes) (book : List Entry) (counts : List ℕ) (d : Difference) (k n : ℕ) → AreTimes (length book) (placed all) counts → Counts k n 1 d
    → (k < length counts) × (slice_index counts k ≡ n) × (1 < n) × ((j : ℕ) → j < k → slice_index counts j ≤ 1) → Twice (placed all) d
is_twice all book counts d k n are c found =
    let place = c.place in
    let len = are.len in
    let lt = found.0 in
    let more = found.2 in
    let within : k < length book = omega arith in
    let here : n ≡ capped (times k (placed all)) = sym found.1 ∙ are.counted k within in
    let there : n ≡ capped (times d.place (placed all)) = here ∙ ap (λ (m : ℕ). capped (times m (placed all))) (sym place) in
    record {
      before = λ j less. counted_once (length book) (placed all) counts j are (found.3 j (omega (arith, place, less))) (omega (arith, place, less, within));
      twice = omega (arith, there, more);
      counts = record { place = refl; held = c.held ∙ ap sides.Count there; kept = c.kept };
    }

pub all_match : (all : List Notes) (L : Ledger) → AreRight all L → NumbersMatch all L → ends_drained L.entries ≡ true → AreOnce all → first_fall_of all ≡ None → Matches all L
all_match all L right numbers drained once rise = record {
  entries = λ k. once_right (reverse L.entries) (placed all) k (right k) (once k);
  rise = no_fall_rise all rise;
  numbers = numbers;
  drained = drained;
}
