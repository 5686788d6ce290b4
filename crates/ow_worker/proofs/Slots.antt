-- One slot more is dealt with.
use Rattle.std.proofs.Common.{arith, ◌≡◌, ◌≢◌, ℕ, zero, suc, ◌+◌, ◌≤◌, inl, inr, ⊎_elim, subst, ap, ◌∙◌}
use Rattle.std.specs.Prelude.{Option, Some, None}
use Rattle.ow_board.specs.declared.view.View.{View}
use Rattle.ow_board.specs.View.{KeepsOthers}
use Rattle.ow_desk.specs.Notes.{Notes}
use Rattle.ow_worker.specs.Reaped.{DealtWith, Reaped, SlotReaped}

-- steps on another slot leave what was shown
dealt_still : (k i elapsed start : ℕ) (taken : Option ℕ) (v w : View) → k ≢ i → KeepsOthers i v w → DealtWith k elapsed start taken v → DealtWith k elapsed start taken w
dealt_still k i elapsed start taken v w other others d = record { step = d.step; is_last = others k other ∙ d.is_last; of_call = d.of_call; shows = d.shows }

dealt_sooner : (i elapsed a b : ℕ) (taken : Option ℕ) (w : View) → a ≤ b → DealtWith i elapsed b taken w → DealtWith i elapsed a taken w
dealt_sooner i elapsed a b (Some generation) w le d = let n = d.of_call in let t = d.shows in
    record { step = d.step; is_last = d.is_last; of_call = omega arith; shows = (t.0, t.1, t.2, (t.3.0, t.3.1, t.3.2, omega arith, t.3.4)) }
dealt_sooner i elapsed a b None w le d = let n = d.of_call in record {
  step = d.step;
  is_last = d.is_last;
  of_call = omega arith;
  shows = ⊎_elim (λ t. inl t) (λ t. inr (t.0, (t.1.0, t.1.1, t.1.2, omega arith, t.1.4))) d.shows;
}

module _ (tells : Option ℕ) where
  reaped_still : (k i elapsed start count : ℕ) (n m : Notes) (v w : View) → k ≤ i → KeepsOthers i v w
      → Reaped tells elapsed start n k v count m → Reaped tells elapsed start n k w count m
  reaped_still zero i elapsed start count n m v w le others t = t
  reaped_still (suc k) i elapsed start count n m v w le others t = let other : k ≢ i = (λ e. omega arith) in
      (t.0, t.1, t.2, reaped_still k i elapsed start t.1 n t.0 v w (omega arith) others t.3, dealt_still k i elapsed start t.2 v w other others t.4, t.5, t.6)

  pub reaped_more : (i elapsed start before count total : ℕ) (n m k : Notes) (v w : View) → start ≤ v.steps
      → Reaped tells elapsed start n i v before m → SlotReaped tells i elapsed m k v w count → total ≡ before + count
      → Reaped tells elapsed start n (i + 1) w total k
  reaped_more i elapsed start before count total n m k v w le t one is =
      let next : suc i ≡ i + 1 = omega arith in
      subst (λ (j : ℕ). Reaped tells elapsed start n j w total k) next
      (m, before, one.taken, reaped_still i i elapsed start before n m v w (omega arith) one.others t, dealt_sooner i elapsed start v.steps one.taken w le one.dealt, one.reports, is ∙ ap (λ (j : ℕ). before + j) one.count_is)
