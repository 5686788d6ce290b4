-- How a window agrees with one more note, and how all windows do where one was changed.
use Rattle.std.proofs.Common.{◌≡◌, ◌≢◌, ℕ, ◌+◌, ◌-◌, ◌<◌, ◌≤◌, List, [], ◌∷◌, Bool, true, false, Some, None, refl, sym, ap, ◌∙◌, subst, arith}
use Rattle.std.specs.Prelude.{◌&&◌, count_by}
use Rattle.std.specs.Str.{bytes_eq}
use Rattle.std.proofs.lemmas.Slice.Eq.{bytes_eq-Decides}
use Rattle.std.proofs.lemmas.Bool.{false_from_ne_true}
use Rattle.ow_value.specs.ByText.{ByText, value_at, with_value}
use Rattle.ow_tenant.specs.Notes.{Note, Notes, invoked, fired, ended, counts_at, fires, is_ended, is_invoked, is_recent, is_recent_fire, latest, minute}
use Rattle.ow_tenant.specs.Queue.{AllUpTo, Rise, with_one}
use Rattle.ow_tenant.specs.Windows.{HasRoom, KeepsOthers, Stands, StandsAs, no_window, window_of, or_none}
use Rattle.ow_tenant.specs.declared.window.Window.{Window}
use Rattle.ow_value.proofs.ByTextLaws.{value_at-same, value_at-other}
use Rattle.ow_tenant.proofs.QueueLaws.{AllUpTo-more, counted-yes, counted-no}

-- ---- texts

same : (n : List ℕ) → bytes_eq n n ≡ true
same n = (bytes_eq-Decides n n).1 refl

another : (n other : List ℕ) → other ≢ n → bytes_eq n other ≡ false
another n other ne = false_from_ne_true _ (λ e. ne (sym ((bytes_eq-Decides n other).0 e)))

-- ---- a count with one more

with-one : {X : Type 0} (p : X → Bool) (x : X) (xs : List X) → count_by p (x ∷ xs) ≡ with_one (p x) (count_by p xs)
with-one p x xs = by (p x) refl
  where
    by : (b : Bool) → p x ≡ b → count_by p (x ∷ xs) ≡ with_one b (count_by p xs)
    by true e = counted-yes p x xs e
    by false e = counted-no p x xs e

-- ---- nothing noted

pub Stands-none : (n : List ℕ) (w : Window) → w.invocations.moments ≡ [] → w.fires.moments ≡ [] → w.running ≡ 0 → Stands n w []
Stands-none n w a b c = record {
  invoked = λ now le. rw a refl;
  fired = λ now le. rw b refl;
  running = c;
  ended = omega arith;
  invoked_rise = rw a tt;
  invoked_up_to = rw a tt;
  fired_rise = rw b tt;
  fired_up_to = rw b tt;
}

-- ---- a note that is of another namespace

pub Stands-other : (n : List ℕ) (w : Window) (note : Note) (notes : Notes)
    → ((now : ℕ) → is_recent n now note ≡ false) → ((now : ℕ) → is_recent_fire n now note ≡ false) → is_invoked n note ≡ false → is_ended n note ≡ false
    → Stands n w notes → Stands n w (note ∷ notes)
Stands-other n w note notes r f i e h =
    let le : latest notes ≤ latest (note ∷ notes) = omega arith in
    record {
      invoked = λ now up. h.invoked now (omega arith) ∙ sym (counted-no (is_recent n now) note notes (r now));
      fired = λ now up. h.fired now (omega arith) ∙ sym (counted-no (is_recent_fire n now) note notes (f now));
      running = omega (arith, h.running, counted-no (is_invoked n) note notes i, counted-no (is_ended n) note notes e);
      ended = omega (arith, h.ended, counted-no (is_invoked n) note notes i, counted-no (is_ended n) note notes e);
      invoked_rise = h.invoked_rise;
      invoked_up_to = AllUpTo-more _ _ _ le h.invoked_up_to;
      fired_rise = h.fired_rise;
      fired_up_to = AllUpTo-more _ _ _ le h.fired_up_to;
    }

other-invoked : (n other : List ℕ) (w : Window) (at : ℕ) (notes : Notes) → other ≢ n → Stands other w notes → Stands other w (invoked n at ∷ notes)
other-invoked n other w at notes ne h =
    let no = another n other ne in
    Stands-other other w (invoked n at) notes (λ now. rw no refl) (λ now. refl) no refl h

other-fired : (n other : List ℕ) (w : Window) (at : ℕ) (notes : Notes) → other ≢ n → Stands other w notes → Stands other w (fired n at ∷ notes)
other-fired n other w at notes ne h =
    let no = another n other ne in
    Stands-other other w (fired n at) notes (λ now. refl) (λ now. rw no refl) refl refl h

other-ended : (n other : List ℕ) (w : Window) (notes : Notes) → other ≢ n → Stands other w notes → Stands other w (ended n ∷ notes)
other-ended n other w notes ne h =
    let no = another n other ne in
    Stands-other other w (ended n) notes (λ now. refl) (λ now. refl) refl no h

-- ---- a note of this namespace

-- what a queue is after one more moment
pub record Adds (at : ℕ) (old new : List ℕ) : Type 0 where
  pub counts : (now : ℕ) → at ≤ now → count_by (counts_at now) new ≡ with_one (counts_at now at) (count_by (counts_at now) old)
  pub order : Rise old → AllUpTo at old → Rise new
  pub latest : AllUpTo at old → AllUpTo at new

pub Stands-invoked : (n : List ℕ) (w v : Window) (at : ℕ) (notes : Notes) → latest notes ≤ at → Adds at w.invocations.moments v.invocations.moments → v.fires.moments ≡ w.fires.moments → v.running ≡ w.running + 1
    → Stands n w notes → Stands n v (invoked n at ∷ notes)
Stands-invoked n w v at notes le a f r h =
    let up : latest (invoked n at ∷ notes) ≡ at = omega arith in
    let here : AllUpTo at w.invocations.moments = AllUpTo-more _ _ _ le h.invoked_up_to in
    let yes : is_invoked n (invoked n at) ≡ true = same n in
    record {
      invoked = λ now later.
          a.counts now (omega arith)
          ∙ (ap (with_one (counts_at now at)) (h.invoked now (omega arith))
          ∙ (ap (λ (b : Bool). with_one b (minute notes n now)) (sym (ap (λ (b : Bool). b && counts_at now at) yes)) ∙ sym (with-one (is_recent n now) (invoked n at) notes)));
      fired = λ now later. ap (count_by (counts_at now)) f ∙ (h.fired now (omega arith) ∙ sym (counted-no (is_recent_fire n now) (invoked n at) notes refl));
      running = omega (arith, r, h.running, h.ended, counted-yes (is_invoked n) (invoked n at) notes yes, counted-no (is_ended n) (invoked n at) notes refl);
      ended = omega (arith, h.ended, counted-yes (is_invoked n) (invoked n at) notes yes, counted-no (is_ended n) (invoked n at) notes refl);
      invoked_rise = a.order h.invoked_rise here;
      invoked_up_to = subst (λ m. AllUpTo m v.invocations.moments) (sym up) (a.latest here);
      fired_rise = subst Rise (sym f) h.fired_rise;
      fired_up_to = subst (AllUpTo (latest (invoked n at ∷ notes))) (sym f) (AllUpTo-more _ _ _ (omega arith) h.fired_up_to);
    }

pub Stands-fired : (n : List ℕ) (w v : Window) (at : ℕ) (notes : Notes) → latest notes ≤ at → Adds at w.fires.moments v.fires.moments → v.invocations.moments ≡ w.invocations.moments → v.running ≡ w.running
    → Stands n w notes → Stands n v (fired n at ∷ notes)
Stands-fired n w v at notes le a f r h =
    let up : latest (fired n at ∷ notes) ≡ at = omega arith in
    let here : AllUpTo at w.fires.moments = AllUpTo-more _ _ _ le h.fired_up_to in
    let yes : bytes_eq n n ≡ true = same n in
    record {
      invoked = λ now later. ap (count_by (counts_at now)) f ∙ (h.invoked now (omega arith) ∙ sym (counted-no (is_recent n now) (fired n at) notes refl));
      fired = λ now later.
          a.counts now (omega arith)
          ∙ (ap (with_one (counts_at now at)) (h.fired now (omega arith))
          ∙ (ap (λ (b : Bool). with_one b (fires notes n now)) (sym (ap (λ (b : Bool). b && counts_at now at) yes)) ∙ sym (with-one (is_recent_fire n now) (fired n at) notes)));
      running = omega (arith, r, h.running, counted-no (is_invoked n) (fired n at) notes refl, counted-no (is_ended n) (fired n at) notes refl);
      ended = omega (arith, h.ended, counted-no (is_invoked n) (fired n at) notes refl, counted-no (is_ended n) (fired n at) notes refl);
      invoked_rise = subst Rise (sym f) h.invoked_rise;
      invoked_up_to = subst (AllUpTo (latest (fired n at ∷ notes))) (sym f) (AllUpTo-more _ _ _ (omega arith) h.invoked_up_to);
      fired_rise = a.order h.fired_rise here;
      fired_up_to = subst (λ m. AllUpTo m v.fires.moments) (sym up) (a.latest here);
    }

pub Stands-ended : (n : List ℕ) (w v : Window) (notes : Notes) → v.invocations.moments ≡ w.invocations.moments → v.fires.moments ≡ w.fires.moments → 0 < w.running → v.running ≡ w.running - 1
    → Stands n w notes → Stands n v (ended n ∷ notes)
Stands-ended n w v notes a f some r h =
    let yes : is_ended n (ended n) ≡ true = same n in
    record {
      invoked = λ now later. ap (count_by (counts_at now)) a ∙ (h.invoked now (omega arith) ∙ sym (counted-no (is_recent n now) (ended n) notes refl));
      fired = λ now later. ap (count_by (counts_at now)) f ∙ (h.fired now (omega arith) ∙ sym (counted-no (is_recent_fire n now) (ended n) notes refl));
      running = omega (arith, r, some, h.running, h.ended, counted-yes (is_ended n) (ended n) notes yes, counted-no (is_invoked n) (ended n) notes refl);
      ended = omega (arith, some, h.running, h.ended, counted-yes (is_ended n) (ended n) notes yes, counted-no (is_invoked n) (ended n) notes refl);
      invoked_rise = subst Rise (sym a) h.invoked_rise;
      invoked_up_to = subst (AllUpTo (latest (ended n ∷ notes))) (sym a) (AllUpTo-more _ _ _ (omega arith) h.invoked_up_to);
      fired_rise = subst Rise (sym f) h.fired_rise;
      fired_up_to = subst (AllUpTo (latest (ended n ∷ notes))) (sym f) (AllUpTo-more _ _ _ (omega arith) h.fired_up_to);
    }

-- the same moments and the same count
pub Stands-kept : (n : List ℕ) (w v : Window) (notes : Notes) → v.invocations.moments ≡ w.invocations.moments → v.fires.moments ≡ w.fires.moments → v.running ≡ w.running → Stands n w notes → Stands n v notes
Stands-kept n w v notes a f r h = record {
  invoked = λ now le. ap (count_by (counts_at now)) a ∙ h.invoked now le;
  fired = λ now le. ap (count_by (counts_at now)) f ∙ h.fired now le;
  running = r ∙ h.running;
  ended = h.ended;
  invoked_rise = subst Rise (sym a) h.invoked_rise;
  invoked_up_to = subst (AllUpTo (latest notes)) (sym a) h.invoked_up_to;
  fired_rise = subst Rise (sym f) h.fired_rise;
  fired_up_to = subst (AllUpTo (latest notes)) (sym f) h.fired_up_to;
}

-- ---- all windows, where that of one namespace was changed

pub all-stand : (n : List ℕ) (old new : ByText Window) (w : Window) (before after : Notes) → KeepsOthers n old new → window_of n new ≡ w → Stands n w after
    → ((other : List ℕ) (v : Window) → other ≢ n → Stands other v before → Stands other v after) → StandsAs old before → StandsAs new after
all-stand n old new w before after keep is here others h m = by (bytes_eq m n) refl
  where
    by : (b : Bool) → bytes_eq m n ≡ b → Stands m (window_of m new) after
    by true e =
        let eq : m ≡ n = (bytes_eq-Decides m n).0 e in
        subst (λ k. Stands k (window_of k new) after) (sym eq) (subst (λ v. Stands n v after) (sym is) here)
    by false e =
        let ne : m ≢ n = λ q. cc (e, (bytes_eq-Decides m n).1 q) in
        subst (λ v. Stands m v after) (sym (keep m ne)) (others m (window_of m old) ne (h m))

pub all-invoked : (n : List ℕ) (old new : ByText Window) (w : Window) (at : ℕ) (notes : Notes) → KeepsOthers n old new → window_of n new ≡ w → Stands n w (invoked n at ∷ notes) → StandsAs old notes → StandsAs new (invoked n at ∷ notes)
all-invoked n old new w at notes keep is here h = all-stand n old new w notes (invoked n at ∷ notes) keep is here (λ other v ne s. other-invoked n other v at notes ne s) h

pub all-fired : (n : List ℕ) (old new : ByText Window) (w : Window) (at : ℕ) (notes : Notes) → KeepsOthers n old new → window_of n new ≡ w → Stands n w (fired n at ∷ notes) → StandsAs old notes → StandsAs new (fired n at ∷ notes)
all-fired n old new w at notes keep is here h = all-stand n old new w notes (fired n at ∷ notes) keep is here (λ other v ne s. other-fired n other v at notes ne s) h

pub all-ended : (n : List ℕ) (old new : ByText Window) (w : Window) (notes : Notes) → KeepsOthers n old new → window_of n new ≡ w → Stands n w (ended n ∷ notes) → StandsAs old notes → StandsAs new (ended n ∷ notes)
all-ended n old new w notes keep is here h = all-stand n old new w notes (ended n ∷ notes) keep is here (λ other v ne s. other-ended n other v notes ne s) h

pub all-kept : (n : List ℕ) (old new : ByText Window) (w : Window) (notes : Notes) → KeepsOthers n old new → window_of n new ≡ w → Stands n w notes → StandsAs old notes → StandsAs new notes
all-kept n old new w notes keep is here h = all-stand n old new w notes notes keep is here (λ other v ne s. s) h

pub keeps-then : (n : List ℕ) (a b c : ByText Window) → KeepsOthers n a b → KeepsOthers n b c → KeepsOthers n a c
keeps-then n a b c h g other ne = g other ne ∙ h other ne

-- ---- a window put at its namespace

pub window-put : (n : List ℕ) (w : Window) (ws : ByText Window) → window_of n (with_value ws n w) ≡ w
window-put n w ws = ap or_none (value_at-same n w ws)

pub others-put : (n : List ℕ) (w : Window) (ws : ByText Window) → KeepsOthers n ws (with_value ws n w)
others-put n w ws other ne = ap or_none (value_at-other n other w ws ne)

-- ---- look-ups

pub found-window : (n k : List ℕ) (old inside : ByText Window) (w : Window) → k ≡ n → inside ≡ old → Some w ≡ value_at k inside → window_of n old ≡ w
found-window n k old inside w key view found =
    ap (λ (x : List ℕ). window_of x old) (sym key) ∙ (ap (window_of k) (sym view) ∙ ap or_none (sym found))

pub no-window : (n k : List ℕ) (old inside : ByText Window) → k ≡ n → inside ≡ old → None ≡ value_at k inside → window_of n old ≡ no_window
no-window n k old inside key view found =
    ap (λ (x : List ℕ). window_of x old) (sym key) ∙ (ap (window_of k) (sym view) ∙ ap or_none (sym found))

pub stands-at : (n : List ℕ) (ws : ByText Window) (w : Window) (notes : Notes) → window_of n ws ≡ w → StandsAs ws notes → Stands n w notes
stands-at n ws w notes is h = subst (λ (v : Window). Stands n v notes) is (h n)

-- ---- a window put back

pub closed-window : (n : List ℕ) (inside new : ByText Window) (w : Window) → new ≡ with_value inside n w → window_of n new ≡ w
closed-window n inside new w put = ap (window_of n) put ∙ window-put n w inside

pub closed-others : (n : List ℕ) (old inside new : ByText Window) (w : Window) → inside ≡ old → new ≡ with_value inside n w → KeepsOthers n old new
closed-others n old inside new w view put other ne = ap (window_of other) put ∙ (others-put n w inside other ne ∙ ap (window_of other) view)

-- ---- a window where there was none

pub Stands-fresh : (n : List ℕ) (w : Window) (notes : Notes) → w.invocations.moments ≡ [] → w.fires.moments ≡ [] → w.running ≡ 0 → Stands n no_window notes → Stands n w notes
Stands-fresh n w notes a f r h = Stands-kept n no_window w notes a f r h

pub fresh-room : (n f : ℕ) (w : Window) → w.running ≡ 0 → HasRoom n f no_window → HasRoom n f w
fresh-room n f w r h = record {
  invoked = omega (arith, h.invoked);
  fired = omega (arith, h.fired);
  counter = omega (arith, r, h.counter);
}

pub fresh-window : (n : List ℕ) (old : ByText Window) → value_at n old ≡ None → no_window ≡ window_of n old
fresh-window n old none = sym (ap or_none none)

-- a new window, which agrees with the notes wherever that of a namespace without one does
pub fresh-notes : (n : List ℕ) (old new : ByText Window) (w : Window) (notes : Notes) → value_at n old ≡ None → new ≡ with_value old n w → (Stands n no_window notes → Stands n w notes) → StandsAs old notes → StandsAs new notes
fresh-notes n old new w notes none put stands h =
    all-kept n old new w notes (closed-others n old old new w refl put) (closed-window n old new w put) (stands (subst (λ (v : Window). Stands n v notes) (sym (fresh-window n old none)) (h n))) h

pub put-at : (n k : List ℕ) (old inside new : ByText Window) (w : Window) → k ≡ n → inside ≡ old → new ≡ with_value inside k w → new ≡ with_value old n w
put-at n k old inside new w key view put = put ∙ (ap (λ (ws : ByText Window). with_value ws k w) view ∙ ap (λ (x : List ℕ). with_value old x w) key)
