-- A call asks a store for one commit at most.
use Rattle.std.proofs.Common.{◌≡◌, ◌∙◌, ◌⊎◌, ◌++◌, ℕ, List, [], ◌∷◌, Option, Some, None, length, inl, inr, refl, sym, ap, subst, arith}
use Rattle.std.proofs.lemmas.List.{length-append}
use Rattle.ow_traits.specs.Telling.{Attempt, Telling, made, unmade, with_attempt}
use Rattle.ow_traits.specs.declared.change_list.Change.{Change}
use Rattle.ow_decide.specs.Decision.{commits}
use Rattle.ow_decide.specs.declared.events.Event.{Event}
use Rattle.ow_hall.specs.Comes.{Answers, Comes, Fails, HallView, Holds, KeptRows, Outcome, Refuses, Stays, Wants, decided, kept_after, old_kept_after}
use Rattle.ow_hall.specs.Stops.{LeaveBoth, StopsWell, changes_made, old_rows_by, rows_by}

module _ {P : Type 0} (telling : P → Telling) where
  -- a store was asked to commit nothing, or once, and its rows and its old rows are as it answered
  abbrev AsksOnce : P → P → Type 0
  AsksOnce old new = (new ≡ old)
      ⊎ ((attempt : Attempt) × ((telling new).commits ≡ with_attempt attempt (telling old).commits) × ((telling new).rows ≡ kept_after (changes_made attempt) (telling old).rows)
      × ((telling new).old_rows ≡ old_kept_after (changes_made attempt) (telling old).old_rows))

  none_changed : (rows : KeptRows) → rows ≡ kept_after [] rows
  none_changed None = refl
  none_changed (Some rows) = refl

  none_retired : (old_rows : KeptRows) → old_rows ≡ old_kept_after [] old_rows
  none_retired None = refl
  none_retired (Some old_rows) = refl

  refuses_once : (changes : List Change) (old new : P) → Refuses telling changes old new → AsksOnce old new
  refuses_once changes old new refuses = inr (unmade changes, refuses.commits, refuses.rows ∙ none_changed (telling old).rows, refuses.old_rows ∙ none_retired (telling old).old_rows)

  holds_once : (changes : List Change) (old new : P) → Holds telling changes old new → AsksOnce old new
  holds_once [] old new same = inl same
  holds_once (c ∷ cs) old new makes = inr (made (c ∷ cs), makes.commits, makes.rows, makes.old_rows)

  stays_once : (changes : List Change) (old new : P) → Stays telling changes old new → AsksOnce old new
  stays_once [] old new same = inl same
  stays_once (c ∷ cs) old new (inl same) = inl same
  stays_once (c ∷ cs) old new (inr refuses) = refuses_once (c ∷ cs) old new refuses

  comes_once : (old new : HallView P) (at : ℕ) (event : Event) (o : Outcome) → Comes telling old new at event o → AsksOnce old.store new.store
  comes_once old new at event (Answers t) comes = holds_once (commits (decided old at event)) old.store new.store comes.3
  comes_once old new at event Wants comes = stays_once (commits (decided old at event)) old.store new.store comes.2
  comes_once old new at event Fails comes = refuses_once (commits (decided old at event)) old.store new.store comes.3

  -- of one commit, or none, each beginning is none of it or all
  one_of : (before later asked : List Attempt) (attempt : Attempt) (rows old_rows : KeptRows) → attempt ∷ before ≡ later ++ (asked ++ before)
      → ((rows_by asked rows ≡ rows) × (old_rows_by asked old_rows ≡ old_rows))
      ⊎ ((rows_by asked rows ≡ kept_after (changes_made attempt) rows) × (old_rows_by asked old_rows ≡ old_kept_after (changes_made attempt) old_rows))
  one_of before later [] attempt rows old_rows is = inl (refl, refl)
  one_of before [] (a ∷ []) attempt rows old_rows is =
      let same : a ≡ attempt = cc in
      inr (ap (λ (x : Attempt). kept_after (changes_made x) rows) same, ap (λ (x : Attempt). old_kept_after (changes_made x) old_rows) same)
  one_of before [] (a ∷ (b ∷ asked)) attempt rows old_rows is =
      let long = ap length is in
      let size = length-append asked before in
      absurd (omega (arith, long, size))
  one_of before (l ∷ later) (a ∷ asked) attempt rows old_rows is =
      let long = ap length is in
      let size = length-append later ((a ∷ asked) ++ before) in
      let rest = length-append asked before in
      absurd (omega (arith, long, size, rest))

  none_of : (before later asked : List Attempt) (rows old_rows : KeptRows) → before ≡ later ++ (asked ++ before) → (rows_by asked rows ≡ rows) × (old_rows_by asked old_rows ≡ old_rows)
  none_of before later [] rows old_rows is = (refl, refl)
  none_of before later (a ∷ asked) rows old_rows is =
      let long = ap length is in
      let size = length-append later ((a ∷ asked) ++ before) in
      let rest = length-append asked before in
      absurd (omega (arith, long, size, rest))

  some_is : (x y : List Attempt) (o : Option (List Attempt)) → o ≡ Some x → o ≡ Some y → x ≡ y
  some_is x y o first second = cc

  with_some : (attempt : Attempt) (o : Option (List Attempt)) (before : List Attempt) → o ≡ Some before → with_attempt attempt o ≡ Some (attempt ∷ before)
  with_some attempt o before is = ap (with_attempt attempt) is

  both : (asked : List Attempt) (old new : P) (attempt : Attempt) → (telling new).rows ≡ kept_after (changes_made attempt) (telling old).rows
      → (telling new).old_rows ≡ old_kept_after (changes_made attempt) (telling old).old_rows
      → ((rows_by asked (telling old).rows ≡ kept_after (changes_made attempt) (telling old).rows) × (old_rows_by asked (telling old).old_rows ≡ old_kept_after (changes_made attempt) (telling old).old_rows))
      → LeaveBoth asked (telling old) (telling new)
  both asked old new attempt rows_are old_rows_are made = (made.0 ∙ sym rows_are, made.1 ∙ sym old_rows_are)

  stops : (old new : P) → AsksOnce old new → StopsWell telling old new
  stops old new (inl same) = λ before after later asked old_is new_is whole.
      let stays = some_is after before (telling old).commits (sym (ap (λ (s : P). (telling s).commits) same) ∙ new_is) old_is in
      inl (none_of before later asked (telling old).rows (telling old).old_rows (sym stays ∙ whole))
  stops old new (inr (attempt, commits_are, rows_are, old_rows_are)) = λ before after later asked old_is new_is whole.
      let more = some_is (attempt ∷ before) after (telling new).commits (commits_are ∙ with_some attempt (telling old).commits before old_is) new_is in
      elim (one_of before later asked attempt (telling old).rows (telling old).old_rows (more ∙ whole)) [
        | inl none ↦ inl none
        | inr made ↦ inr (both asked old new attempt rows_are old_rows_are made)
      ]

  pub call_stops : (old new : HallView P) (at : ℕ) (event : Event) (o : Outcome) → Comes telling old new at event o → StopsWell telling old.store new.store
  call_stops old new at event o comes = stops old.store new.store (comes_once old new at event o comes)
