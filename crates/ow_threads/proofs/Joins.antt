-- What one slot adds to the slots and the results of a join.
use Rattle.std.proofs.Common.{◌≡◌, ◌+◌, ◌-◌, ◌++◌, ◌∙◌, ◌∷◌, [], ℕ, suc, Bool, true, false, List, Some, None, nat_lt, refl, sym, ap, append_assoc, arith}
use Rattle.std.proofs.lemmas.Bool.Decides.{nat_tests}
use Rattle.std.proofs.lemmas.List.{append-nil}
use Rattle.ow_threads.specs.Slots.{after_join, task_due}
use Rattle.ow_threads.specs.Tasks.{AllEnd, joined, pending}

-- how many slots are to stay, before a slot and after it
pub record Staying (stays : Bool) (before now : ℕ) : Type 0 where
  pub none_before : stays ≡ false → before ≡ 0
  pub none_now : stays ≡ false → now ≡ 0
  pub one : stays ≡ true → before ≡ suc now

-- the slots numbered below `from` stay
pub staying : (number from : ℕ) → Staying (nat_lt number from) (from - number) (from - (number + 1))
staying number from = record {
  none_before = λ h. grind (arith, nat_tests);
  none_now = λ h. grind (arith, nat_tests);
  one = λ h. grind (arith, nat_tests);
}

-- what the slots become
pub joined_one : {T : Type 0} (stays : Bool) (before now : ℕ) (slot : T × Bool) (rest : List (T × Bool))
    → Staying stays before now → joined before (slot ∷ rest) ≡ after_join stays slot ∷ joined now rest
joined_one true before now slot rest counts = rw (counts.one refl) refl
joined_one false before now (task, is_joined) rest counts = rw (counts.none_before refl, counts.none_now refl) refl

-- which tasks are run, where this slot has none
pub pending_none : {T : Type 0} (stays : Bool) (before now : ℕ) (slot : T × Bool) (rest : List (T × Bool))
    → Staying stays before now → task_due stays slot ≡ None → pending before (slot ∷ rest) ≡ pending now rest
pending_none true before now slot rest counts due = rw (counts.one refl) refl
pending_none false before now (task, true) rest counts due = rw (counts.none_before refl, counts.none_now refl) refl
pending_none false before now (task, false) rest counts due = cc

-- and where it has one
pub pending_some : {T : Type 0} (stays : Bool) (before now : ℕ) (slot : T × Bool) (rest : List (T × Bool)) (task : T)
    → Staying stays before now → task_due stays slot ≡ Some task → pending before (slot ∷ rest) ≡ task ∷ pending now rest
pending_some true before now slot rest task counts due = cc
pending_some false before now (t, true) rest task counts due = cc
pending_some false before now (t, false) rest task counts due =
    let same : t ≡ task = cc in
    rw (counts.none_before refl, counts.none_now refl) (ap (λ u. u ∷ pending 0 rest) same)

-- one more task, and its result
pub all_end_snoc : {T D : Type 0} (ends : T → D → Type 0) (tasks : List T) (dones : List D) (task : T) (done : D)
    → AllEnd ends tasks dones → ends task done → AllEnd ends (tasks ++ task ∷ []) (dones ++ done ∷ [])
all_end_snoc ends [] [] task done all one = (one, tt)
all_end_snoc ends [] (d ∷ dones) task done all one = absurd all
all_end_snoc ends (t ∷ tasks) [] task done all one = absurd all
all_end_snoc ends (t ∷ tasks) (d ∷ dones) task done all one = (all.0, all_end_snoc ends tasks dones task done all.1 one)

-- the rest of all the slots is still to be joined: what the other slots became, and the results of their tasks that were run
pub record Midway {T D : Type 0} (ends : T → D → Type 0) (from number : ℕ) (all rest slots : List (T × Bool)) (dones : List D) : Type 0 where
  pub became : joined from all ≡ slots ++ joined (from - number) rest
  pub run : List T
  pub all_end : AllEnd ends run dones
  pub due : pending from all ≡ run ++ pending (from - number) rest

-- before the first slot
pub midway_start : {T D : Type 0} (ends : T → D → Type 0) (from : ℕ) (all : List (T × Bool)) → Midway ends from 0 all all [] []
midway_start ends from all =
    let none : from - 0 ≡ from = omega arith in
    record {
      became = rw none refl;
      run = [];
      all_end = tt;
      due = rw none refl;
    }

-- after a slot that has no task to run
pub midway_none : {T D : Type 0} (ends : T → D → Type 0) (from number : ℕ) (all rest slots : List (T × Bool)) (dones : List D) (slot : T × Bool)
    → Midway ends from number all (slot ∷ rest) slots dones → task_due (nat_lt number from) slot ≡ None
    → Midway ends from (number + 1) all rest (slots ++ after_join (nat_lt number from) slot ∷ []) dones
midway_none ends from number all rest slots dones slot was none =
    let stays = nat_lt number from in
    let before = from - number in
    let now = from - (number + 1) in
    record {
      became = rw append_assoc (was.became ∙ ap (λ s. slots ++ s) (joined_one stays before now slot rest (staying number from)));
      run = was.run;
      all_end = was.all_end;
      due = was.due ∙ ap (λ s. was.run ++ s) (pending_none stays before now slot rest (staying number from) none);
    }

-- after a slot that has one
pub midway_some : {T D : Type 0} (ends : T → D → Type 0) (from number : ℕ) (all rest slots : List (T × Bool)) (dones : List D) (slot : T × Bool) (task : T) (done : D)
    → Midway ends from number all (slot ∷ rest) slots dones → task_due (nat_lt number from) slot ≡ Some task → ends task done
    → Midway ends from (number + 1) all rest (slots ++ after_join (nat_lt number from) slot ∷ []) (dones ++ done ∷ [])
midway_some ends from number all rest slots dones slot task done was some one =
    let stays = nat_lt number from in
    let before = from - number in
    let now = from - (number + 1) in
    record {
      became = rw append_assoc (was.became ∙ ap (λ s. slots ++ s) (joined_one stays before now slot rest (staying number from)));
      run = was.run ++ task ∷ [];
      all_end = all_end_snoc ends was.run dones task done was.all_end one;
      due = rw append_assoc (was.due ∙ ap (λ s. was.run ++ s) (pending_some stays before now slot rest task (staying number from) some));
    }

-- after the last slot
pub midway_end : {T D : Type 0} (ends : T → D → Type 0) (from number : ℕ) (all slots : List (T × Bool)) (dones : List D)
    → Midway ends from number all [] slots dones → AllEnd ends (pending from all) dones × (slots ≡ joined from all)
midway_end ends from number all slots dones was = (rw (was.due, append-nil) was.all_end, sym (append-nil slots) ∙ sym was.became)
