-- What is done at the office's own fires is what is decided.
use Rattle.std.proofs.Common.{◌≡◌, ◌++◌, ◌+◌, ◌<◌, ◌∙◌, ◌-◌, ◌^◌, ℕ, Bool, true, false, if◌then◌else◌, List, [], ◌∷◌, Option, Some, None, Result, Ok, Err, min, refl, sym, ap, arith, subst}
use Rattle.std.specs.Prelude.{◌≢◌, ◌==◌, nat_lt}
use Rattle.std.specs.Option.{option_eq}
use Rattle.std.specs.Str.{bytes_eq}
use Rattle.std.proofs.lemmas.Bool.Decides.{nat_tests}
use Rattle.std.proofs.lemmas.Bool.{le-ltb, lt-ltb, ltb-false, ltb-true}
use Rattle.std.proofs.lemmas.Slice.Eq.{bytes_eq-Decides}
use Rattle.ow_value.specs.Value.{Pairs}
use Rattle.ow_names.specs.declared.full.FullName.{FullName}
use Rattle.ow_entity.specs.declared.rules.Rule.{Rule}
use Rattle.ow_entity.specs.declared.triggers.Trigger.{Trigger}
use Rattle.ow_records.specs.declared.fires.Fire.{Fire}
use Rattle.ow_row_text.specs.Bytes.{bytes_of}
use Rattle.ow_row_text.specs.declared.item.Item.TheVariants as rows_items
use Rattle.ow_row_text.specs.declared.item.Note.{Note}
use Rattle.ow_floor.specs.Trace.{Trace}
use Rattle.ow_commits.specs.Commits.{put_of}
use Rattle.ow_commits.specs.Keeping.{FollowingView, StandsFollowing}
use Rattle.ow_commits.specs.Kept.{OthersView, kept, others_bytes}
use Rattle.ow_commits.specs.Noting.{note_of, noting, with_note}
use Rattle.ow_tables.specs.Joined.{trigger_at}
use Rattle.ow_tables.specs.Rows.{standing}
use Rattle.ow_tenant.specs.Tenants.{limits_of, number_of}
use Rattle.ow_traits.specs.Changes.{changed}
use Rattle.ow_traits.specs.declared.change_list.Change.{Change}
use Rattle.ow_counts.specs.Counts.{fire_admitted}
use Rattle.ow_counts.specs.declared.refusal.LimitRefusal.{LimitRefusal}
use Rattle.ow_http.specs.Steps.{◌>>=◌}
use Rattle.ow_http.specs.declared.reason.Reason.{Reason}
use Rattle.ow_reads.specs.Reasons.{not_found}
use Rattle.ow_reads.specs.Steps.{or_else, unless}
use Rattle.ow_rules.specs.Fired.{fired}
use Rattle.ow_decide.specs.Decision.{KeepsNote, OtherChange, Same, items_changes, others_after, with_others}
use Rattle.ow_decide.specs.Firing.{shot_items}
use Rattle.ow_decide.specs.Making.{Carries, IsMade, IsOthersStep, admits_made}
use Rattle.ow_decide.specs.OfficeFiring.{IsNoteStep, IsNoted, Shot, fired_told, note_change, note_change_by, noted_step, office_decision, office_made, office_quiet, office_rules, office_shot, own_plan, quiet_shot, shot_refused}
use Rattle.ow_decide.specs.Reasons.{store_full}
use Rattle.ow_decide.specs.Sight.{Sight, is_store_full, or_limit, room_for}
use Rattle.ow_decide.specs.Decision.{Decision}
use Rattle.ow_decide.specs.declared.commits.Made.{Made}
use Rattle.ow_decide.specs.declared.office_steps.Noted.{Noted}
use Rattle.ow_decide.specs.declared.step.OthersStep.{OthersStep}
use Rattle.ow_decide.specs.declared.step.OthersStep.TheVariants as others_steps
use Rattle.ow_decide.proofs.PlanLaws.{then_then}

-- ---- how deep parameters nest

too_deep_by : (m d n : ℕ) (b : Bool) → nat_lt m d ≡ b → n ≡ min d (2 ^ 32 - 1) → m < 2 ^ 32 - 1 → nat_lt m n ≡ b
too_deep_by m d n true deep is small = lt-ltb m n (let more = ltb-true m d deep in omega (arith, more, is, small))
too_deep_by m d n false shallow is small = le-ltb m n (let less = ltb-false m d shallow in omega (arith, less, is))

pub too_deep_so : (m d n : ℕ) → n ≡ min d (2 ^ 32 - 1) → m < 2 ^ 32 - 1 → nat_lt m n ≡ nat_lt m d
too_deep_so m d n is small = too_deep_by m d n (nat_lt m d) refl is small

-- ---- the note

-- a note that is kept already stays as it is
module _ (n : Note) where
  same_by : (m : Note) (ms : List Note) (b : Bool) → bytes_eq n.key m.key ≡ b → (if b then Some m.value else note_of n.key ms) ≡ Some n.value → (note_of n.key ms ≡ Some n.value → with_note n ms ≡ ms)
      → (if b then n ∷ ms else m ∷ with_note n ms) ≡ m ∷ ms
  same_by m ms true eq is rest =
      let keys : n.key ≡ m.key = (bytes_eq-Decides n.key m.key).0 eq in
      let values : m.value ≡ n.value = cc in
      ap (λ (x : Note). x ∷ ms) (ap (λ (k : List ℕ). record { key = k; value = n.value }) keys ∙ ap (λ (v : ℕ). record { key = m.key; value = v }) (sym values))
  same_by m ms false eq is rest = ap (λ (xs : List Note). m ∷ xs) (rest is)

  pub same_notes : (ns : List Note) → note_of n.key ns ≡ Some n.value → with_note n ns ≡ ns
  same_notes [] is = cc
  same_notes (m ∷ ms) is = same_by m ms (bytes_eq n.key m.key) refl is (same_notes ms)

pub same_noting : (n : Note) (o : OthersView) → note_of n.key o.notes ≡ Some n.value → noting n o ≡ o
same_noting n o is = ap (λ (ns : List Note). record o { notes = ns }) (same_notes n o.notes is)

same_test : (a b : ℕ) → a ≡ b → (a == b) ≡ true
same_test a b is = grind (arith, nat_tests)

test_same : (a b : ℕ) → (a == b) ≡ true → a ≡ b
test_same a b is = grind (arith, nat_tests)

-- whether a number is kept
pub kept_by : (o : Option ℕ) (v : ℕ) → option_eq ◌==◌ o (Some v) ≡ true → o ≡ Some v
kept_by None v is = cc
kept_by (Some k) v is = ap Some (test_same k v is)

pub other_by : (o : Option ℕ) (v : ℕ) → option_eq ◌==◌ o (Some v) ≡ false → o ≢ Some v
other_by None v is same = cc
other_by (Some k) v is same = let here : k ≡ v = cc in let yes : (k == v) ≡ true = same_test k v here in cc

-- such a note is no change
pub same_change : (n : Note) (o : OthersView) → note_of n.key o.notes ≡ Some n.value → note_change o n ≡ Same
same_change n o is = ap (note_change_by n) is ∙ ap (λ (b : Bool). if b then Same else KeepsNote n) (same_test n.value n.value refl)

change_other : (n : Note) (value : ℕ) (b : Bool) → (value == n.value) ≡ b → Some value ≢ Some n.value → (if b then Same else KeepsNote n) ≡ KeepsNote n
change_other n value true eq other = absurd (other (ap Some (test_same value n.value eq)))
change_other n value false eq other = refl

change_old : (n : Note) (old : Option ℕ) → old ≢ Some n.value → note_change_by n old ≡ KeepsNote n
change_old n None other = refl
change_old n (Some value) other = change_other n value (value == n.value) refl other

pub new_change : (n : Note) (o : OthersView) → note_of n.key o.notes ≢ Some n.value → note_change o n ≡ KeepsNote n
new_change n o other = change_old n (note_of n.key o.notes) other

-- what was made, where the note is kept already
pub noted_same : (m : Made) (notes : List Note) (n : Note) (S : Sight) (items : Trace) → note_of n.key notes ≡ Some n.value → IsMade m items S → S.others.notes ≡ notes
    → IsNoted (record { moves = m.moves; commit = m.commit; others = None }) items n S
noted_same m notes n S items is made are =
    let so : note_of n.key S.others.notes ≡ Some n.value = ap (note_of n.key) are ∙ is in
    let change : note_change S.others n ≡ Same = same_change n S.others so in
    record {
      moves = made.moves;
      changes = made.changes ∙ ap (λ (o : OtherChange). with_others o (items_changes items)) (sym change);
      bytes = made.bytes ∙ ap (λ (o : OthersView). others_bytes o + bytes_of (changed (items_changes items) (kept S.rows S.trace))) (sym (same_noting n S.others so));
      stands = subst (λ (o : OtherChange). StandsFollowing m.commit (others_after o S.others) S.rows (items ++ S.trace)) (sym change) made.stands;
      others = subst (λ (o : OtherChange). IsNoteStep None o) (sym change) (refl, refl);
    }

-- and where it isn't
pub noted_new : (m : Made) (notes : List Note) (n : Note) (c : FollowingView) (S : Sight) (items : Trace) → note_of n.key notes ≢ Some n.value → c.changes ≡ m.commit.changes ++ put_of (rows_items.Note n) ∷ []
    → ((o : OthersView) (rest : ℕ) → m.commit.bytes ≡ others_bytes o + rest → note_of n.key notes ≡ note_of n.key o.notes → c.bytes ≡ others_bytes (noting n o) + rest)
    → StandsFollowing c (noting n S.others) S.rows (items ++ S.trace) → IsMade m items S → S.others.notes ≡ notes
    → IsNoted (record { moves = m.moves; commit = c; others = Some (others_steps.KeepsNote n) }) items n S
noted_new m notes n c S items other changes bytes stands made are =
    let change : note_change S.others n ≡ KeepsNote n = new_change n S.others (λ same. other (sym (ap (note_of n.key) are) ∙ same)) in
    record {
      moves = made.moves;
      changes = changes ∙ (ap (λ (cs : List Change). cs ++ put_of (rows_items.Note n) ∷ []) made.changes ∙ ap (λ (o : OtherChange). with_others o (items_changes items)) (sym change));
      bytes = bytes S.others (bytes_of (changed (items_changes items) (kept S.rows S.trace))) made.bytes (ap (note_of n.key) (sym are));
      stands = subst (λ (o : OtherChange). StandsFollowing c (others_after o S.others) S.rows (items ++ S.trace)) (sym change) stands;
      others = subst (λ (o : OtherChange). IsNoteStep (Some (others_steps.KeepsNote n)) o) (sym change) refl;
    }

-- ---- a step

others_step : (c : FollowingView) (o : Option OthersStep) (change : OtherChange) (d : Decision) (S : Sight) → d.others ≡ change → IsNoteStep o change → IsOthersStep (Some c) o d S
others_step c o (KeepsNote n) d S is step = subst (λ (x : Option OthersStep). IsOthersStep (Some c) x d S) (sym step) is
others_step c o change d S is step = subst (λ (x : Option OthersStep). IsOthersStep (Some c) x d S) (sym step.0) (is ∙ step.1)

-- what was made with its note is what is decided of a shot
pub noted_carries : (x : Noted) (n : Note) (S : Sight) (shot : Shot) → IsNoted x shot.items n S → Carries (noted_step x (fired_told shot.id)) (office_decision S.others n (Ok shot)) S
noted_carries x n S shot noted = record {
  told = refl;
  changes = refl;
  waits = refl;
  moves = noted.moves;
  commit = record { changes = noted.changes; stands = noted.stands };
  others = others_step x.commit x.others (note_change S.others n) (office_decision S.others n (Ok shot)) S refl noted.others;
}

pub refused_carries : (n : Note) (S : Sight) (reason : Reason) → Carries (shot_refused reason) (office_decision S.others n (Err reason)) S
refused_carries n S reason = record { told = refl; changes = refl; waits = refl; moves = refl; commit = (refl, (tt, refl)); others = refl }

-- ---- a fire without an active rule

pub quiet_so : (S : Sight) (n : Note) (bytes : ℕ) (b : Bool) → bytes ≡ others_bytes (noting n S.others) + bytes_of (kept S.rows S.trace) → is_store_full bytes ≡ b
    → (unless b store_full >>= (λ (room : Unit {0}). Ok quiet_shot)) ≡ office_quiet S n
quiet_so S n bytes b is full =
    ap (λ (x : Bool). unless x store_full >>= (λ (room : Unit {0}). Ok quiet_shot)) (sym full)
    ∙ ap (λ (m : ℕ). unless (is_store_full m) store_full >>= (λ (room : Unit {0}). Ok quiet_shot)) is

-- ---- a fire of some rules

pub made_so : (S : Sight) (n : Note) (f : Fire) (rs : List Rule) (bytes : ℕ) (limit : Result (Unit {0}) LimitRefusal) (r : Result (Unit {0}) Reason)
    → bytes ≡ others_bytes (noting n S.others) + bytes_of (changed (items_changes (shot_items S f rs)) (kept S.rows S.trace)) → limit ≡ fire_admitted S.trace f.namespace (limits_of f.namespace S.tenants) S.moment
    → r ≡ admits_made bytes limit → (r >>= (λ (u : Unit {0}). Ok (record { items = shot_items S f rs; id = Some f.id }))) ≡ office_made S n rs f
made_so S n f rs bytes limit r is allowed same =
    let done : Unit {0} → Result Shot Reason = λ u. Ok (record { items = shot_items S f rs; id = Some f.id }) in
    ap (λ (x : Result (Unit {0}) Reason). x >>= done) same
    ∙ (then_then (unless (is_store_full bytes) store_full) (λ (room : Unit {0}). or_limit limit) done
    ∙ (ap (λ (m : ℕ). unless (is_store_full m) store_full >>= (λ (room : Unit {0}). or_limit limit >>= done)) is
    ∙ ap (λ (l : Result (Unit {0}) LimitRefusal). unless (is_store_full (others_bytes (noting n S.others) + bytes_of (changed (items_changes (shot_items S f rs)) (kept S.rows S.trace)))) store_full >>= (λ (room : Unit {0}). or_limit l >>= done)) allowed))

-- ---- the whole fire

abbrev shot_by : Sight → FullName → Trigger → Pairs → Note → Option ℕ → Result Shot Reason
shot_by S name t given n number = or_else number not_found >>= (λ (m : ℕ). office_rules S name m t given n (fired S.rows name))

abbrev shot_at : Sight → FullName → Pairs → Note → Option Trigger → Result Shot Reason
shot_at S name given n trigger = or_else trigger not_found >>= (λ (t : Trigger). shot_by S name t given n (number_of name.namespace S.tenants))

abbrev shot_in : Sight → FullName → Pairs → Note → Result (Unit {0}) Reason → Result Shot Reason
shot_in S name given n room = room >>= (λ (u : Unit {0}). shot_at S name given n (trigger_at (standing S.rows) name))

-- the outcome of a fire of these rules, which are those of the trigger
pub own_rules_so : (S : Sight) (name : FullName) (given : Pairs) (n : Note) (t : Trigger) (number : ℕ) (rules : List Rule) → Ok tt ≡ room_for S 0 → trigger_at (standing S.rows) name ≡ Some t
    → number_of name.namespace S.tenants ≡ Some number → rules ≡ fired S.rows name → office_rules S name number t given n rules ≡ office_shot S name given n
own_rules_so S name given n t number rules room there numbered are =
    ap (office_rules S name number t given n) are
    ∙ (ap (shot_by S name t given n) (sym numbered) ∙ (ap (shot_at S name given n) (sym there) ∙ ap (shot_in S name given n) room))

pub own_no_room : (S : Sight) (name : FullName) (given : Pairs) (n : Note) (reason : Reason) → Err reason ≡ room_for S 0 → Err reason ≡ office_shot S name given n
own_no_room S name given n reason full = ap (shot_in S name given n) full

pub own_no_trigger : (S : Sight) (name : FullName) (given : Pairs) (n : Note) → Ok tt ≡ room_for S 0 → trigger_at (standing S.rows) name ≡ None → Err not_found ≡ office_shot S name given n
own_no_trigger S name given n room none = ap (shot_at S name given n) (sym none) ∙ ap (shot_in S name given n) room

pub own_no_number : (S : Sight) (name : FullName) (given : Pairs) (n : Note) (t : Trigger) → Ok tt ≡ room_for S 0 → trigger_at (standing S.rows) name ≡ Some t → number_of name.namespace S.tenants ≡ None
    → Err not_found ≡ office_shot S name given n
own_no_number S name given n t room there none = ap (shot_by S name t given n) (sym none) ∙ (ap (shot_at S name given n) (sym there) ∙ ap (shot_in S name given n) room)

pub own_some_rules : (S : Sight) (name : FullName) (number : ℕ) (t : Trigger) (given : Pairs) (n : Note) (rules : List Rule) → rules ≢ []
    → (own_plan S name number t given >>= office_made S n rules) ≡ office_rules S name number t given n rules
own_some_rules S name number t given n [] some = absurd (some refl)
own_some_rules S name number t given n (r ∷ rs) some = refl

pub own_no_rules : (S : Sight) (name : FullName) (number : ℕ) (t : Trigger) (given : Pairs) (n : Note) (rules : List Rule) → rules ≡ [] → office_quiet S n ≡ office_rules S name number t given n rules
own_no_rules S name number t given n rules none = ap (office_rules S name number t given n) (sym none)
