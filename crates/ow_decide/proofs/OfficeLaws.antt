-- The office's own fires: their items are a chain as those of a request are, and their note is all that changes beside them.
use Rattle.std.proofs.Common.{◌≡◌, ◌≤◌, ℕ, Bool, true, false, List, [], ◌∷◌, Option, Some, None, Result, Ok, Err, IfOk, refl, sym, inr, if◌then◌else◌}
use Rattle.std.proofs.lemmas.Bool.{ltb-false}
use Rattle.std.specs.Prelude.{◌==◌, nat_lt}
use Rattle.ow_value.specs.Nesting.{most_nested}
use Rattle.ow_value.specs.Value.{Pairs, depth, members_of, object}
use Rattle.ow_names.specs.declared.full.FullName.{FullName}
use Rattle.ow_entity.specs.declared.rules.Rule.{Rule}
use Rattle.ow_entity.specs.declared.triggers.Trigger.{Trigger}
use Rattle.ow_records.specs.declared.fires.Fire.{Fire}
use Rattle.ow_row_text.specs.declared.item.Note.{Note}
use Rattle.ow_floor.specs.Trace.{Trace}
use Rattle.ow_commits.specs.Kept.{OthersView}
use Rattle.ow_commits.specs.Noting.{note_of}
use Rattle.ow_tenant.specs.Tenants.{limits_of}
use Rattle.ow_counts.specs.Counts.{fire_admitted}
use Rattle.ow_http.specs.declared.reason.Reason.{Reason}
use Rattle.ow_reads.specs.Steps.{unless}
use Rattle.ow_reads.specs.Tenants.{office}
use Rattle.ow_rules.specs.Fired.{fired}
use Rattle.ow_decide.specs.Decision.{KeepsNote, Same, held, held_by, items_changes}
use Rattle.ow_decide.specs.Firing.{number_for, shot_items, trigger_for, within_fires}
use Rattle.ow_decide.specs.OfficeFiring.{Shot, note_change, note_change_by, noted_room, office_decision, office_made, office_quiet, office_rules, office_shot, own_plan, shallow_params}
use Rattle.ow_decide.specs.Reasons.{too_deep}
use Rattle.ow_decide.specs.Sight.{Sight, room_for}
use Rattle.ow_decide.proofs.AcceptLaws.{IsChain}
use Rattle.ow_decide.proofs.CalleeLaws.{limit_ok}
use Rattle.ow_decide.proofs.MadeLaws.{shot_owed, shot_own}
use Rattle.ow_decide.proofs.Results.{then_from, then_ok}
use Rattle.ow_decide.proofs.ShotLaws.{IsReady, IsThere, plan_ready, shot_steps, trigger_there}

-- ---- the items

-- those of a fire, or none, are a chain
abbrev IsChainShot : Sight → Shot → Type 0
IsChainShot S shot = IsChain S shot.items

quiet_chain : (S : Sight) (n : Note) → IfOk (office_quiet S n) (IsChainShot S)
quiet_chain S n = then_ok (IsChainShot S) (noted_room S n []) _ (λ room. record { steps = tt; owed = tt; own = tt })

made_chain : (S : Sight) (n : Note) (f : Fire) (rs : List Rule) → IsReady S f → IfOk (office_made S n rs f) (IsChainShot S)
made_chain S n f rs ready =
    let asked = fire_admitted S.trace f.namespace (limits_of f.namespace S.tenants) S.moment in
    then_ok (IsChainShot S) (noted_room S n (items_changes (shot_items S f rs))) _ (λ room.
    then_from (λ u. asked ≡ Ok tt) (IsChainShot S) (within_fires S f.namespace) _ (limit_ok asked) (λ u allowed. record { steps = shot_steps S f rs ready.next ready.shot allowed; owed = shot_owed S f rs; own = shot_own S f rs }))

-- parameters that aren't refused nest no deeper than a body may
shallow_by : (m n : ℕ) (b : Bool) → b ≡ nat_lt m n → IfOk (unless b too_deep) (λ u. n ≤ m)
shallow_by m n true is = tt
shallow_by m n false is = ltb-false m n (sym is)

own_ready : (S : Sight) (name : FullName) (number : ℕ) (t : Trigger) (given : Pairs) → IsThere S name t → IfOk (own_plan S name number t given) (IsReady S)
own_ready S name number t given there =
    then_from (λ u. depth (object (members_of given)) ≤ most_nested) (IsReady S) (shallow_params given) _
    (shallow_by most_nested (depth (object (members_of given))) (nat_lt most_nested (depth (object (members_of given)))) refl)
    (λ u shallow. plan_ready S office name number t given there (inr shallow))

rules_chain : (S : Sight) (name : FullName) (number : ℕ) (t : Trigger) (given : Pairs) (n : Note) (rs : List Rule) → IsThere S name t → IfOk (office_rules S name number t given n rs) (IsChainShot S)
rules_chain S name number t given n [] there = quiet_chain S n
rules_chain S name number t given n (r ∷ rs) there =
    then_from (IsReady S) (IsChainShot S) (own_plan S name number t given) _ (own_ready S name number t given there) (λ f ready. made_chain S n f (r ∷ rs) ready)

shot_chain : (S : Sight) (name : FullName) (given : Pairs) (n : Note) → IfOk (office_shot S name given n) (IsChainShot S)
shot_chain S name given n = then_ok (IsChainShot S) (room_for S 0) _ (λ room.
    then_from (IsThere S name) (IsChainShot S) (trigger_for S name) _ (trigger_there S name) (λ t there.
    then_ok (IsChainShot S) (number_for S name.namespace) _ (λ number. rules_chain S name number t given n (fired S.rows name) there)))

decided_chain : (S : Sight) (o : OthersView) (n : Note) (r : Result Shot Reason) → IfOk r (IsChainShot S) → IsChain S (office_decision o n r).items
decided_chain S o n (Ok shot) ok = ok
decided_chain S o n (Err reason) ok = record { steps = tt; owed = tt; own = tt }

pub office_chain : (S : Sight) (name : FullName) (given : Pairs) (n : Note) → IsChain S (office_decision S.others n (office_shot S name given n)).items
office_chain S name given n = decided_chain S S.others n (office_shot S name given n) (shot_chain S name given n)

-- what is true of the items of each fire, and of no items, is true of what is decided
module _ (S : Sight) (P : Trace → Type 0) (none : P []) (shot : (f : Fire) (rs : List Rule) → P (shot_items S f rs)) where
  of_made : (n : Note) (rs : List Rule) (f : Fire) → IfOk (office_made S n rs f) (λ x. P x.items)
  of_made n rs f = then_ok (λ (x : Shot). P x.items) (noted_room S n (items_changes (shot_items S f rs))) _ (λ room. then_ok (λ (x : Shot). P x.items) (within_fires S f.namespace) _ (λ within. shot f rs))

  of_rules : (name : FullName) (number : ℕ) (t : Trigger) (given : Pairs) (n : Note) (rs : List Rule) → IfOk (office_rules S name number t given n rs) (λ x. P x.items)
  of_rules name number t given n [] = then_ok (λ (x : Shot). P x.items) (noted_room S n []) _ (λ room. none)
  of_rules name number t given n (r ∷ rs) = then_ok (λ (x : Shot). P x.items) (own_plan S name number t given) _ (λ f. of_made n (r ∷ rs) f)

  of_shot : (name : FullName) (given : Pairs) (n : Note) → IfOk (office_shot S name given n) (λ x. P x.items)
  of_shot name given n = then_ok (λ (x : Shot). P x.items) (room_for S 0) _ (λ room. then_ok (λ (x : Shot). P x.items) (trigger_for S name) _ (λ t.
      then_ok (λ (x : Shot). P x.items) (number_for S name.namespace) _ (λ number. of_rules name number t given n (fired S.rows name))))

  of_result : (o : OthersView) (n : Note) (r : Result Shot Reason) → IfOk r (λ x. P x.items) → P (office_decision o n r).items
  of_result o n (Ok x) holds = holds
  of_result o n (Err reason) holds = none

  pub office_adds : (name : FullName) (given : Pairs) (n : Note) → P (office_decision S.others n (office_shot S name given n)).items
  office_adds name given n = of_result S.others n (office_shot S name given n) (of_shot name given n)

-- ---- the note

-- it isn't an archive, so all items are held
held_if : (n : Note) (items : Trace) (b : Bool) → held_by (if b then Same else KeepsNote n) items ≡ items
held_if n items true = refl
held_if n items false = refl

held_by_old : (n : Note) (items : Trace) (old : Option ℕ) → held_by (note_change_by n old) items ≡ items
held_by_old n items None = refl
held_by_old n items (Some value) = held_if n items (value == n.value)

pub held_note : (o : OthersView) (n : Note) (items : Trace) → held_by (note_change o n) items ≡ items
held_note o n items = held_by_old n items (note_of n.key o.notes)

pub office_held : (o : OthersView) (n : Note) (r : Result Shot Reason) → held (office_decision o n r) ≡ (office_decision o n r).items
office_held o n (Ok shot) = held_note o n shot.items
office_held o n (Err reason) = refl
