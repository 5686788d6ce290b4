-- A fire of the office leaves the view of each key that may not read in the namespace of its trigger, and a note leaves each view.
use Rattle.std.proofs.Common.{◌≡◌, ◌∙◌, ◌==◌, ℕ, Bool, true, false, List, [], ◌∷◌, if◌then◌else◌, IfOk, Option, Some, None, Result, Ok, Err, refl, sym, ap, subst}
use Rattle.ow_value.specs.Value.{Pairs}
use Rattle.ow_names.specs.declared.full.FullName.{FullName}
use Rattle.ow_entity.specs.declared.rows.Row.{Row}
use Rattle.ow_entity.specs.declared.rules.Rule.{Rule}
use Rattle.ow_entity.specs.declared.triggers.Trigger.{Trigger}
use Rattle.ow_records.specs.declared.fires.Fire.{Fire}
use Rattle.ow_row_text.specs.declared.item.Note.{Note}
use Rattle.ow_rules.specs.Fired.{fired}
use Rattle.ow_floor.specs.Calls.{IsNext}
use Rattle.ow_floor.specs.Laws.{IsSound}
use Rattle.ow_floor.specs.Trace.{Trace, records}
use Rattle.ow_commits.specs.Kept.{OthersView}
use Rattle.ow_commits.specs.Noting.{note_of}
use Rattle.ow_http.specs.declared.reason.Reason.{Reason}
use Rattle.ow_tenant.specs.Table.{Table}
use Rattle.ow_tenant.specs.declared.entries.Holder.{Holder}
use Rattle.ow_reads.specs.Tenants.{office}
use Rattle.ow_reads.specs.View.{may_read}
use Rattle.ow_decide.specs.Decision.{KeepsNote, Same, items_changes}
use Rattle.ow_decide.specs.Decisions.{is_opening}
use Rattle.ow_decide.specs.Firing.{number_for, shot_items, trigger_for, within_fires}
use Rattle.ow_decide.specs.OfficeFiring.{Shot, fired_told, note_change_by, noted_room, office_decision, office_made, office_rules, office_shot, own_plan, shallow_params}
use Rattle.ow_decide.specs.Sight.{Sight, room_for}
use Rattle.ow_decide.specs.declared.events.Event.{Event}
use Rattle.ow_decide.specs.declared.events.Told.TheVariants as told
use Rattle.ow_decide.specs.declared.replies.Fired.{Fired as FiredReply}
use Rattle.ow_decide.specs.declared.replies.Fired.TheVariants as fires
use Rattle.ow_decide.proofs.Results.{then_from, then_ok}
use Rattle.ow_hall.specs.History.{History, answer, counted, decision, seen, sight}
use Rattle.ow_hall.proofs.Beginnings.{seen_sound}
use Rattle.ow_isolation.specs.Causes.{AreOfCauses}
use Rattle.ow_isolation.specs.Unseen.{IsUnseen, OfficeFiresLeave, QuietFiresLeave, archived_by}
use Rattle.ow_isolation.proofs.CauseLaws.{all_caused}
use Rattle.ow_isolation.proofs.FireLaws.{AreHidden, IsClosed, IsFireOf, fire_there, shot_hidden}
use Rattle.ow_isolation.proofs.UnseenLaws.{unseen_leaves}

-- ---- what is done at a fire

-- a note archives nothing
kept_test : (h : Holder) (n : Note) (b : Bool) → AreHidden h (archived_by (if b then Same else KeepsNote n))
kept_test h n true = tt
kept_test h n false = tt

kept_hidden : (h : Holder) (n : Note) (old : Option ℕ) → AreHidden h (archived_by (note_change_by n old))
kept_hidden h n None = tt
kept_hidden h n (Some value) = kept_test h n (value == n.value)

-- the records that it adds aren't seen
abbrev IsHiddenShot : Holder → Shot → Type 0
IsHiddenShot h shot = AreHidden h (records shot.items)

fire_by : (h : Holder) (rs : List Row) (o : OthersView) (n : Note) (r : Result Shot Reason) → IfOk r (IsHiddenShot h) → IsUnseen h rs (office_decision o n r)
fire_by h rs o n (Ok shot) good = record { changes = tt; records = good; archived = kept_hidden h n (note_of n.key o.notes) }
fire_by h rs o n (Err reason) good = record { changes = tt; records = tt; archived = tt }

module _ (h : Holder) (S : Sight) (sound : IsSound S.trace) (causes : AreOfCauses S.trace) where
  made_hidden : (n : Note) (rs : List Rule) (f : Fire) → IsNext f.id S.trace → IsClosed h f.namespace → IfOk (office_made S n rs f) (IsHiddenShot h)
  made_hidden n rs f next closed =
      then_ok (IsHiddenShot h) (noted_room S n (items_changes (shot_items S f rs))) _ (λ room.
      then_ok (IsHiddenShot h) (within_fires S f.namespace) _ (λ within. shot_hidden h S f rs sound causes next closed))

  rules_hidden : (name : FullName) (number : ℕ) (t : Trigger) (given : Pairs) (n : Note) (rs : List Rule) → IsClosed h name.namespace → IfOk (office_rules S name number t given n rs) (IsHiddenShot h)
  rules_hidden name number t given n [] closed = then_ok (IsHiddenShot h) (noted_room S n []) _ (λ room. tt)
  rules_hidden name number t given n (r ∷ rs) closed =
      then_from (IsFireOf S name) (IsHiddenShot h) (own_plan S name number t given) (office_made S n (r ∷ rs))
      (then_ok (IsFireOf S name) (shallow_params given) _ (λ shallow. fire_there S office name number t given)) (λ f there. made_hidden n (r ∷ rs) f there.next (ap (may_read h.rights) there.home ∙ closed))

  shot_unseen : (name : FullName) (given : Pairs) (n : Note) → IsClosed h name.namespace → IfOk (office_shot S name given n) (IsHiddenShot h)
  shot_unseen name given n closed =
      then_ok (IsHiddenShot h) (room_for S 0) _ (λ room.
      then_ok (IsHiddenShot h) (trigger_for S name) _ (λ t.
      then_ok (IsHiddenShot h) (number_for S name.namespace) _ (λ number. rules_hidden name number t given n (fired S.rows name) closed)))

pub office_fires_leave : (t : Table) (B : History) → OfficeFiresLeave t B
office_fires_leave t B e trigger params note key h is holds closed =
    let S = sight t (seen t B) (counted B) e.at in
    unseen_leaves t B e key h holds (ap is_opening is)
    (subst (λ (v : Event). IsUnseen h (seen t B).rows (decision t B e.at v)) (sym is)
    (fire_by h (seen t B).rows S.others note (office_shot S trigger params note) (shot_unseen h S (seen_sound t B) (all_caused t B) trigger params note closed)))

-- ---- a fire of no rule

-- where no activation is answered, nothing happened
abbrev IsQuietlyEmpty : Shot → Type 0
IsQuietlyEmpty shot = fired_told shot.id ≡ fires.Quiet → shot.items ≡ []

module _ (S : Sight) where
  made_loud : (n : Note) (rs : List Rule) (f : Fire) → IfOk (office_made S n rs f) IsQuietlyEmpty
  made_loud n rs f =
      then_ok IsQuietlyEmpty (noted_room S n (items_changes (shot_items S f rs))) _ (λ room.
      then_ok IsQuietlyEmpty (within_fires S f.namespace) _ (λ within is. cc))

  rules_quiet : (name : FullName) (number : ℕ) (t : Trigger) (given : Pairs) (n : Note) (rs : List Rule) → IfOk (office_rules S name number t given n rs) IsQuietlyEmpty
  rules_quiet name number t given n [] = then_ok IsQuietlyEmpty (noted_room S n []) _ (λ room is. refl)
  rules_quiet name number t given n (r ∷ rs) =
      then_ok IsQuietlyEmpty (own_plan S name number t given) (office_made S n (r ∷ rs)) (λ f. made_loud n (r ∷ rs) f)

  shot_quiet : (name : FullName) (given : Pairs) (n : Note) → IfOk (office_shot S name given n) IsQuietlyEmpty
  shot_quiet name given n =
      then_ok IsQuietlyEmpty (room_for S 0) _ (λ room.
      then_ok IsQuietlyEmpty (trigger_for S name) _ (λ t.
      then_ok IsQuietlyEmpty (number_for S name.namespace) _ (λ number. rules_quiet name number t given n (fired S.rows name))))

quiet_so : (a b : FiredReply) → told.Fired a ≡ told.Fired b → a ≡ b
quiet_so a b same = cc

quiet_by : (h : Holder) (rs : List Row) (o : OthersView) (n : Note) (r : Result Shot Reason) → IfOk r IsQuietlyEmpty → (office_decision o n r).told ≡ told.Fired fires.Quiet → IsUnseen h rs (office_decision o n r)
quiet_by h rs o n (Ok shot) good is = record {
  changes = tt;
  records = subst (λ (items : Trace). AreHidden h (records items)) (sym (good (quiet_so (fired_told shot.id) fires.Quiet is))) tt;
  archived = kept_hidden h n (note_of n.key o.notes);
}
quiet_by h rs o n (Err reason) good is = record { changes = tt; records = tt; archived = tt }

pub quiet_fires_leave : (t : Table) (B : History) → QuietFiresLeave t B
quiet_fires_leave t B e trigger params note key h is holds quiet =
    let S = sight t (seen t B) (counted B) e.at in
    unseen_leaves t B e key h holds (ap is_opening is)
    (subst (λ (v : Event). IsUnseen h (seen t B).rows (decision t B e.at v)) (sym is)
    (quiet_by h (seen t B).rows S.others note (office_shot S trigger params note) (shot_quiet S trigger params note)
    (subst (λ (v : Event). answer t B e.at v ≡ told.Fired fires.Quiet) is quiet)))
