-- Events that the holder of a key doesn't see.
use Rattle.std.specs.Prelude.{◌≡◌, ℕ, List, [], ◌∷◌, Bool, true, false, Option, Some}
use Rattle.std.specs.List.{AllByRecursion}
use Rattle.ow_entity.specs.Row.{kind_of, name_of}
use Rattle.ow_entity.specs.declared.rows.Row.{Row}
use Rattle.ow_entity.specs.declared.rows.Row.TheVariants as rows
use Rattle.ow_floor.specs.Trace.{Trace, live_run, open_task, records}
use Rattle.ow_floor.specs.declared.runs.Run.{Run}
use Rattle.ow_http.specs.declared.request.Request.{Request}
use Rattle.ow_names.specs.Path.{home}
use Rattle.ow_names.specs.declared.full.FullName.{FullName}
use Rattle.ow_records.specs.declared.activations.Activation.{Activation}
use Rattle.ow_records.specs.declared.record.Record.{Record}
use Rattle.ow_reads.specs.Acts.{act_of}
use Rattle.ow_reads.specs.Reading.{namespace_of}
use Rattle.ow_reads.specs.View.{is_visible_record, may_read}
use Rattle.ow_reads.specs.declared.acts.Act.TheVariants.{Fires, Invokes}
use Rattle.ow_tables.specs.Contents.{Change}
use Rattle.ow_tables.specs.Rows.{changed, is_row}
use Rattle.ow_decide.specs.Decision.{Archives, Decision, OtherChange}
use Rattle.ow_decide.specs.Decisions.{is_opening}
use Rattle.ow_decide.specs.declared.events.Event.TheVariants as events
use Rattle.ow_decide.specs.declared.events.Told.TheVariants as told
use Rattle.ow_decide.specs.declared.replies.Fired.TheVariants as fires
use Rattle.ow_row_text.specs.declared.item.Note.{Note}
use Rattle.ow_value.specs.Value.{Pairs}
use Rattle.ow_hall.specs.History.{History, answer, decision, seen}
use Rattle.ow_hall.specs.declared.entry.Entry.{Entry}
use Rattle.ow_traits.specs.declared.replies.RunReply.{RunReply}
use Rattle.ow_tenant.specs.Table.{Table}
use Rattle.ow_tenant.specs.Tenants.{holder_of}
use Rattle.ow_tenant.specs.declared.entries.Holder.{Holder}
use Rattle.ow_isolation.specs.Views.{view_after}

-- ---- changes of rules and triggers

-- the row is a rule or a trigger, which no package shows
abbrev pub stands_apart : Row → Bool
stands_apart (rows.Rule r) = true
stands_apart (rows.Trigger t) = true
stands_apart r = false

-- the holder may not read in the namespace of the row
abbrev pub IsHidden : Holder → Row → Type 0
IsHidden h r = may_read h.rights (name_of r).namespace ≡ false

-- the change is of a rule or a trigger that the holder may not read, instead of one that it may not read, or of none
pub record IsUnseenChange (h : Holder) (rs : List Row) (c : Change) : Type 0 where
  pub apart : stands_apart c.row ≡ true
  pub hidden : IsHidden h c.row
  pub before : AllByRecursion (λ r. is_row (kind_of c.row) (name_of c.row) r ≡ true → IsHidden h r) rs

-- so is each of these, made one after another
abbrev pub AreUnseenChanges : Holder → List Row → List Change → Type 0
AreUnseenChanges h rs [] = Unit {0}
AreUnseenChanges h rs (c ∷ cs) = IsUnseenChange h rs c × AreUnseenChanges h (changed c rs) cs

-- ---- events

-- the records that are archived
abbrev pub archived_by : OtherChange → List Record
archived_by (Archives until before due) = due
archived_by change = []

-- over these rows a decision changes only such rules and triggers. Each record that it adds, also that of a fire, and each that it
-- archives is of a namespace in which the holder may not read
pub record IsUnseen (h : Holder) (rs : List Row) (d : Decision) : Type 0 where
  pub changes : AreUnseenChanges h rs d.changes
  pub records : AllByRecursion (λ r. is_visible_record h.rights r ≡ false) (records d.items)
  pub archived : AllByRecursion (λ r. is_visible_record h.rights r ≡ false) (archived_by d.others)

-- the entry of such an event, other than an opening, leaves what the holder may see
abbrev pub UnseenLeaves : Table → History → Type 0
UnseenLeaves t B = (e : Entry) (key : Option (List ℕ)) (h : Holder) → holder_of key t ≡ Some h → is_opening e.event ≡ false → IsUnseen h (seen t B).rows (decision t B e.at e.event)
    → view_after t (e ∷ B) key ≡ view_after t B key

-- a fire, in a namespace in which the holder may not read, leaves what the holder may see; `_` is the own namespace of the key that fires
abbrev pub FiresLeave : Table → History → Type 0
FiresLeave t B = (e : Entry) (r : Request) (key : Option (List ℕ)) (firing h : Holder) → e.event ≡ events.Asked r → act_of r.route r.method ≡ Some Fires
    → holder_of r.key t ≡ Some firing → holder_of key t ≡ Some h → may_read h.rights (home firing.home (namespace_of r.route)) ≡ false
    → view_after t (e ∷ B) key ≡ view_after t B key

-- so does a fire of the office, of a trigger in such a namespace
abbrev pub OfficeFiresLeave : Table → History → Type 0
OfficeFiresLeave t B = (e : Entry) (trigger : FullName) (params : Pairs) (note : Note) (key : Option (List ℕ)) (h : Holder) → e.event ≡ events.Fired trigger params note
    → holder_of key t ≡ Some h → may_read h.rights trigger.namespace ≡ false → view_after t (e ∷ B) key ≡ view_after t B key

-- nobody sees a note: a fire of the office leaves what each holder may see where no rule is active
abbrev pub QuietFiresLeave : Table → History → Type 0
QuietFiresLeave t B = (e : Entry) (trigger : FullName) (params : Pairs) (note : Note) (key : Option (List ℕ)) (h : Holder) → e.event ≡ events.Fired trigger params note
    → holder_of key t ≡ Some h → answer t B e.at e.event ≡ told.Fired fires.Quiet → view_after t (e ∷ B) key ≡ view_after t B key

-- an invocation leaves what a holder may see that may read neither in the namespace of the path nor in the own one of the key that invokes.
-- One of these two namespaces is charged, with all that a composition calls at once
abbrev pub InvocationsLeave : Table → History → Type 0
InvocationsLeave t B = (e : Entry) (r : Request) (key : Option (List ℕ)) (asking h : Holder) → e.event ≡ events.Asked r → act_of r.route r.method ≡ Some Invokes
    → holder_of r.key t ≡ Some asking → holder_of key t ≡ Some h → may_read h.rights (home asking.home (namespace_of r.route)) ≡ false → may_read h.rights asking.home ≡ false
    → view_after t (e ∷ B) key ≡ view_after t B key

-- the open activation that a live run of this number carries, if it does, is of a namespace in which the holder may not read
abbrev pub IsHiddenRun : Holder → ℕ → Trace → Type 0
IsHiddenRun h run T = (r : Run) (a : Activation) → live_run T run ≡ Some r → open_task T r.id ≡ Some a → may_read h.rights a.namespace ≡ false

-- the reply of such a run leaves what the holder may see: also what the compositions do then that the activation is a part of
abbrev pub RepliesLeave : Table → History → Type 0
RepliesLeave t B = (e : Entry) (run : ℕ) (reply : RunReply) (key : Option (List ℕ)) (h : Holder) → e.event ≡ events.Answered run reply → holder_of key t ≡ Some h
    → IsHiddenRun h run (seen t B).trace → view_after t (e ∷ B) key ≡ view_after t B key
