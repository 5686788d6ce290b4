-- What reads are answered.
use Rattle.std.proofs.Common.{◌≡◌, ◌∙◌, ◌||◌, Bool, true, false, not, Option, Some, None, Result, Ok, Err, IfErr, refl, ap}
use Rattle.ow_value.specs.Value.{V}
use Rattle.ow_names.specs.declared.full.FullName.{FullName}
use Rattle.ow_entity.specs.declared.rows.Row.{Row}
use Rattle.ow_records.specs.declared.record.Record.{Record}
use Rattle.ow_http.specs.CallOf.{call_of}
use Rattle.ow_http.specs.Parts.{Parts}
use Rattle.ow_http.specs.Steps.{◌>>=◌}
use Rattle.ow_http.specs.declared.call.Call.{Call}
use Rattle.ow_http.specs.declared.call_refusal.CallRefusal.{CallRefusal}
use Rattle.ow_http.specs.declared.reason.Reason.{Reason}
use Rattle.ow_http.specs.declared.route.Part.{Part}
use Rattle.ow_reads.specs.declared.acts.Act.{Act}
use Rattle.ow_reads.specs.declared.acts.Act.TheVariants.{Reads}
use Rattle.ow_reads.specs.declared.acts.Reading.{Reading}
use Rattle.ow_reads.specs.declared.acts.Reading.TheVariants.{Namespaces, Rows, Row as OneRow, Activations, Activation}
use Rattle.ow_decide.specs.Asking.{Done, act_done, ask_decision, at_once, request_done, shown_done}
use Rattle.ow_reads.specs.Acts.{act_of}
use Rattle.ow_reads.specs.Reading.{answer_of, id_of, is_opened, name_in, or_call_reason, part_value, read_answer, read_call, read_done, read_grant, read_kind, read_namespace, read_value, recorded, row_read}
use Rattle.ow_reads.specs.Shown.{shown_row}
use Rattle.ow_decide.specs.Reasons.{book_full, tells_full}
use Rattle.ow_reads.specs.Reasons.{no_route, not_found, not_granted, unknown_key}
use Rattle.ow_tenant.specs.Tenants.{holder_of}
use Rattle.ow_tenant.specs.declared.entries.Holder.{Holder}
use Rattle.ow_decide.specs.Sight.{Sight, is_full, room_for, view_of}
use Rattle.ow_reads.specs.Steps.{or_else, unless}
use Rattle.ow_reads.specs.Tenants.{asker}
use Rattle.ow_reads.specs.View.{View, may_read}
use Rattle.ow_decide.proofs.RouteLaws.{keyed_so}

-- it isn't that the book is full
abbrev IsOther : Reason → Type 0
IsOther reason = tells_full reason ≡ false

then_other : {X Y : Type 0} (r : Result X Reason) (f : X → Result Y Reason) → IfErr r IsOther → ((x : X) → IfErr (f x) IsOther) → IfErr (r >>= f) IsOther
then_other (Ok x) f first rest = rest x
then_other (Err reason) f first rest = first

unless_other : (b : Bool) (reason : Reason) → IsOther reason → IfErr (unless b reason) IsOther
unless_other true reason other = other
unless_other false reason other = tt

or_other : {X : Type 0} (o : Option X) (reason : Reason) → IsOther reason → IfErr (or_else o reason) IsOther
or_other None reason other = other
or_other (Some x) reason other = tt

call_other : (r : Result Call CallRefusal) → IfErr (or_call_reason r) IsOther
call_other (Ok call) = tt
call_other (Err e) = refl

abbrev shown : V → Result V Reason
shown v = Ok v

row_other : (W : View) (o : Option Row) → IfErr (or_else o not_found >>= (λ (r : Row). shown (shown_row W.rows r))) IsOther
row_other W None = refl
row_other W (Some r) = tt

record_other : (part : Part) (o : Option Record) → IfErr (or_else o not_found >>= (λ (r : Record). shown (part_value part r))) IsOther
record_other part None = refl
record_other part (Some r) = tt

value_other : (W : View) (reading : Reading) (p : Parts) (c : Call) → IfErr (read_value W reading p c) IsOther
value_other W Namespaces p c = tt
value_other W (Rows kind) p c = tt
value_other W (OneRow kind) p c = then_other (name_in c) (λ (name : FullName). or_else (row_read W.rows kind name) not_found >>= (λ (r : Row). shown (shown_row W.rows r)))
    (or_other c.name no_route refl) (λ name. row_other W (row_read W.rows kind name))
value_other W Activations p c = tt
value_other W (Activation part) p c = record_other part (recorded (read_namespace W p) (id_of p.route) W.records)

grant_other : (W : View) (reading : Reading) (p : Parts) → IfErr (read_grant W reading p) IsOther
grant_other W Namespaces p = tt
grant_other W (Rows kind) p = unless_other (not (may_read W.rights (read_namespace W p) || is_opened W.home W.rows p.route (read_kind (Rows kind)))) not_granted refl
grant_other W (OneRow kind) p = unless_other (not (may_read W.rights (read_namespace W p) || is_opened W.home W.rows p.route (read_kind (OneRow kind)))) not_granted refl
grant_other W Activations p = unless_other (not (may_read W.rights (read_namespace W p) || is_opened W.home W.rows p.route (read_kind Activations))) not_granted refl
grant_other W (Activation part) p = unless_other (not (may_read W.rights (read_namespace W p) || is_opened W.home W.rows p.route (read_kind (Activation part)))) not_granted refl

done_other : (W : View) (reading : Reading) (p : Parts) → IfErr (read_done W reading p) IsOther
done_other W reading p = then_other (read_call W reading p) (read_value W reading p)
    (then_other (read_grant W reading p) (λ (u : Unit {0}). or_call_reason (call_of W.home p)) (grant_other W reading p) (λ grant. call_other (call_of W.home p)))
    (value_other W reading p)

told_so : (r : Result V Reason) → IfErr r IsOther → (ask_decision (shown_done r)).told ≡ at_once (answer_of r)
told_so (Ok value) other = refl
told_so (Err reason) other = rw other refl

-- of a read that the book has room for, with a key of the table, the answer is the one of the view
pub read_so : (S : Sight) (h : Holder) (reading : Reading) (p : Parts) → act_of p.route p.method ≡ Some (Reads reading) → is_full S.counted p.size ≡ false → holder_of p.key S.tenants ≡ Some h
    → (ask_decision (request_done S p)).told ≡ at_once (read_answer (view_of S h) reading p)
read_so S h reading p act room held =
    ap (λ (d : Result Done Reason). (ask_decision d).told) (keyed_so S p (Reads reading) act)
    ∙ (ap (λ (o : Option Act). (ask_decision (or_else o no_route >>= (λ (a : Act). room_for S p.size >>= (λ (u : Unit {0}). asker S.tenants p.key >>= (λ (k : Holder). act_done S k a p))))).told) act
    ∙ (ap (λ (b : Bool). (ask_decision (unless b book_full >>= (λ (u : Unit {0}). asker S.tenants p.key >>= (λ (k : Holder). act_done S k (Reads reading) p)))).told) room
    ∙ (ap (λ (o : Option Holder). (ask_decision (or_else o unknown_key >>= (λ (k : Holder). act_done S k (Reads reading) p))).told) held
    ∙ told_so (read_done (view_of S h) reading p) (done_other (view_of S h) reading p))))
