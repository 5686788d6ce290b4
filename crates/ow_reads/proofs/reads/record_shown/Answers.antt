use Rattle.std.proofs.Common.{◌∙◌, ℕ, List, None, Some, ap}
use Rattle.ow_http.specs.Request.{parts_of}
use Rattle.ow_names.specs.Path.{home}
use Rattle.ow_reads.specs.Reading.{namespace_of, recorded}
use Rattle.ow_reads.specs.View.{may_read, seen_records}
use Rattle.ow_reads.proofs.ReadLaws.{granted_right, shows}
use Rattle.ow_reads.proofs.RecordLaws.{record_read}
use Rattle.ow_reads.proofs.reads.record_shown.Goals as goal

pub visible_record-requires : goal.visible_record-requires
visible_record-requires c = ap (may_read c.args.holder.now.rights) c.namespace_read-namespace.ensures ∙ granted_right c.args.holder.now (parts_of c.args.request.now) c.args.call.now c.requires

pub returns-in_ok-part_value-in-Some : goal.returns-in_ok-part_value-in-Some
returns-in_ok-part_value-in-Some c = λ rows once. ap shows c.in_ok-part_value-in-Some.ensures
    ∙ record_read rows c.args.records.now.items c.args.holder.now (parts_of c.args.request.now) c.args.call.now c.args.part (Some c.in-Some.record.now)
    (c.in-Some.ensures once ∙ (ap (λ (n : List ℕ). recorded n c.id_of.result.now (seen_records c.args.holder.now.rights c.args.records.now.items)) c.namespace_read-namespace.ensures
    ∙ ap (λ (text : List ℕ). recorded (home c.args.holder.now.home (namespace_of c.args.request.now.route)) text (seen_records c.args.holder.now.rights c.args.records.now.items)) c.id_of.ensures))

pub returns-in-None : goal.returns-in-None
returns-in-None c = λ rows once. record_read rows c.args.records.now.items c.args.holder.now (parts_of c.args.request.now) c.args.call.now c.args.part None
    (c.in-None.ensures once ∙ (ap (λ (n : List ℕ). recorded n c.id_of.result.now (seen_records c.args.holder.now.rights c.args.records.now.items)) c.namespace_read-namespace.ensures
    ∙ ap (λ (text : List ℕ). recorded (home c.args.holder.now.home (namespace_of c.args.request.now.route)) text (seen_records c.args.holder.now.rights c.args.records.now.items)) c.id_of.ensures))
