-- What the types of a record's fields guarantee.
use Rattle.std.specs.Prelude.{◌≤◌, ◌<◌, ◌^◌, IfSome}
use Rattle.std.specs.Str.{IsUtf8}
use Rattle.std.specs.List.{AllByRecursion}
use Rattle.ow_names.specs.FullName.{IsFullName}
use Rattle.ow_names.specs.Name.{IsName}
use Rattle.ow_value.specs.Json.{IsObject}
use Rattle.ow_entity.specs.FitAction.{IsFitLimits}
use Rattle.ow_records.specs.Response.{ResponseView}
use Rattle.ow_records.specs.Span.{SpanView}
use Rattle.ow_records.specs.declared.ids.Id.{Id}
use Rattle.ow_records.specs.declared.notes.Notes.{Notes}
use Rattle.ow_records.specs.declared.record.Record.{Record}
use Rattle.ow_records.specs.declared.unrecorded.Unrecorded.{Unrecorded}

-- both numbers have 64 bits
pub record IsId (id : Id) : Type 0 where
  pub namespace : id.namespace < 2 ^ 64
  pub count : id.count < 2 ^ 64

-- the end has 64 bits, and does not come before the start
pub record IsSpan (s : SpanView) : Type 0 where
  pub order : s.start ≤ s.end
  pub end : s.end < 2 ^ 64

pub record AreNotes (n : Notes) : Type 0 where
  pub binding : IfSome n.binding IsFullName
  pub init_time : IfSome n.init_time (λ t. t < 2 ^ 64)
  pub limits : IfSome n.limits IsFitLimits
  pub path : IfSome n.path IsFullName
  pub wait_time : IfSome n.wait_time (λ t. t < 2 ^ 64)

-- one of four codes, and the members of an object
pub record IsResponse (r : ResponseView) : Type 0 where
  pub code : r.code ≤ 3
  pub result : IsObject r.result

pub record IsKnown (r : Record) : Type 0 where
  pub id : IsId r.id
  pub cause : IfSome r.cause IsId
  pub span : IsSpan r.span
  pub version : r.version < 2 ^ 32
  pub name : IsName r.name
  pub namespace : IsName r.namespace
  pub subject : IsUtf8 r.subject
  pub notes : AreNotes r.notes
  pub logs : AllByRecursion IsUtf8 r.logs
  pub response : IsResponse r.response

pub record IsKnownUnrecorded (u : Unrecorded) : Type 0 where
  pub id : IsId u.id
  pub at : u.at < 2 ^ 64
  pub binding : IfSome u.binding IsFullName
  pub cause : IfSome u.cause IsId
  pub limits : IsFitLimits u.limits
  pub namespace : IsName u.namespace
  pub path : IsFullName u.path
  pub subject : IsUtf8 u.subject
  pub version : u.version < 2 ^ 32
