-- How a body writes the names of its fields.
use Rattle.std.specs.Prelude.{ℕ, List, codes}
use Rattle.ow_entity.specs.declared.field_name.FieldName.{FieldName}
use Rattle.ow_entity.specs.declared.field_name.FieldName.TheVariants.{Body, Annotations, Parameters, Publish, Exec, Kind, Code, Components, Limits, Timeout, Memory, Logs, Binding, BoundNamespace, BoundName, Trigger, Action, Status}

abbrev pub field_name : FieldName → List ℕ
field_name Body = codes "body"
field_name Annotations = codes "annotations"
field_name Parameters = codes "parameters"
field_name Publish = codes "publish"
field_name Exec = codes "exec"
field_name Kind = codes "kind"
field_name Code = codes "code"
field_name Components = codes "components"
field_name Limits = codes "limits"
field_name Timeout = codes "timeout"
field_name Memory = codes "memory"
field_name Logs = codes "logs"
field_name Binding = codes "binding"
field_name BoundNamespace = codes "namespace"
field_name BoundName = codes "name"
field_name Trigger = codes "trigger"
field_name Action = codes "action"
field_name Status = codes "status"
