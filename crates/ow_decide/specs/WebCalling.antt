-- Web requests as invocations: anybody may make them, and the namespace of the path is charged.
use Rattle.std.specs.Prelude.{ℕ, List, Bool, true, is_some, Result, Ok, Err}
use Rattle.ow_value.specs.Value.{Pairs}
use Rattle.ow_names.specs.Path.{within}
use Rattle.ow_names.specs.declared.full.FullName.{FullName}
use Rattle.ow_names.specs.declared.refusal.NameRefusal.{NameRefusal}
use Rattle.ow_packages.specs.declared.effective_action.Effective.{Effective}
use Rattle.ow_floor.specs.declared.activations.Plan.{Plan}
use Rattle.ow_http.specs.Parts.{Parts}
use Rattle.ow_http.specs.declared.call_refusal.CallRefusal.TheVariants.{BadName}
use Rattle.ow_http.specs.declared.reason.Reason.{Reason}
use Rattle.ow_http.specs.declared.reason.Reason.TheVariants.{Call, Service}
use Rattle.ow_http.specs.declared.route.Route.{Route}
use Rattle.ow_http.specs.declared.service_refusal.ServiceRefusal.TheVariants.{BadExtension}
use Rattle.ow_tenant.specs.Table.{Table}
use Rattle.ow_tenant.specs.Tenants.{holder_of}
use Rattle.ow_web.specs.Refusal.{web_reason}
use Rattle.ow_web.specs.Target.{Target, target_of}
use Rattle.ow_web.specs.WebIn.{web_in}
use Rattle.ow_web.specs.declared.refusal.WebRefusal.{WebRefusal}
use Rattle.ow_web.specs.declared.target.Extension.{Extension}
use Rattle.ow_reads.specs.Steps.{or_else}
use Rattle.ow_decide.specs.declared.call_steps.Callee.{Callee}
use Rattle.ow_decide.specs.Calling.{called_plan}
use Rattle.ow_decide.specs.Sight.{Sight}

abbrev pub or_name_reason : Result FullName NameRefusal → Result FullName Reason
or_name_reason (Ok name) = Ok name
or_name_reason (Err e) = Err (Call (BadName e))

-- the name of what is wanted, whose namespace is read as it is written
abbrev pub target_name : Target → Result FullName Reason
target_name t = or_name_reason (within t.namespace t.package t.name)

-- the action that the path names
abbrev pub web_name : Route → Result FullName Reason
web_name r = target_name (target_of r)

-- the table has the key of the request
abbrev pub is_known : Table → Parts → Bool
is_known t p = is_some (holder_of p.key t)

abbrev pub or_web_reason : Result Pairs WebRefusal → Result Pairs Reason
or_web_reason (Ok given) = Ok given
or_web_reason (Err e) = Err (web_reason e)

-- the parameters that the request gives to what is called
abbrev pub web_given : Table → Effective → Parts → Result Pairs Reason
web_given t e p = or_web_reason (web_in p e (is_known t p))

-- how the end is answered
abbrev pub web_extension : Route → Result Extension Reason
web_extension r = or_else (target_of r).extension (Service BadExtension)

-- what is to be accepted, in the name of the namespace of the path, which is charged
abbrev pub web_plan : Sight → List ℕ → Callee → Pairs → Result Plan Reason
web_plan S namespace c given = called_plan S namespace namespace true true c given
