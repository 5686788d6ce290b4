-- Steps that may be refused.
use Rattle.std.specs.Prelude.{Bool, true, false, Option, Some, None, Result, Ok, Err}
use Rattle.ow_http.specs.declared.reason.Reason.{Reason}

-- refused, where something holds
abbrev pub unless : Bool → Reason → Result (Unit {0}) Reason
unless true reason = Err reason
unless false reason = Ok tt

-- what is wanted, or refused where it isn't there
abbrev pub or_else : {X : Type 0} → Option X → Reason → Result X Reason
or_else None reason = Err reason
or_else (Some x) reason = Ok x
