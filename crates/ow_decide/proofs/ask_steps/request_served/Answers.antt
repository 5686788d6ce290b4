use Rattle.std.proofs.Common.{◌∙◌, Bool, ap, if◌then◌else◌, sym}
use Rattle.ow_http.specs.Request.{parts_of}
use Rattle.ow_decide.specs.Asking.{keyed_done, web_done}
use Rattle.ow_decide.proofs.Results.{if_ok_map}
use Rattle.ow_decide.proofs.ask_steps.request_served.Goals as goal

pub returns-then-is_web-clause-done : goal.returns-then-is_web-clause-done
returns-then-is_web-clause-done c = if_ok_map c.web_served.result _ _ (λ d h S k seen.
    h S k c.args.keeping.now seen
    ∙ ap (λ (b : Bool). if b then web_done S (parts_of c.args.request.now) else keyed_done S (parts_of c.args.request.now)) (sym (sym c.is_web.ensures ∙ c.if-is_web.true))) c.web_served.ensures.done

pub returns-clause-done : goal.returns-clause-done
returns-clause-done c = if_ok_map c.keyed_served.result _ _ (λ d h S k seen.
    h S k seen
    ∙ ap (λ (b : Bool). if b then web_done S (parts_of c.args.request.now) else keyed_done S (parts_of c.args.request.now)) (sym (sym c.is_web.ensures ∙ c.if-is_web.false))) c.keyed_served.ensures.done
