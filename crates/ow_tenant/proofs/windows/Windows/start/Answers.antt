use Rattle.std.proofs.Common.{◌∙◌, refl, sym, ap, subst}
use Rattle.ow_value.specs.ByText.{ByText}
use Rattle.ow_tenant.specs.Windows.{HasRoom, StandsAs, no_window}
use Rattle.ow_tenant.specs.declared.window.Window.{Window}
use Rattle.ow_tenant.proofs.WindowLaws.{Stands-fresh, closed-others, closed-window, fresh-notes, fresh-room, fresh-window, put-at}
use Rattle.ow_tenant.proofs.windows.Windows.start.Goals as goal

pub returns-in_err-put-clause-notes : goal.returns-in_err-put-clause-notes
returns-in_err-put-clause-notes c notes h =
    subst (λ (ws : ByText Window). StandsAs ws notes) (sym (c.in_err-put.ensures.err ∙ c.self.view_is)) h

pub returns-clause-notes : goal.returns-clause-notes
returns-clause-notes c notes h =
    let n = c.args.namespace.now in
    let put = put-at n c.in_ok-text.text c.args.self.now c.self.inside.windows c.put.new.self c.reserve.new.self (c.in_ok-text.ensures ∙ c.as_str.ensures.value) c.self.view_is c.in_ok-put.ensures.ok in
    fresh-notes n c.args.self.now c.put.new.self c.reserve.new.self notes c.requires put
    (λ s. c.reserve.ensures.stands notes n (Stands-fresh n c.new-window.result notes c.new-window.ensures.invocations c.new-window.ensures.fires c.new-window.ensures.running s)) h

pub returns-clause-others : goal.returns-clause-others
returns-clause-others c =
    let n = c.args.namespace.now in
    let put = put-at n c.in_ok-text.text c.args.self.now c.self.inside.windows c.put.new.self c.reserve.new.self (c.in_ok-text.ensures ∙ c.as_str.ensures.value) c.self.view_is c.in_ok-put.ensures.ok in
    closed-others n c.args.self.now c.args.self.now c.put.new.self c.reserve.new.self refl put

pub returns-clause-keeps : goal.returns-clause-keeps
returns-clause-keeps c k f h =
    let n = c.args.namespace.now in
    let put = put-at n c.in_ok-text.text c.args.self.now c.self.inside.windows c.put.new.self c.reserve.new.self (c.in_ok-text.ensures ∙ c.as_str.ensures.value) c.self.view_is c.in_ok-put.ensures.ok in
    let none : HasRoom k f no_window = subst (HasRoom k f) (sym (fresh-window n c.args.self.now c.requires)) h in
    subst (HasRoom k f) (sym (closed-window n c.args.self.now c.put.new.self c.reserve.new.self put))
    (c.reserve.ensures.keeps k f (fresh-room k f c.new-window.result c.new-window.ensures.running none))

pub returns-clause-running : goal.returns-clause-running
returns-clause-running c =
    let n = c.args.namespace.now in
    let put = put-at n c.in_ok-text.text c.args.self.now c.self.inside.windows c.put.new.self c.reserve.new.self (c.in_ok-text.ensures ∙ c.as_str.ensures.value) c.self.view_is c.in_ok-put.ensures.ok in
    ap (λ (w : Window). w.running) (closed-window n c.args.self.now c.put.new.self c.reserve.new.self put)
    ∙ (c.reserve.ensures.running ∙ (c.new-window.ensures.running ∙ ap (λ (w : Window). w.running) (fresh-window n c.args.self.now c.requires)))

pub returns-clause-room : goal.returns-clause-room
returns-clause-room c =
    let n = c.args.namespace.now in
    let put = put-at n c.in_ok-text.text c.args.self.now c.self.inside.windows c.put.new.self c.reserve.new.self (c.in_ok-text.ensures ∙ c.as_str.ensures.value) c.self.view_is c.in_ok-put.ensures.ok in
    subst (HasRoom c.args.count c.args.count) (sym (closed-window n c.args.self.now c.put.new.self c.reserve.new.self put)) c.in_ok-reserve.ensures.room
