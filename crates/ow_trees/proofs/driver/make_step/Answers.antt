use Rattle.std.specs.List.{find}
use Rattle.std.proofs.Common.{◌++◌, ◌∙◌, ap, append-nil, subst, sym}
use Rattle.ow_floor.specs.Laws.{Stands}
use Rattle.ow_floor.specs.Frames.{is_frame}
use Rattle.ow_floor.specs.Trace.{Trace, task_by}
use Rattle.ow_floor.specs.View.{is_of}
use Rattle.ow_floor.specs.Calls.{moved}
use Rattle.ow_floor.proofs.Results.{if_more, on_more}
use Rattle.ow_trees.specs.Driving.{items_of, next_by}
use Rattle.ow_trees.specs.Steps.{next_in, step}
use Rattle.ow_trees.proofs.Following.{callable, made_step, next_of_items, no_step}
use Rattle.ow_trees.proofs.driver.make_step.Goals as goal

pub make-requires : goal.make-requires
make-requires g c = record { next = callable (g.L.Lookup.found c.args.rows.now) c.args.floor.now.now (task_by (find (is_of c.args.id) c.args.floor.now.now.open_items)) (find (is_frame c.args.id) c.args.floor.now.now.frames) c.in-Some.advance (sym (sym c.in-Some.is ∙ c.in_ok-advance.ensures)) }

pub returns-in-Some-clause-next : goal.returns-in-Some-clause-next
returns-in-Some-clause-next g c = if_more c.make.result _ _ (λ next h T st.
    h T st ∙ (ap next_in (sym (made_step (g.L.Lookup.found c.args.rows.now) c.args.at c.args.id c.args.floor.now.now T c.in-Some.advance (sym (sym c.in-Some.is ∙ c.in_ok-advance.ensures)) st)) ∙ next_of_items (step (g.L.Lookup.found c.args.rows.now) c.args.at T c.args.id)))
    c.make.ensures.next

pub returns-in-Some-clause-ok : goal.returns-in-Some-clause-ok
returns-in-Some-clause-ok g c = on_more c.make.result _ _ (λ grows T st.
    subst (λ (items : Trace). Stands c.make.new.floor.now (items ++ T)) (sym (made_step (g.L.Lookup.found c.args.rows.now) c.args.at c.args.id c.args.floor.now.now T c.in-Some.advance (sym (sym c.in-Some.is ∙ c.in_ok-advance.ensures)) st)) (grows T st))
    c.make.ensures.ok

pub returns-in-Some-clause-moved : goal.returns-in-Some-clause-moved
returns-in-Some-clause-moved g c = on_more c.make.result _ _ (λ is T st.
    is T st ∙ ap (λ (items : Trace). c.args.moves.now ++ moved items) (sym (made_step (g.L.Lookup.found c.args.rows.now) c.args.at c.args.id c.args.floor.now.now T c.in-Some.advance (sym (sym c.in-Some.is ∙ c.in_ok-advance.ensures)) st)))
    c.make.ensures.moved

pub returns-in-None-clause-next : goal.returns-in-None-clause-next
returns-in-None-clause-next g c = λ T st.
    ap next_by (sym (no_step (g.L.Lookup.found c.args.rows.now) c.args.at c.args.id c.args.floor.now.now T (sym (sym c.in-None.is ∙ c.in_ok-advance.ensures)) st))

pub returns-in-None-clause-ok : goal.returns-in-None-clause-ok
returns-in-None-clause-ok g c = λ T st.
    subst (λ (items : Trace). Stands c.args.floor.now.now (items ++ T)) (ap items_of (sym (no_step (g.L.Lookup.found c.args.rows.now) c.args.at c.args.id c.args.floor.now.now T (sym (sym c.in-None.is ∙ c.in_ok-advance.ensures)) st))) st

pub returns-in-None-clause-moved : goal.returns-in-None-clause-moved
returns-in-None-clause-moved g c = λ T st.
    sym (append-nil c.args.moves.now) ∙ ap (λ o. c.args.moves.now ++ moved (items_of o)) (sym (no_step (g.L.Lookup.found c.args.rows.now) c.args.at c.args.id c.args.floor.now.now T (sym (sym c.in-None.is ∙ c.in_ok-advance.ensures)) st))
