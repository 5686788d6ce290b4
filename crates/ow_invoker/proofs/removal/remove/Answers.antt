use Rattle.std.proofs.Common.{refl, inl, [], take, get_or, sym, subst, arith}
use Rattle.std.proofs.lemmas.List.{take_more}
use Rattle.ow_floor.specs.declared.answers.Container.{Container}
use Rattle.ow_invoker.proofs.Orders.{Removed, removed_more}
use Rattle.ow_invoker.proofs.Running.{idles_trans}
use Rattle.ow_invoker.proofs.removal.remove.Goals as goal

pub returns-in_default-clause-turns : goal.returns-in_default-clause-turns
returns-in_default-clause-turns g c = inl ([], (inl (refl, refl, refl), refl))

pub loop-container-preserved : goal.loop-container-preserved
loop-container-preserved g c =
    let inv = c.loop-container.invariant in
    let items = c.as_slice-container-items.result.now in
    let i = c.loop-container.container-index in
    let none : Container = record { slot = 0; generation = 0 } in
    record {
      removed = subst (λ cs. Removed g.P.Keeper.telling c.args.hall.now c.args.at c.clear-step.new.hall c.args.shelf.now c.clear-step.new.shelf cs c.note.new.steps.items)
          (sym (take_more items i none c.loop-container-test.true))
          (removed_more g.P.Keeper.telling c.args.hall.now c.args.at c.loop-container.hall c.clear-step.new.hall c.args.shelf.now c.loop-container.shelf c.clear-step.new.shelf (take i items)
          (get_or items i none) c.loop-container.steps.items c.note.new.steps.items c.clear-step.result inv.removed c.clear-step.ensures.tells c.clear-step.ensures.shelf c.note.ensures.steps);
      idles = idles_trans inv.idles c.clear-step.ensures.runner;
      few = let a = inv.few in let b = c.note.ensures.bounded in omega arith;
      room = let a = inv.room in let b = c.note.ensures.room in omega arith;
    }
