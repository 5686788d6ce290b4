use Rattle.std.proofs.Common.{◌≡◌, ◌+◌, ℕ, List, [], ◌∷◌, suc, refl, sym, ◌∙◌, ap, subst, arith, drop, drop-cons, get_or}
use Rattle.ow_slots.specs.State.{removed_state, with_state}
use Rattle.ow_pool.specs.Keeping.{CanAllGo, removed}
use Rattle.ow_floor.proofs.Restoring.{past_noted}
use Rattle.ow_pool.proofs.OrderLaws.{removed_keeps}
use Rattle.ow_floor.proofs.kept_slots.remove_all.Goals as goal

pub loop-i-init : goal.loop-i-init
loop-i-init c = record { fits = c.requires; left = refl; within = λ pool h. h; past = refl }

pub remove-requires : goal.remove-requires
remove-requires c =
    let cells : drop c.loop-i.i c.args.numbers.now ≡ get_or c.args.numbers.now c.loop-i.i 0 ∷ drop (suc c.loop-i.i) c.args.numbers.now = drop-cons c.args.numbers.now c.loop-i.i 0 c.loop-i-test.true in
    (subst (λ (ns : List ℕ). CanAllGo ns c.loop-i.slots) cells c.loop-i.invariant.fits).0

pub loop-i-preserved : goal.loop-i-preserved
loop-i-preserved c =
    let cells : drop c.loop-i.i c.args.numbers.now ≡ get_or c.args.numbers.now c.loop-i.i 0 ∷ drop (suc c.loop-i.i) c.args.numbers.now = drop-cons c.args.numbers.now c.loop-i.i 0 c.loop-i-test.true in
    let next : suc c.loop-i.i ≡ c.loop-i.i + 1 = omega arith in
    let n = get_or c.args.numbers.now c.loop-i.i 0 in
    let fits = subst (λ (ns : List ℕ). CanAllGo ns c.loop-i.slots) cells c.loop-i.invariant.fits in
    record {
      fits = rw (c.remove.ensures, ← next) fits.1;
      left = rw (c.remove.ensures, ← next) (ap (λ ns. removed ns c.loop-i.slots) (sym cells) ∙ c.loop-i.invariant.left);
      within = λ pool h. rw c.remove.ensures (removed_keeps (n ∷ []) c.loop-i.slots pool (c.loop-i.invariant.within pool h));
      past = rw (c.in_ok-note.ensures.ok, c.remove.ensures) (past_noted c.args.held n (with_state removed_state) c.loop-i.steps.items c.loop-i.slots ∙ c.loop-i.invariant.past);
    }
