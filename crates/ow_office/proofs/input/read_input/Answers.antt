use Rattle.std.proofs.Common.{arith}
use Rattle.ow_tenant.proofs.RowsLaws.{HasRead-none, none_up_to, read_end, read_full, up_to_most, whole_up_to}
use Rattle.ow_tenant.specs.Reading.{most_read}
use Rattle.ow_office.proofs.input.read_input.Goals as goal

pub loop-text-init : goal.loop-text-init
loop-text-init g c = record {
  read = rw c.new-text.ensures.items (HasRead-none _);
  most = rw c.new-text.ensures.items (omega arith);
  room = c.in_ok-room.ensures.size;
  later = omega arith;
}

pub returns-then-count-eq0-clause-told : goal.returns-then-count-eq0-clause-told
returns-then-count-eq0-clause-told g c =
    read_end _ _ _ (c.in_ok-count.ensures.told _ c.loop-text.invariant.read) (c.in_ok-count.ensures.end c.if-count-eq0.true) (omega (arith, c.in_ok-count.ensures.count.1, c.if-count-eq0.true, c.loop-text.invariant.most))

pub returns-clause-told : goal.returns-clause-told
returns-clause-told g c = read_full _ _ _ c.loop-text.invariant.read (omega arith)

pub returns-in_err-room-clause-most : goal.returns-in_err-room-clause-most
returns-in_err-room-clause-most g c = none_up_to most_read _

pub returns-in_err-count-clause-most : goal.returns-in_err-count-clause-most
returns-in_err-count-clause-most g c = up_to_most _ most_read _ _ (omega arith) (c.in_err-count.ensures.most _ c.loop-text.invariant.read)

pub returns-then-count-eq0-clause-most : goal.returns-then-count-eq0-clause-most
returns-then-count-eq0-clause-most g c =
    whole_up_to _ _ _ (read_end _ _ _ (c.in_ok-count.ensures.told _ c.loop-text.invariant.read) (c.in_ok-count.ensures.end c.if-count-eq0.true) (omega (arith, c.in_ok-count.ensures.count.1, c.if-count-eq0.true, c.loop-text.invariant.most)))

pub returns-clause-most : goal.returns-clause-most
returns-clause-most g c = whole_up_to _ _ _ (read_full _ _ _ c.loop-text.invariant.read (omega arith))
