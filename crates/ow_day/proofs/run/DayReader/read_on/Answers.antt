use Rattle.std.proofs.Common.{arith, refl}
use Rattle.ow_traits.proofs.Taking.{took_all}
use Rattle.ow_day.specs.declared.run.DayReader.{DayReader}
use Rattle.ow_command_line.specs.declared.status.Status.TheVariants as statuses
use Rattle.ow_day.proofs.Runs.{at_err, at_ok, end_read, filled, want_told, write_told, written}
use Rattle.ow_day.proofs.Ended.{ends_with, fault_ends, nothing_read, past_ends}
use Rattle.ow_day.proofs.run.DayReader.read_on.Goals as goal

pub returns-then-is_err-clause-told : goal.returns-then-is_err-clause-told
returns-then-is_err-clause-told g c =
    λ t bytes before u. ends_with g.P.Keeper.telling bytes before _ _ _ c.args.self.now _ statuses.WriteFault c.requires.bounded.most (λ e. cc) u (write_told g.P.Keeper.telling bytes before _ _ _ c.args.self.now _ refl (at_err c.flush.result c.is_err.result c.is_err.ensures.value c.if-is_err.true c.flush.ensures.err) u)

pub returns-in-Ok-More-clause-told : goal.returns-in-Ok-More-clause-told
returns-in-Ok-More-clause-told g c =
    let took = at_ok c.flush.result c.is_err.result c.is_err.ensures.value c.if-is_err.false c.flush.ensures.ok in
    let none = at_ok c.flush.result c.is_err.result c.is_err.ensures.value c.if-is_err.false c.flush.ensures.none in
    let flushed : DayReader g.row.P.Denot = record { session = c.args.self.now.session; input = c.args.self.now.input; ended = c.args.self.now.ended; answers = c.flush.new.answers; number = c.args.self.now.number } in
    λ t bytes before u. filled g.P.Keeper.telling bytes before _ _ _ flushed _ (rw c.in-Ok-More.field-0-is at c.in-Ok-More.ensures.told) refl refl refl refl c.requires.unended c.requires.cut (written g.P.Keeper.telling bytes before _ _ _ c.args.self.now flushed took none refl refl refl refl u)

pub returns-in-Ok-End-clause-told : goal.returns-in-Ok-End-clause-told
returns-in-Ok-End-clause-told g c =
    let took = at_ok c.flush.result c.is_err.result c.is_err.ensures.value c.if-is_err.false c.flush.ensures.ok in
    let none = at_ok c.flush.result c.is_err.result c.is_err.ensures.value c.if-is_err.false c.flush.ensures.none in
    let flushed : DayReader g.row.P.Denot = record { session = c.args.self.now.session; input = c.args.self.now.input; ended = c.args.self.now.ended; answers = c.flush.new.answers; number = c.args.self.now.number } in
    let end = rw c.in-Ok-End.field-0-is at c.in-Ok-End.ensures.told in
    λ t bytes before u. end_read g.P.Keeper.telling bytes before _ _ _ flushed _ end.1 end.2 c.requires.unended refl end.0 refl refl refl (written g.P.Keeper.telling bytes before _ _ _ c.args.self.now flushed took none refl refl refl refl u)

pub returns-in-Ok-Past-clause-told : goal.returns-in-Ok-Past-clause-told
returns-in-Ok-Past-clause-told g c =
    let took = at_ok c.flush.result c.is_err.result c.is_err.ensures.value c.if-is_err.false c.flush.ensures.ok in
    let none = at_ok c.flush.result c.is_err.result c.is_err.ensures.value c.if-is_err.false c.flush.ensures.none in
    let flushed : DayReader g.row.P.Denot = record { session = c.args.self.now.session; input = c.args.self.now.input; ended = c.args.self.now.ended; answers = c.flush.new.answers; number = c.args.self.now.number } in
    let past = rw c.in-Ok-Past.field-0-is at c.in-Ok-Past.ensures.told in
    λ t bytes before u. past_ends g.P.Keeper.telling bytes before _ _ _ flushed _ refl c.requires.cut c.requires.unended none past.1 past.2 past.3 (written g.P.Keeper.telling bytes before _ _ _ c.args.self.now flushed took none refl refl refl refl u)

pub returns-in-Err-Failed-clause-told : goal.returns-in-Err-Failed-clause-told
returns-in-Err-Failed-clause-told g c =
    let took = at_ok c.flush.result c.is_err.result c.is_err.ensures.value c.if-is_err.false c.flush.ensures.ok in
    let none = at_ok c.flush.result c.is_err.result c.is_err.ensures.value c.if-is_err.false c.flush.ensures.none in
    let flushed : DayReader g.row.P.Denot = record { session = c.args.self.now.session; input = c.args.self.now.input; ended = c.args.self.now.ended; answers = c.flush.new.answers; number = c.args.self.now.number } in
    λ t bytes before u. fault_ends g.P.Keeper.telling bytes before _ _ _ flushed _ refl c.requires.cut c.requires.unended none c.requires.bounded.most c.in-Err-Failed.ensures.told.1 (written g.P.Keeper.telling bytes before _ _ _ c.args.self.now flushed took none refl refl refl refl u)

pub returns-in-Err-NoMemory-clause-told : goal.returns-in-Err-NoMemory-clause-told
returns-in-Err-NoMemory-clause-told g c =
    let took = at_ok c.flush.result c.is_err.result c.is_err.ensures.value c.if-is_err.false c.flush.ensures.ok in
    λ t bytes before u. nothing_read g.P.Keeper.telling bytes before _ _ _ _ c.args.self.now _ statuses.NoMemory c.requires.bounded.most (λ e. cc) c.in-Err-NoMemory.ensures.told.1 u (want_told g.P.Keeper.telling bytes before _ _ _ c.args.self.now _ (omega arith) (took_all _ _ c.args.self.now.answers.items took) u)
