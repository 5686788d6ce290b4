use Rattle.std.proofs.Common.{refl}
use Rattle.ow_day.specs.declared.run.DayReader.{DayReader}
use Rattle.ow_command_line.specs.declared.status.Status.TheVariants as statuses
use Rattle.ow_day.proofs.Runs.{write_told, written}
use Rattle.ow_day.proofs.Ended.{ends_with}
use Rattle.ow_day.proofs.run.DayReader.write_ready.Goals as goal

pub returns-in-Ok-clause-told : goal.returns-in-Ok-clause-told
returns-in-Ok-clause-told g c =
    let flushed : DayReader g.row.P.Denot = record { session = c.args.self.now.session; input = c.args.self.now.input; ended = c.args.self.now.ended; answers = c.flush.new.answers; number = c.args.self.now.number } in
    λ left t bytes before u. written g.P.Keeper.telling bytes before left _ _ c.args.self.now flushed c.in-Ok.ensures.ok c.in-Ok.ensures.none refl refl refl refl u

pub returns-in-Err-clause-told : goal.returns-in-Err-clause-told
returns-in-Err-clause-told g c =
    λ left t bytes before u. ends_with g.P.Keeper.telling bytes before left _ _ c.args.self.now _ statuses.WriteFault c.requires.most (λ e. cc) u (write_told g.P.Keeper.telling bytes before left _ _ c.args.self.now _ refl c.in-Err.ensures.err u)
