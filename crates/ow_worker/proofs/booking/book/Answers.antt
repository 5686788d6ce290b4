use Rattle.ow_floor.specs.declared.answers.Answered.TheVariants.{Recorded, Late}
use Rattle.ow_decide.specs.declared.events.Told.TheVariants as told
use Rattle.ow_worker.proofs.booking.book.Goals as goal

pub returns-in-Ok-Recorded-clause-booked : goal.returns-in-Ok-Recorded-clause-booked
returns-in-Ok-Recorded-clause-booked g c = record {
  told = told.Answered (Recorded c.in-Ok-Recorded.field-0-0);
  after = c.tell_reply.new.notes.notes;
  noted = rw c.in-Ok-Recorded.field-0-is at c.in-Ok-Recorded.ensures.called;
  ended = c.end.ensures.ended;
}

pub returns-in-Ok-Late-clause-booked : goal.returns-in-Ok-Late-clause-booked
returns-in-Ok-Late-clause-booked g c = record {
  told = told.Answered (Late c.in-Ok-Late.field-0-0 c.in-Ok-Late.field-0-1);
  after = c.tell_reply.new.notes.notes;
  noted = rw c.in-Ok-Late.field-0-is at c.in-Ok-Late.ensures.called;
  ended = c.end-in-Ok-Late.ensures.ended;
}

pub returns-in-Err-NoRun-clause-booked : goal.returns-in-Err-NoRun-clause-booked
returns-in-Err-NoRun-clause-booked g c = record {
  told = told.NoRun c.in-Err-NoRun.field-0-0 c.in-Err-NoRun.field-0-1;
  after = c.tell_reply.new.notes.notes;
  noted = rw c.in-Err-NoRun.field-0-is at c.in-Err-NoRun.ensures.called;
  ended = c.end-in-Err-NoRun.ensures.ended;
}
