use Rattle.ow_traits.proofs.Taking.{took_front}
use Rattle.ow_hall.proofs.Beginnings.{keeps_each, keeps_limits, keeps_steps}
use Rattle.ow_command_line.specs.Status.{err_text}
use Rattle.ow_day.proofs.Legal.{legal_books}
use Rattle.ow_office.proofs.Endings.{handed_back, took_whole}
use Rattle.ow_office.proofs.commands.office.Goals as goal

pub returns-clause-kept : goal.returns-clause-kept
returns-clause-kept g c = λ t B legal. keeps_each t B

pub returns-clause-limits : goal.returns-clause-limits
returns-clause-limits g c = λ t B legal. keeps_limits t B

pub returns-clause-steps : goal.returns-clause-steps
returns-clause-steps g c = λ t B legal. keeps_steps t B

pub returns-clause-reads : goal.returns-clause-reads
returns-clause-reads g c = c.legal_books_isolate_reads.ensures

pub returns-clause-alike : goal.returns-clause-alike
returns-clause-alike g c = c.logs_answer_alike.ensures

pub returns-clause-legal : goal.returns-clause-legal
returns-clause-legal g c = legal_books

pub returns-clause-line : goal.returns-clause-line
returns-clause-line g c =
    took_front c.report.result (g.E.Sink.taken c.args.err.now) (g.E.Sink.taken c.report.new.err) (err_text c.perform-status.result.0) c.report.ensures.ok c.report.ensures.err

pub returns-clause-whole_line : goal.returns-clause-whole_line
returns-clause-whole_line g c = took_whole c.report.result _ _ c.report.ensures.ok c.report.ensures.cause.rose

pub returns-clause-read : goal.returns-clause-read
returns-clause-read g c = λ bad. handed_back c.perform-status.result.1 c.args.store (c.perform-status.ensures.read bad)
