use Rattle.ow_entity.proofs.BackLaws.{reads_back_as}
use Rattle.ow_entity.proofs.written.write_action.Goals as goal

pub returns-clause-reads_back : goal.returns-clause-reads_back
returns-clause-reads_back c = λ k.
    reads_back_as c.args.action.now _ c.in_ok-shown.ensures c.known.ensures.notes c.known.ensures.params c.known.ensures.fits k
