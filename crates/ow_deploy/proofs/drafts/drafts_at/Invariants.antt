use Rattle.std.proofs.Common.{◌≡◌, ◌++◌, drop, map}
use Rattle.ow_entity.specs.Chain.{result_map}
use Rattle.ow_entity.specs.Given.{AreGiven}
use Rattle.ow_deploy.specs.EntryView.{entry_view}
use Rattle.ow_deploy.specs.Manifest.{drafts_at}
use Rattle.ow_deploy.proofs.drafts.drafts_at.Given as goal

abbrev pub invariant-loop-entry : goal.invariant-loop-entry
invariant-loop-entry l = record {
  read : result_map (λ ds. l.drafts.items ++ ds) (drafts_at l.home (map entry_view (drop l.entry-index l.entries))) ≡ drafts_at l.home (map entry_view l.entries);
  given : AreGiven l.drafts.items;
}
