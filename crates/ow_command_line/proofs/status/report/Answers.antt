use Rattle.ow_command_line.proofs.status.report.Goals as goal

pub returns-in-BadKept-clause-ok : goal.returns-in-BadKept-clause-ok
returns-in-BadKept-clause-ok g c = rw c.in-BadKept.is (rw (c.as_bytes.ensures.value, c.as_str.ensures.value) at c.write_pieces.ensures.ok)

pub returns-in-BadManifest-clause-ok : goal.returns-in-BadManifest-clause-ok
returns-in-BadManifest-clause-ok g c = rw c.in-BadManifest.is (rw c.as_str-in-BadManifest.ensures.value at c.report_refusal.ensures.ok)
