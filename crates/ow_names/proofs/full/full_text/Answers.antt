use Rattle.std.proofs.Common.{◌≡◌, string_bytes, arith}
use Rattle.std.proofs.lemmas.Grind.{common_steps}
use Rattle.ow_names.specs.FullName.{full_text}
use Rattle.ow_names.proofs.PathLaws.{reads_back_from}
use Rattle.ow_names.proofs.full.full_text.Goals as goal

pub returns-clause-reads_back : goal.returns-clause-reads_back
returns-clause-reads_back c =
    let written : string_bytes c.push_local.new.text ≡ full_text c.args.name.now = grind (arith, common_steps) in
    λ here stays. reads_back_from here c.args.name.now _ c.known.ensures stays written
