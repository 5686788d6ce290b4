use Rattle.std.proofs.Common.{ap}
use Rattle.ow_records.specs.Records.{id_key}
use Rattle.ow_records.proofs.Sorting.{put_between}
use Rattle.ow_records.proofs.records.put_by_id.Goals as goal

pub returns : goal.returns
returns c =
    put_between id_key (id_key c.get.result.now) c.args.list.now.items c.deref.result.now c.put_at.new.list.items c.args.added c.place_by_id-place.result
    c.deref.ensures.value (ap id_key c.get.ensures) c.put_at.ensures c.place_by_id-place.ensures.place
