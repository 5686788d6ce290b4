use Rattle.std.proofs.Common.{refl}
use Rattle.ow_tenant.proofs.RowsLaws.{HasRead-more, end_read, piece_up_to}
use Rattle.ow_office.proofs.input.read_piece.Goals as goal

pub returns-clause-told : goal.returns-clause-told
returns-clause-told g c before h = HasRead-more before _ _ c.args.text.now.items _ _ c.read_some.new.room c.in-Ok.count h c.in-Ok.ensures.told refl c.in-Ok-append.ensures

pub returns-clause-end : goal.returns-clause-end
returns-clause-end g c z = end_read _ _ c.read_some.new.room c.in-Ok.count c.in-Ok.ensures.told z

pub returns-in_default-append-clause-most : goal.returns-in_default-append-clause-most
returns-in_default-append-clause-most g c before h = piece_up_to before _ _ c.args.text.now.items c.read_some.new.room c.in-Ok.count c.args.space h c.in-Ok.ensures.told c.in-Ok.ensures.count

pub returns-clause-most : goal.returns-clause-most
returns-clause-most g c before h = piece_up_to before _ _ c.args.text.now.items c.read_some.new.room c.in-Ok.count c.args.space h c.in-Ok.ensures.told c.in-Ok.ensures.count
