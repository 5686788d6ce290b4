-- Whether a row is what another one was, whatever their versions.
use Rattle.std.specs.Prelude.{Bool}
use Rattle.std.specs.Str.{bytes_eq}
use Rattle.ow_entity.specs.Row.{version_of, with_version}
use Rattle.ow_entity.specs.declared.rows.Row.{Row as EntityRow}
use Rattle.ow_row_text.specs.Item.{item_text}
use Rattle.ow_row_text.specs.declared.item.Item.TheVariants.{Row}

-- with the version of the new row, the old one is written as the new one is
abbrev pub is_unchanged : EntityRow → EntityRow → Bool
is_unchanged old new = bytes_eq (item_text (Row (with_version (version_of new) old))) (item_text (Row new))
