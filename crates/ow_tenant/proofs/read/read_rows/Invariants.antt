use Rattle.std.proofs.Common.{◌≡◌, ◌+◌, ◌-◌, ℕ, List, Some, length}
use Rattle.csv.specs.Reading.{Ready, default_config, records_from, source_of}
use Rattle.csv.specs.declared.reader.Trim.TheVariants as trim
use Rattle.ow_tenant.specs.Table.{rows_of, with_rows}
use Rattle.ow_tenant.proofs.read.read_rows.Given as goal

abbrev pub invariant-loop-number : goal.invariant-loop-number
invariant-loop-number l = record {
  trim : l.reader.trim ≡ trim.None;
  ready : Ready l.reader;
  config : l.reader.config ≡ default_config;
  rows : (y : List ℕ) × (source_of (λ s. Some s.now) l.reader ≡ Some y) × (rows_of l.fn.text ≡ with_rows l.number l.draft (records_from default_config (length l.fn.text + 2 - l.number) l.reader.state y));
}
