use Rattle.std.proofs.Common.{arith, subst, inl, ◌∙◌, ◌+◌, ◌-◌, length, Bool, Some, List, ℕ, Bor}
use Rattle.csv.specs.Reading.{ReadRecord, strip_bom}
use Rattle.csv.specs.Records.{fields_of}
use Rattle.ow_tenant.proofs.RowsLaws.{no-more, row-read, rows-done, rows-good, rows-read, rows-start, tells-bad}
use Rattle.ow_tenant.proofs.read.read_rows.Goals as goal

pub loop-number-init : goal.loop-number-init
loop-number-init c = record {
  trim = c.table_reader-reader.ensures.trim;
  ready = c.table_reader-reader.ensures.ready;
  config = c.table_reader-reader.ensures.config;
  rows = (strip_bom c.args.text.now, c.table_reader-reader.ensures.source, rw c.new-draft.ensures (rows-start c.args.text.now _ _ c.table_reader-reader.ensures.state (omega arith)));
}

pub returns-then-not-found-clause-told : goal.returns-then-not-found-clause-told
returns-then-not-found-clause-told c =
    let it = c.loop-number.invariant in
    let a = c.loop-number.reader in
    let b = c.read_byte_record.new.self in
    let fields = fields_of c.read_byte_record.new.row in
    let read = subst (λ (found : Bool). ReadRecord (λ (s : Bor (List ℕ)). Some s.now) a b found fields) c.if-not-found.true (c.in-Ok.ensures.reads it.trim it.ready) in
    let none = rows-read (λ (s : Bor (List ℕ)). Some s.now) a b fields it.rows.0 (length c.args.text.now + 2 - c.loop-number.number) (length c.args.text.now + 1 - c.loop-number.number) (omega arith) it.config it.rows.1 read in
    it.rows.2 ∙ rows-done c.loop-number.number c.loop-number.draft _ none

pub returns-in-Err-clause-told : goal.returns-in-Err-clause-told
returns-in-Err-clause-told c =
    let it = c.loop-number.invariant in
    let a = c.loop-number.reader in
    let b = c.read_byte_record.new.self in
    let fields = fields_of c.read_byte_record.new.row in
    let read = subst (λ (found : Bool). ReadRecord (λ (s : Bor (List ℕ)). Some s.now) a b found fields) c.if-not-found.false (c.in-Ok.ensures.reads it.trim it.ready) in
    let m = row-read (λ (s : Bor (List ℕ)). Some s.now) a b fields it.rows.0 (length c.args.text.now + 2 - c.loop-number.number) (length c.args.text.now + 1 - c.loop-number.number) (omega arith) it.config it.rows.1 read in
    tells-bad _ c.loop-number.number c.loop-number.draft _ _ fields c.in-Err.refusal it.rows.2 m.2 c.in-Err.ensures.bad

pub loop-number-preserved : goal.loop-number-preserved
loop-number-preserved c =
    let it = c.loop-number.invariant in
    let a = c.loop-number.reader in
    let b = c.read_byte_record.new.self in
    let fields = fields_of c.read_byte_record.new.row in
    let all = c.in-Ok.ensures.reads it.trim it.ready in
    let read = subst (λ (found : Bool). ReadRecord (λ (s : Bor (List ℕ)). Some s.now) a b found fields) c.if-not-found.false all in
    let m = row-read (λ (s : Bor (List ℕ)). Some s.now) a b fields it.rows.0 (length c.args.text.now + 2 - c.loop-number.number) (length c.args.text.now + 2 - (c.loop-number.number + 1)) (omega arith) it.config it.rows.1 read in
    record {
      trim = all.3 ∙ it.trim;
      ready = inl (c.in-Ok.ensures.ready it.trim);
      config = all.2 ∙ it.config;
      rows = (m.0, m.1, it.rows.2 ∙ rows-good c.loop-number.number c.loop-number.draft c.take_row.new.draft _ _ fields m.2 c.in_default-take_row.ensures.ok);
    }

pub returns-clause-told : goal.returns-clause-told
returns-clause-told c =
    let it = c.loop-number.invariant in
    it.rows.2 ∙ rows-done c.loop-number.number c.loop-number.draft _ (no-more c.loop-number.reader.state it.rows.0 (length c.args.text.now + 2 - c.loop-number.number) (omega arith))
