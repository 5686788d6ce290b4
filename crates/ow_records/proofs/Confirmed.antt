-- What is read of a value and is written as it.
use Rattle.std.proofs.Common.{◌≡◌, ◌↔◌, Bool, IsTrue, true, false, cond, Option, Some, None, option_and_then, refl, sym, ap, ◌∙◌}
use Rattle.ow_value.specs.Field.{pairs_in, pairs_in-members_of}
use Rattle.ow_value.specs.SameValue.{same_value}
use Rattle.ow_value.specs.Value.{V, Pairs, members_of}
use Rattle.ow_value.specs.View.{view}
use Rattle.ow_value.specs.declared.val.Val.{Val}
use Rattle.ow_value.proofs.Equal.{tested, values}
use Rattle.ow_records.specs.RecordIn.{confirmed, is_written_as, record_from, record_in}
use Rattle.ow_records.specs.Written.{record_value}
use Rattle.ow_records.specs.declared.record.Record.{Record}

pub object_back : (ps : Pairs) → pairs_in (members_of ps) ≡ ps
object_back ps = pairs_in-members_of ps

-- ---- a record that is confirmed

is_written : (r : Record) (v : V) → record_value r ≡ v → is_written_as r v ≡ true
unfolding is_written_as
is_written r v e = (values (record_value r) v).1 e

written_so : (r : Record) (v : V) → is_written_as r v ≡ true → record_value r ≡ v
unfolding is_written_as
written_so r v e = (values (record_value r) v).0 e

-- a comparison with a value that is seen as the written record decides `is_written_as`
pub told_alike : (r : Record) (v w : Val) (same : Bool) → view v ≡ record_value r → IsTrue same ↔ (v ≡ w) → same ≡ is_written_as r (view w)
unfolding is_written_as
told_alike r v w same e h = tested same v w h ∙ ap (λ z. same_value z (view w)) e

pub confirmed_if : (v : V) (r : Record) → record_value r ≡ v → confirmed v r ≡ Some r
confirmed_if v r h = ap (λ t. cond t (Some r) None) (is_written r v h)

by_test : (v : V) (r s : Record) (b : Bool) → is_written_as r v ≡ b → cond b (Some r) None ≡ Some s → record_value s ≡ v
by_test v r s true e h = let same : r ≡ s = cc in ap record_value (sym same) ∙ written_so r v e
by_test v r s false e h = cc

by_read : (v : V) (o : Option Record) (r : Record) → option_and_then (confirmed v) o ≡ Some r → record_value r ≡ v
by_read v None r h = cc
by_read v (Some s) r h = by_test v s r (is_written_as s v) refl h

pub read_written : (v : V) (r : Record) → record_in v ≡ Some r → record_value r ≡ v
unfolding record_in
read_written v r h = by_read v (record_from v) r h
