-- Records whose ends are at most a moment, and those whose ends are later.
use Rattle.std.proofs.Common.{◌≡◌, ◌-◌, ◌<◌, ◌≤◌, ℕ, zero, suc, Bool, true, false, List, [], ◌∷◌, ◌++◌, length, filter, get_or, min, take, drop, refl, sym, ap, ◌∙◌, subst, arith}
use Rattle.std.specs.Prelude.{nat_le}
use Rattle.std.proofs.lemmas.Bool.{leb-true}
use Rattle.std.proofs.lemmas.List.{take_rest}
use Rattle.std.proofs.Math.Nat.{min-le_left, min-le_right}
use Rattle.ow_records.specs.declared.record.Record.{Record}
use Rattle.ow_records.specs.Order.{AreFrom, AreKept, namespace_key}
use Rattle.ow_records.specs.Records.{id_key, is_due, is_retained, put_by, sorted_by}
use Rattle.ow_records.proofs.Filtered.{filter_of_sorted}
use Rattle.ow_records.proofs.Sorting.{all_weaker, sorted_more}

-- ---- before the first end

-- a moment before each end
module _ (least until : ℕ) (before : until < least) where
  not_due : (r : Record) → least ≤ r.span.end → (b : Bool) → nat_le r.span.end until ≡ b → b ≡ false
  not_due r from true e = absurd (omega (arith, before, from, leb-true r.span.end until e))
  not_due r from false e = refl

  pub none_due : (rs : List Record) → AreFrom least rs → filter (is_due until) rs ≡ []
  none_due [] from = refl
  none_due (r ∷ rs) from = rw (not_due r from.0 (nat_le r.span.end until) refl) (none_due rs from.1)

  pub all_retained : (rs : List Record) → AreFrom least rs → filter (is_retained until) rs ≡ rs
  all_retained [] from = refl
  all_retained (r ∷ rs) from = rw (not_due r from.0 (nat_le r.span.end until) refl) (ap (λ zs. r ∷ zs) (all_retained rs from.1))

-- ---- no end is before a moment

pub from_lower : (least lower : ℕ) (rs : List Record) → lower ≤ least → AreFrom least rs → AreFrom lower rs
from_lower least lower rs le from = all_weaker (λ r. least ≤ r.span.end) (λ r. lower ≤ r.span.end) rs (λ r h. omega (arith, le, h)) from

all_and : (least : ℕ) (rs : List Record) (r : Record) → AreFrom least rs → least ≤ r.span.end → AreFrom least (rs ++ r ∷ [])
all_and least [] r from le = (le, tt)
all_and least (x ∷ rs) r from le = (from.0, all_and least rs r from.1 le)

-- with one more record
pub from_more : (least : ℕ) (rs : List Record) (r : Record) → AreFrom least rs → AreFrom (min least r.span.end) (rs ++ r ∷ [])
from_more least rs r from = all_and (min least r.span.end) rs r (from_lower least (min least r.span.end) rs (min-le_left least r.span.end) from) (min-le_right least r.span.end)

-- by the first one and the others
pub from_first : (moment : ℕ) (rs : List Record) (r : Record) → 1 ≤ length rs → r ≡ get_or rs 0 r → moment ≤ r.span.end → AreFrom moment (take (length rs - 1) (drop 1 rs)) → AreFrom moment rs
from_first moment [] r le is end from = absurd (omega (arith, le))
from_first moment (x ∷ rs) r le is end from =
    (subst (λ (y : Record). moment ≤ y.span.end) is end, subst (λ (ys : List Record). AreFrom moment ys) (take_rest (x ∷ rs) 1) from)

-- ---- records in their three orders

pub at_end : (rs : List Record) (r : Record) (n : ℕ) → n ≡ length rs → take n rs ++ r ∷ drop n rs ≡ rs ++ r ∷ []
at_end [] r zero e = refl
at_end [] r (suc n) e = refl
at_end (x ∷ rs) r zero e = absurd (omega (arith, e))
at_end (x ∷ rs) r (suc n) e = ap (λ zs. x ∷ zs) (at_end rs r n (omega (arith, e)))

module _ (by_end by_id by_namespace ends ids namespaces : List Record) (least lower : ℕ) (kept : AreKept by_end by_id by_namespace least) where
  -- one more is put in each
  pub kept_more : (r : Record) → ends ≡ by_end ++ r ∷ [] → ids ≡ put_by id_key r by_id → namespaces ≡ put_by namespace_key r by_namespace → lower ≡ min least r.span.end
      → AreKept ends ids namespaces lower
  kept_more r end id namespace low = record {
    ids = id ∙ ap (put_by id_key r) kept.ids ∙ sym (sorted_more id_key by_end r) ∙ ap (sorted_by id_key) (sym end);
    namespaces = namespace ∙ ap (put_by namespace_key r) kept.namespaces ∙ sym (sorted_more namespace_key by_end r) ∙ ap (sorted_by namespace_key) (sym end);
    ends = subst (λ (rs : List Record). AreFrom lower rs) (sym end) (subst (λ (m : ℕ). AreFrom m (by_end ++ r ∷ [])) (sym low) (from_more least by_end r kept.ends));
  }

  -- those that pass stay in each
  pub kept_passing : (p : Record → Bool) → ends ≡ filter p by_end → ids ≡ filter p by_id → namespaces ≡ filter p by_namespace → AreFrom lower ends → AreKept ends ids namespaces lower
  kept_passing p end id namespace from = record {
    ids = id ∙ ap (filter p) kept.ids ∙ filter_of_sorted id_key p by_end ∙ ap (sorted_by id_key) (sym end);
    namespaces = namespace ∙ ap (filter p) kept.namespaces ∙ filter_of_sorted namespace_key p by_end ∙ ap (sorted_by namespace_key) (sym end);
    ends = from;
  }
