use Rattle.std.proofs.Common.{◌≡◌, Bool, true, false, not, ℕ, List, codes, rules, refl, sym, subst}
use Rattle.std.specs.List.{list_all}
use Rattle.std.specs.List.Sorted.{IsStrictlySortedBy}
use Rattle.std.proofs.lemmas.List.Sums.{AllPass-from_list_all}
use Rattle.ow_names.specs.Slash.{is_slash, HasNoSlash}
use Rattle.ow_tables.specs.Builtin.{builtin}
use Rattle.ow_tables.specs.Region.{AreKept}
use Rattle.ow_tables.proofs.tables.Tables.new.Goals as goal

from_not : (b : Bool) → not b ≡ true → b ≡ false
from_not true e = sym e
from_not false e = refl

tested : (s : List ℕ) → list_all (λ b. not (is_slash b)) s ≡ true → HasNoSlash s
tested s e k d lt = from_not _ (AllPass-from_list_all (λ b. not (is_slash b)) s e k d lt)

kept : AreKept builtin
unfolding IsStrictlySortedBy
kept = record {
  rise = ((refl, tt), (tt, tt));
  parts = (tested (codes "whisk.system") refl, (tested (codes "whisk.system") refl, tt));
}

pub invariant_of-result : goal.invariant_of-result
invariant_of-result c =
    let same : c.push-2.new.self.items ≡ builtin = search rules in
    subst AreKept (sym same) kept
