-- Equality of values is decided by its test.
use Rattle.std.proofs.Common.{◌≡◌, ◌↔◌, Bool, IsTrue, refl, ap, ap₂}
use Rattle.std.specs.Bool.{Decides}
use Rattle.std.specs.Cmp.{booleans_Decides}
use Rattle.std.proofs.lemmas.Bool.Decides.{Decides-and, Decides-int_eq, Decides-like, same_from_decides}
use Rattle.std.proofs.lemmas.Slice.Eq.{bytes_eq-Decides}
use Rattle.ow_value.specs.Value.{V, null, boolean, whole, text, list, object, Items, no_items, item, Members, no_members, member}
use Rattle.ow_value.specs.SameValue.{same_value, same_items, same_members}
use Rattle.ow_value.specs.View.{view}
use Rattle.ow_value.specs.declared.val.Val.{Val}
use Rattle.ow_value.proofs.Views.{view-inj}

mutual
  pub values : (a b : V) → Decides (same_value a b) (a ≡ b)
  values null null = (λ h. refl, λ e. refl)
  values (boolean a) (boolean b) = Decides-like _ (λ e. ap boolean e) (λ e. cc) (booleans_Decides a b)
  values (whole a) (whole b) = Decides-like _ (λ e. ap whole e) (λ e. cc) (Decides-int_eq a b)
  values (text a) (text b) = Decides-like _ (λ e. ap text e) (λ e. cc) (bytes_eq-Decides a b)
  values (list a) (list b) = Decides-like _ (λ e. ap list e) (λ e. cc) (items a b)
  values (object a) (object b) = Decides-like _ (λ e. ap object e) (λ e. cc) (members a b)
  values a b = (λ h. cc, λ e. cc)

  items : (a b : Items) → Decides (same_items a b) (a ≡ b)
  items no_items no_items = (λ h. refl, λ e. refl)
  items (item v vs) (item w ws) = Decides-like _ (λ p. ap₂ item p.0 p.1) (λ e. (cc, cc)) (Decides-and _ _ (values v w) (items vs ws))
  items a b = (λ h. cc, λ e. cc)

  members : (a b : Members) → Decides (same_members a b) (a ≡ b)
  members no_members no_members = (λ h. refl, λ e. refl)
  members (member j v ms) (member k w ns) =
      Decides-like _ (λ p. λ i. member (p.0.0 i) (p.0.1 i) (p.1 i)) (λ e. ((cc, cc), cc))
      (Decides-and _ _ (Decides-and _ _ (bytes_eq-Decides j k) (values v w)) (members ms ns))
  members a b = (λ h. cc, λ e. cc)

-- the result of a comparison of two values is that of `same_value`
pub tested : (r : Bool) (a b : Val) → (IsTrue r ↔ (a ≡ b)) → r ≡ same_value (view a) (view b)
tested r a b h = same_from_decides r (same_value (view a) (view b)) (Decides-like r (λ e. ap view e) (λ e. view-inj a b e) h) (values (view a) (view b))
