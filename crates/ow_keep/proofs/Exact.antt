-- What the result of `kept_rows` says of the rows.
use Rattle.std.proofs.Common.{◌≡◌, List, Result, Ok, Err, MatchResult, IfOk, IfErr}
use Rattle.std.specs.List.{AllByRecursion}
use Rattle.ow_keep.specs.Kept.{AreKept, TellsBad}
use Rattle.ow_keep.specs.Known.{IsItem}
use Rattle.ow_keep.specs.Judged.{judged, IsBad}
use Rattle.ow_row_text.specs.Sorted.{Entries}
use Rattle.ow_row_text.specs.declared.item.Item.{Item}
use Rattle.ow_keep.specs.declared.refusal.KeepRefusal.{KeepRefusal}
use Rattle.ow_keep.specs.declared.refusal.KeepRefusal.TheVariants.{NoMemory}
use Rattle.ow_keep.proofs.Whole.{judged-sound, judged-kept, tells_bad, only_kept}

module _ {T : Type 0} (items : T → List Item) (rows : Entries) where
  abbrev pub Exact : Result T KeepRefusal → Type 0
  Exact r = MatchResult r (λ x. judged rows ≡ Ok (items x)) (IsBad (judged rows))

  pub is_kept : (r : Result T KeepRefusal) → Exact r → IfOk r (λ x. AreKept rows (items x))
  is_kept (Ok x) h = judged-sound rows (items x) h
  is_kept (Err e) h = tt

  pub is_bad : (r : Result T KeepRefusal) → Exact r → IfErr r (TellsBad rows)
  is_bad (Ok x) h = tt
  is_bad (Err e) h = tells_bad rows e h

  pub is_only : (r : Result T KeepRefusal) → Exact r → (is : List Item) → AreKept rows is → AllByRecursion IsItem is → MatchResult r (λ x. items x ≡ is) (λ e. e ≡ NoMemory)
  is_only (Ok x) h is k g = let f = judged-kept rows is k g in cc
  is_only (Err e) h is k g = only_kept rows is e h k g
