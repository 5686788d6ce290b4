-- Items that are known, one after another.
use Rattle.std.proofs.Common.{◌≡◌, ◌++◌, ◌∷◌, [], List, sym, subst}
use Rattle.std.specs.List.{All}
use Rattle.std.proofs.lemmas.List.Elements.{All-append, All-cons, All-nil}
use Rattle.ow_row_text.specs.declared.item.Item.{Item}
use Rattle.ow_keep.specs.Known.{IsItem}

pub fit_more : (old new : List Item) (i : Item) → All IsItem old → IsItem i → new ≡ old ++ i ∷ [] → All IsItem new
fit_more old new i h k e = subst (All IsItem) (sym e) (All-append IsItem old (i ∷ []) h (All-cons IsItem i [] k (All-nil IsItem)))
