-- What becomes of a live run that is lost, over the kept lists.
use Rattle.std.proofs.Common.{◌≡◌, ℕ, Some, None, get_or, sym, ap, ◌∙◌, subst, inl, inr}
use Rattle.std.specs.List.{find}
use Rattle.ow_floor.specs.declared.lists.Berth.{Berth}
use Rattle.ow_floor.specs.View.{is_number, is_of}
use Rattle.ow_floor.specs.Ends.{IsFreed, IsRunLost}
use Rattle.ow_floor.specs.Store.{IsCell, IsGood, IsSpot, Store, freed_in, opens, run_in, run_put}
use Rattle.ow_floor.proofs.Growing.{same_berth}
use Rattle.ow_floor.proofs.Showing.{good_freed, good_put, show_freed, show_lost}

abbrev pub IsLostSo : ℕ → Store → Store → Type 0
IsLostSo run R S = IsRunLost run R S × IsGood S

pub lost_made : (R F S : Store) (run k : ℕ) (b : Berth) (c : IsCell run_in (is_number run) R.runs k) → get_or R.runs k None ≡ Some b → IsFreed b.run R F → S ≡ run_put k None F → IsGood R → IsLostSo run R S
lost_made R F S run k b c here (inl gone) is good =
    let same = same_berth R run k c b here in
    let none = subst (λ (x : Berth). find (is_of x.run.id) (opens R.spots R.tasks) ≡ None) same gone.0 in
    let put : S ≡ run_put k None R = is ∙ ap (λ (U : Store). run_put k None U) gone.1 in
    subst (λ (U : Store). IsLostSo run R U) (sym put) (show_lost R run k c none, good_put R k None good)
lost_made R F S run k b c here (inr freed) is good =
    let same = same_berth R run k c b here in
    let spot = subst (λ (x : Berth). IsSpot (is_of x.run.id) R.spots R.tasks freed.0) same freed.1 in
    let put : S ≡ run_put k None (freed_in freed.0 R) = is ∙ ap (λ (U : Store). run_put k None U) freed.2 in
    subst (λ (U : Store). IsLostSo run R U) (sym put) (show_freed R run k freed.0 c spot, good_put (freed_in freed.0 R) k None (good_freed R (is_of c.item.run.id) freed.0 spot good))
