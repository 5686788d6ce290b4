-- Where nothing is committed, and once what is committed is kept.
use Rattle.std.proofs.Common.{◌≡◌, List, refl, sym, ◌∙◌, subst}
use Rattle.std.specs.List.{AllByRecursion}
use Rattle.ow_entity.specs.declared.rows.Row.{Row}
use Rattle.ow_floor.specs.declared.moves.Moved.{Moved}
use Rattle.ow_floor.specs.Trace.{Trace}
use Rattle.ow_commits.specs.Keeping.{FollowingView, Follows, IsKnownMove, KeepingView, StandsFollowing, StandsForKept}
use Rattle.ow_commits.specs.Kept.{OthersView, others_bytes}
use Rattle.ow_commits.specs.Laws.{ItemsWithoutMovesAreKept}
use Rattle.ow_commits.proofs.Moving.{moves_go}

-- where nothing moved
pub quiet_stands : ItemsWithoutMovesAreKept
quiet_stands v o rs T items stands sound right own none =
    let goes = moves_go (others_bytes o) rs items T v.bytes v.bytes v.opens v.opens right own sound stands.ids (subst (λ (ms : List Moved). AllByRecursion IsKnownMove ms) (sym none) tt) (stands.bytes, stands.opens)
    (subst (λ (ms : List Moved). Follows ms v.bytes v.opens v.bytes v.opens) (sym none) (refl, refl)) in
    record { bytes = goes.stands.0; opens = goes.stands.1; ids = goes.ids }

pub stands_same : (v w : KeepingView) (o : OthersView) (rs : List Row) (T : Trace) → w.bytes ≡ v.bytes → w.opens ≡ v.opens → StandsForKept v o rs T → StandsForKept w o rs T
stands_same v w o rs T bytes opens stands = record { bytes = bytes ∙ stands.bytes; opens = opens ∙ stands.opens; ids = stands.ids }

-- once what follows is kept
pub follow_stands : (c : FollowingView) (w : KeepingView) → w.bytes ≡ c.bytes → w.opens ≡ c.opens → (o : OthersView) (rs : List Row) (T : Trace) → StandsFollowing c o rs T → StandsForKept w o rs T
follow_stands c w bytes opens o rs T stands = record { bytes = bytes ∙ stands.bytes; opens = opens ∙ stands.opens; ids = stands.ids }
