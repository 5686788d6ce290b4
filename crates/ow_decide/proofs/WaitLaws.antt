-- Those who wait, from the newest backwards.
use Rattle.std.proofs.Common.{◌≡◌, ◌<◌, ℕ, zero, suc, Bool, cond, List, [], ◌∷◌, None, Some, length, drop, drop-cons, get_or, refl, ap, ◌∙◌}
use Rattle.ow_records.specs.declared.ids.Id.{Id}
use Rattle.ow_records.specs.Id.{same_id}
use Rattle.ow_decide.specs.Waiting.{wait_shows}
use Rattle.ow_decide.specs.declared.waits.Shows.{Shows}
use Rattle.ow_decide.specs.declared.waits.Wait.{Wait}

-- what is found among the last ones is found
pub wait_found : (id : Id) (n : ℕ) (ws : List Wait) (shows : Shows) → wait_shows id (drop n ws) ≡ Some shows → wait_shows id ws ≡ Some shows
wait_found id n [] shows found = empty n found
  where
    empty : (n : ℕ) → wait_shows id (drop n []) ≡ Some shows → wait_shows id [] ≡ Some shows
    empty zero h = h
    empty (suc n) h = h
wait_found id zero (w ∷ ws) shows found = found
wait_found id (suc n) (w ∷ ws) shows found = rw (wait_found id n ws shows found) refl

-- one place further back
pub wait_back : (id : Id) (ws : List Wait) (i : ℕ) (d : Wait) (b : Bool) → i < length ws → same_id (get_or ws i d).id id ≡ b → wait_shows id (drop (suc i) ws) ≡ None
    → wait_shows id (drop i ws) ≡ cond b (Some (get_or ws i d).shows) None
wait_back id ws i d b lt is none = ap (wait_shows id) (drop-cons ws i d lt) ∙ rw (none, is) refl
