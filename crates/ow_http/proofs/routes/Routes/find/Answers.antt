use Rattle.std.proofs.Common.{ℕ, suc, ◌<◌, List, [], ◌∷◌, slice_index, rules}
use Rattle.ow_http.specs.Table.{found_of}
use Rattle.ow_http.proofs.BySegments.{AreBytes}
use Rattle.ow_http.proofs.PlaceFound.{found-is-place}
use Rattle.ow_http.proofs.routes.Routes.find.Goals as goal

are-bytes : (p : List ℕ) → ((k : ℕ) → slice_index p k < 256) → AreBytes p
are-bytes [] h = tt
are-bytes (b ∷ p) h = (h 0, are-bytes p (λ k. h (suc k)))

pub returns-in-Ok : goal.returns-in-Ok
unfolding found_of
returns-in-Ok c = rw (← found-is-place c.args.path.now (are-bytes c.args.path.now (λ k. (c.type_inv.path k).fits))) (search rules)

pub returns-in-Err : goal.returns-in-Err
unfolding found_of
returns-in-Err c = rw (← found-is-place c.args.path.now (are-bytes c.args.path.now (λ k. (c.type_inv.path k).fits))) (search rules)
