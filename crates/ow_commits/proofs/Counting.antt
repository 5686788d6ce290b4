-- The last count of a namespace takes the place of the one before.
use Rattle.std.proofs.Common.{◌≡◌, List, [], ◌∷◌, Bool, true, false, map, refl, ap, arith}
use Rattle.std.specs.List.{AllByRecursion}
use Rattle.std.proofs.lemmas.Bool.Decides.{nat_tests}
use Rattle.ow_floor.specs.View.{is_in, put_id}
use Rattle.ow_row_text.specs.Item.{count_key}
use Rattle.ow_row_text.specs.Sorted.{Makes}
use Rattle.ow_row_text.proofs.Lists.{put_front}
use Rattle.ow_commits.specs.Commits.{put_of}
use Rattle.ow_commits.specs.Keeping.{IsDrawn}
use Rattle.ow_commits.specs.Kept.{count_item}
use Rattle.ow_records.specs.declared.ids.Id.{Id}
use Rattle.ow_records.specs.Known.{IsId}
use Rattle.ow_value.proofs.KeySearch.{turned_eq}
use Rattle.ow_commits.proofs.Keys.{count_other}
use Rattle.ow_commits.proofs.Places.{put_behind, replaced}
use Rattle.ow_commits.proofs.Sections.{count_of}

counted_by : (id x : Id) (xs : List Id) (b : Bool) → is_in id.namespace x ≡ b → IsId id → IsId x → Makes (put_of (count_item id) ∷ []) (map count_of xs) (map count_of (put_id id xs))
    → Makes (put_of (count_item id) ∷ []) (map count_of (x ∷ xs)) (map count_of (put_id id (x ∷ xs)))
unfolding put_id
counted_by id x xs true e h hx rest =
    let same : id.namespace ≡ x.namespace = grind (arith, nat_tests) in
    rw e (replaced count_of id x xs (ap count_key same))
counted_by id x xs false e h hx rest =
    rw e (put_behind count_of id x xs (put_id id xs) (count_other id.namespace x.namespace h.namespace hx.namespace (turned_eq x.namespace id.namespace e)) rest)

pub counted : (id : Id) (ids : List Id) → IsId id → AllByRecursion IsDrawn ids → Makes (put_of (count_item id) ∷ []) (map count_of ids) (map count_of (put_id id ids))
unfolding put_id
counted id [] h all = put_front count_of id []
counted id (x ∷ ids) h all = counted_by id x ids (is_in id.namespace x) refl h all.0.is (counted id ids h all.1)
