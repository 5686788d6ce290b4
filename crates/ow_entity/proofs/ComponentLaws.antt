-- Names that are read one after another.
use Rattle.std.proofs.Common.{◌≡◌, List, [], ◌∷◌, ◌++◌, Result, Ok, Err, refl, ap, append_assoc}
use Rattle.ow_names.specs.declared.full.FullName.{FullName}
use Rattle.ow_entity.specs.Chain.{result_map}
use Rattle.ow_entity.specs.declared.refusal.EntityRefusal.{EntityRefusal}

-- one more name is read and put last
pub put_next : (read : List FullName) (n : FullName) (r : Result (List FullName) EntityRefusal)
    → result_map (λ ns. (read ++ n ∷ []) ++ ns) r ≡ result_map (λ ns. read ++ ns) (result_map (λ ns. n ∷ ns) r)
put_next read n (Ok ns) = ap Ok (append_assoc read (n ∷ []) ns)
put_next read n (Err e) = refl
