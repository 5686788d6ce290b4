-- What is known of the places of a floor is known of what is open there.
use Rattle.std.proofs.Common.{List, [], ◌∷◌, IfSome, Option, Some, None}
use Rattle.std.specs.List.{AllByRecursion}
use Rattle.ow_records.specs.Known.{IsKnownUnrecorded}
use Rattle.ow_records.specs.Unrecorded.{unrecorded_of}
use Rattle.ow_records.specs.declared.activations.Activation.{Activation}
use Rattle.ow_floor.specs.Store.{opens}
use Rattle.ow_floor.specs.declared.activations.Open.{Open}
use Rattle.ow_floor.specs.declared.lists.Spot.{Spot}

pub opens_known : (ss : List Spot) (ts : List (Option Activation)) → AllByRecursion (λ t. IfSome t (λ a. IsKnownUnrecorded (unrecorded_of a))) ts
    → AllByRecursion (λ (o : Open). IsKnownUnrecorded (unrecorded_of o.task)) (opens ss ts)
opens_known [] ts h = tt
opens_known (s ∷ ss) [] h = tt
opens_known (s ∷ ss) (None ∷ ts) h = opens_known ss ts h.1
opens_known (s ∷ ss) (Some a ∷ ts) h = (h.0, opens_known ss ts h.1)
