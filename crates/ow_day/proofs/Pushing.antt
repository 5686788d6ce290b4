-- Bytes that are appended one after another.
use Rattle.std.proofs.Common.{◌≡◌, ◌++◌, ℕ, List, Result, Ok, Err, OnOk, ap, ◌∙◌, append_assoc}

-- bytes are appended to a number between two words
pub behind_number : {T E : Type 0} (r : Result T E) (old middle new before digits behind last : List ℕ) → middle ≡ old ++ (before ++ (digits ++ behind)) → OnOk r (new ≡ middle ++ last)
    → OnOk r (new ≡ old ++ (before ++ (digits ++ (behind ++ last))))
behind_number (Ok x) old middle new before digits behind last first second = second ∙ ap (λ t. t ++ last) first ∙ simp append_assoc
behind_number (Err e) old middle new before digits behind last first second = tt
