-- An id's text is one line.
use Rattle.std.proofs.Common.{◌≡◌, ℕ, ◌<◌, ◌/◌, ◌%◌, ◌==◌, Bool, true, false, List, [], ◌∷◌, slice_index, subst, suc, Some, refl, sym, arith}
use Rattle.std.proofs.lemmas.Bool.{eqb-true}
use Rattle.std.proofs.lemmas.List.Elements.{All-cons, All-nil}
use Rattle.std.proofs.lemmas.Option.{none-some}
use Rattle.hex.specs.Hex.{IsBytes, encode_with, hex_digit_value, lower_digits}
use Rattle.hex.proofs.HexLemmas.{IsDigits-lower_digits}
use Rattle.ow_records.specs.Id.{id_text}
use Rattle.ow_records.specs.declared.ids.Id.{Id}
use Rattle.ow_records.proofs.LowerIds.{bytes_small, id_bytes, text_is}
use Rattle.ow_day.specs.Printed.{HasNo}

digit_by : (c d : ℕ) (b : Bool) → hex_digit_value c ≡ Some d → (c == 10) ≡ b → (c == 10) ≡ false
digit_by c d true value is = absurd (none-some d (subst (λ x. hex_digit_value x ≡ Some d) (eqb-true c 10 is) value))
digit_by c d false value is = is

digit_no : (d : ℕ) → d < 16 → (slice_index lower_digits d == 10) ≡ false
digit_no d lt = digit_by (slice_index lower_digits d) d _ (IsDigits-lower_digits d lt) refl

encoded_no : (xs : List ℕ) → IsBytes xs → HasNo 10 (encode_with lower_digits xs)
unfolding encode_with
encoded_no [] h = All-nil (λ c. (c == 10) ≡ false)
encoded_no (x ∷ xs) h =
    let small : x < 256 = h 0 in
    All-cons (λ c. (c == 10) ≡ false) (slice_index lower_digits (x / 16)) (slice_index lower_digits (x % 16) ∷ encode_with lower_digits xs) (digit_no (x / 16) (omega arith))
    (All-cons (λ c. (c == 10) ≡ false) (slice_index lower_digits (x % 16)) (encode_with lower_digits xs) (digit_no (x % 16) (omega arith)) (encoded_no xs (λ j. h (suc j))))

-- an id's text is one line
pub no_newline : (id : Id) → HasNo 10 (id_text id)
no_newline id = subst (HasNo 10) (sym (text_is id)) (encoded_no (id_bytes id) (bytes_small id))
