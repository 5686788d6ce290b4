-- A text in lower case that is an id's, and an id's text.
use Rattle.std.proofs.Common.{◌≡◌, ℕ, ◌+◌, ◌*◌, ◌^◌, ◌<◌, ◌++◌, ◌/◌, ◌%◌, zero, suc, Bool, true, false, List, [], ◌∷◌, length, take, drop, slice_index, subst, Some, None, Result, Ok, Err, if◌then◌else◌, refl, sym, ap, ◌∙◌, arith, length-take, length-drop}
use Rattle.std.specs.Int.{bytes_high_first, from_be_bytes, to_be_bytes, w64}
use Rattle.std.specs.Str.{bytes_eq}
use Rattle.std.proofs.lemmas.List.{take-append-drop}
use Rattle.std.proofs.lemmas.Nat.{be_bytes_8, from_be_bytes-to_be_bytes_8}
use Rattle.std.proofs.lemmas.Option.{none-some, same_Some}
use Rattle.std.proofs.lemmas.Slice.Eq.{bytes_eq-Decides}
use Rattle.hex.specs.Hex.{IsBytes, decode_sized, encode_lower, encode_with, lower_digits}
use Rattle.hex.specs.declared.error.FromHexError.{FromHexError}
use Rattle.hex.proofs.HexLemmas.{decode_of-ok, decode_sized-encode_lower, decode_sized-ok, decode_sized-twice, length-encode_with}
use Rattle.ow_records.specs.Id.{id_of, id_text}
use Rattle.ow_records.specs.Known.{IsId}
use Rattle.ow_records.specs.declared.ids.Id.{Id}
use Rattle.ow_records.specs.LowerId.{id_decoded, id_of_bytes, id_of_lower}
use Rattle.ow_records.proofs.IdLaws.{id_back, byte_fits}

-- ---- bytes

append_small : (xs ys : List ℕ) → IsBytes xs → IsBytes ys → (i : ℕ) → slice_index (xs ++ ys) i < 256
append_small [] ys hx hy i = hy i
append_small (x ∷ xs) ys hx hy zero = hx 0
append_small (x ∷ xs) ys hx hy (suc i) = append_small xs ys (λ j. hx (suc j)) hy i

take_small : (n : ℕ) (xs : List ℕ) → IsBytes xs → (i : ℕ) → slice_index (take n xs) i < 256
take_small zero xs h i = omega arith
take_small (suc n) [] h i = omega arith
take_small (suc n) (x ∷ xs) h zero = h 0
take_small (suc n) (x ∷ xs) h (suc i) = take_small n xs (λ j. h (suc j)) i

drop_small : (n : ℕ) (xs : List ℕ) → IsBytes xs → (i : ℕ) → slice_index (drop n xs) i < 256
drop_small zero xs h i = h i
drop_small (suc n) [] h i = omega arith
drop_small (suc n) (x ∷ xs) h i = drop_small n xs (λ j. h (suc j)) i

number_small : (k n i : ℕ) → slice_index (bytes_high_first k n) i < 256
number_small zero n i = omega arith
number_small (suc k) n zero = byte_fits k n
number_small (suc k) n (suc i) = number_small k n i

read_small : (bytes : List ℕ) → IsBytes bytes → from_be_bytes w64 bytes < 2 ^ 64
read_small bytes h = omega (arith, h 0, h 1, h 2, h 3, h 4, h 5, h 6, h 7)

encode_append : (xs ys : List ℕ) → encode_with lower_digits (xs ++ ys) ≡ encode_with lower_digits xs ++ encode_with lower_digits ys
unfolding encode_with
encode_append [] ys = refl
encode_append (x ∷ xs) ys = ap (λ t. slice_index lower_digits (x / 16) ∷ slice_index lower_digits (x % 16) ∷ t) (encode_append xs ys)

-- ---- the text of an id

-- the sixteen bytes of an id
abbrev pub id_bytes : Id → List ℕ
id_bytes id = to_be_bytes w64 id.namespace ++ to_be_bytes w64 id.count

pub bytes_small : (id : Id) → IsBytes (id_bytes id)
bytes_small id = append_small (to_be_bytes w64 id.namespace) (to_be_bytes w64 id.count) (λ i. number_small 8 id.namespace i) (λ i. number_small 8 id.count i)

pub text_is : (id : Id) → id_text id ≡ encode_lower (id_bytes id)
unfolding id_text
text_is id = sym (encode_append (to_be_bytes w64 id.namespace) (to_be_bytes w64 id.count))

pub length-id_text : (id : Id) → length (id_text id) ≡ 32
length-id_text id = ap length (text_is id) ∙ length-encode_with lower_digits (id_bytes id)

-- ---- a text that is an id's

bytes_known : (bytes : List ℕ) → length bytes ≡ 16 → IsBytes bytes → encode_lower bytes ≡ id_text (id_of_bytes bytes)
unfolding id_text
bytes_known bytes size small =
    let front : to_be_bytes w64 (from_be_bytes w64 (take 8 bytes)) ≡ take 8 bytes = be_bytes_8 (take 8 bytes) _ (omega (arith, size, length-take 8 bytes)) (take_small 8 bytes small) refl in
    let back : to_be_bytes w64 (from_be_bytes w64 (drop 8 bytes)) ≡ drop 8 bytes = be_bytes_8 (drop 8 bytes) _ (omega (arith, size, length-drop 8 bytes)) (drop_small 8 bytes small) refl in
    ap encode_lower (sym (take-append-drop 8 bytes)) ∙ encode_append (take 8 bytes) (drop 8 bytes) ∙ (λ i. encode_lower (sym front i) ++ encode_lower (sym back i))

with_by : (text bytes : List ℕ) (id : Id) (b : Bool) → bytes_eq (encode_lower bytes) text ≡ b → (if b then Some (id_of_bytes bytes) else None) ≡ Some id → (encode_lower bytes ≡ text) × (id_of_bytes bytes ≡ id)
with_by text bytes id true is e = ((bytes_eq-Decides (encode_lower bytes) text).0 is, same_Some (id_of_bytes bytes) id e)
with_by text bytes id false is e = absurd (none-some id e)

known_by : (text : List ℕ) (id : Id) (r : Result (List ℕ) FromHexError) → decode_sized text 16 ≡ r → id_decoded text r ≡ Some id → (id.namespace < 2 ^ 64) × (id.count < 2 ^ 64) × (text ≡ id_text id)
known_by text id (Err refused) is e = absurd (none-some id e)
known_by text id (Ok bytes) is e =
    let size : length text ≡ 2 * 16 = decode_sized-ok text 16 bytes is in
    let known = decode_of-ok text bytes (sym (decode_sized-twice text 16 size) ∙ is) in
    let same = with_by text bytes id (bytes_eq (encode_lower bytes) text) refl e in
    let small : IsBytes bytes = known.3 in
    let size_bytes : length bytes ≡ 16 = omega (arith, size, known.2) in
    subst (λ (x : Id). (x.namespace < 2 ^ 64) × (x.count < 2 ^ 64) × (text ≡ id_text x)) same.1
    (read_small (take 8 bytes) (take_small 8 bytes small), read_small (drop 8 bytes) (drop_small 8 bytes small), sym same.0 ∙ bytes_known bytes size_bytes small)

pub lower_known : (text : List ℕ) (id : Id) → id_of_lower text ≡ Some id → (id.namespace < 2 ^ 64) × (id.count < 2 ^ 64) × (text ≡ id_text id)
unfolding id_of_lower
lower_known text id e = known_by text id (decode_sized text 16) refl e

-- ---- an id's text is read back

bytes_back : (id : Id) → id.namespace < 2 ^ 64 → id.count < 2 ^ 64 → id_of_bytes (id_bytes id) ≡ id
bytes_back id small few =
    let front : from_be_bytes w64 (take 8 (id_bytes id)) ≡ id.namespace = from_be_bytes-to_be_bytes_8 id.namespace small in
    let back : from_be_bytes w64 (drop 8 (id_bytes id)) ≡ id.count = from_be_bytes-to_be_bytes_8 id.count few in
    λ i. record { namespace = front i; count = back i }

pub lower_back : (id : Id) → id.namespace < 2 ^ 64 → id.count < 2 ^ 64 → id_of_lower (id_text id) ≡ Some id
unfolding id_of_lower
lower_back id small few =
    let text = encode_lower (id_bytes id) in
    let same : bytes_eq text text ≡ true = (bytes_eq-Decides text text).1 refl in
    ap id_of_lower (text_is id) ∙ rw (decode_sized-encode_lower (id_bytes id) 16 refl (bytes_small id), same) (ap Some (bytes_back id small few))

-- as laws have it
pub lower_ids_back : (id : Id) → IsId id → id_of_lower (id_text id) ≡ Some id
lower_ids_back id h = lower_back id h.namespace h.count

pub lower_read : (text : List ℕ) (id : Id) → id_of_lower text ≡ Some id → IsId id × (text ≡ id_text id) × (id_of text ≡ Some id)
lower_read text id e =
    let known = lower_known text id e in
    let is : IsId id = record { namespace = known.0; count = known.1 } in
    (is, known.2, ap id_of known.2 ∙ id_back id is)
