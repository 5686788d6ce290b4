-- Ids and numbers that were written read back.
use Rattle.std.proofs.Common.{◌≡◌, ℕ, zero, suc, ◌+◌, ◌*◌, ◌^◌, ◌<◌, ◌≤◌, List, [], ◌∷◌, ◌++◌, cond, length, take, drop, nat_lt, decimal, Some, None, option_and_then, refl, sym, ap, ◌∙◌, arith, length-append}
use Rattle.std.specs.Char.{digit_value}
use Rattle.std.specs.Int.{to_be_bytes, bytes_high_first, byte_at, w64}
use Rattle.std.specs.Str.Parse.{AllDigits, digits_value, digits_value_after, IsNumeral}
use Rattle.std.proofs.lemmas.Fmt.{decimal_is_IsNumeral}
use Rattle.std.proofs.lemmas.Nat.{from_be_bytes-to_be_bytes_8}
use Rattle.hex.specs.Hex.{IsBytes, lower_digits}
use Rattle.hex.proofs.HexLemmas.{decode_of-encode_lower, decode_sized-twice, length-encode_with}
use Rattle.ow_value.specs.Decimal.{digits_of, digit_after, number_after}
use Rattle.ow_records.specs.Id.{hex_16, hex_number, id_of, id_text, id_with, number_of_bytes}
use Rattle.ow_records.specs.Known.{IsId}
use Rattle.ow_records.specs.declared.ids.Id.{Id}

-- ---- numbers

value_grows : (n : ℕ) (ds : List ℕ) → n ≤ digits_value_after 10 n ds
value_grows n [] = omega arith
value_grows n (d ∷ ds) = omega (arith, value_grows (n * 10 + digit_value d) ds)

digit_known : (c : ℕ) → digit_value c < 10 → (48 ≤ c) × (c ≤ 57) × (digit_value c + 48 ≡ c)
digit_known c h = grind (arith)

one_digit : (n c v : ℕ) → (48 ≤ c) × (c ≤ 57) × (v + 48 ≡ c) → n * 10 + v < 2 ^ 64 → digit_after n c ≡ Some (n * 10 + v)
one_digit n c v h small = grind (arith)

number_after-value : (n : ℕ) (ds : List ℕ) → AllDigits 10 ds → digits_value_after 10 n ds < 2 ^ 64 → number_after n ds ≡ Some (digits_value_after 10 n ds)
number_after-value n [] h small = refl
number_after-value n (d ∷ ds) h small =
    let grows = value_grows (n * 10 + digit_value d) ds in
    ap (option_and_then (λ m. number_after m ds)) (one_digit n d (digit_value d) (digit_known d h.0) (omega (arith, grows)))
    ∙ number_after-value (n * 10 + digit_value d) ds h.1 small

digits_by : (ds : List ℕ) → IsNumeral 10 ds → digits_value 10 ds < 2 ^ 64 → digits_of ds ≡ Some (digits_value 10 ds)
digits_by [] h small = absurd (omega (arith, h.0))
digits_by (d ∷ ds) h small = number_after-value 0 (d ∷ ds) h.1 small

pub digits_of-decimal : (n : ℕ) → n < 2 ^ 64 → digits_of (decimal n) ≡ Some n
digits_of-decimal n h =
    let k = decimal_is_IsNumeral n h in
    digits_by (decimal n) k.0 (omega (arith, k.1)) ∙ ap Some k.1

-- ---- hexadecimal digits

pub byte_fits : (k n : ℕ) → byte_at k n < 256
byte_fits zero n = omega arith
byte_fits (suc k) n = omega arith

high_fit : (k n : ℕ) → IsBytes (bytes_high_first k n)
high_fit zero n i = omega arith
high_fit (suc k) n zero = byte_fits k n
high_fit (suc k) n (suc i) = high_fit k n i

bytes_fit : (n : ℕ) → IsBytes (to_be_bytes w64 n)
bytes_fit n = high_fit 8 n

pub length-hex_16 : (n : ℕ) → length (hex_16 n) ≡ 16
length-hex_16 n = length-encode_with lower_digits (to_be_bytes w64 n)

pub hex_number-hex_16 : (n : ℕ) → n < 2 ^ 64 → hex_number (hex_16 n) ≡ Some n
hex_number-hex_16 n h =
    ap number_of_bytes (decode_sized-twice (hex_16 n) 8 (length-hex_16 n) ∙ decode_of-encode_lower (to_be_bytes w64 n) (bytes_fit n))
    ∙ ap Some (from_be_bytes-to_be_bytes_8 n h)

take_front : (a b : List ℕ) (n : ℕ) → length a ≡ n → take n (a ++ b) ≡ a
take_front [] b zero e = refl
take_front [] b (suc n) e = absurd (omega arith)
take_front (x ∷ a) b zero e = absurd (omega arith)
take_front (x ∷ a) b (suc n) e = ap (λ z. x ∷ z) (take_front a b n (omega arith))

drop_front : (a b : List ℕ) (n : ℕ) → length a ≡ n → drop n (a ++ b) ≡ b
drop_front [] b zero e = refl
drop_front [] b (suc n) e = absurd (omega arith)
drop_front (x ∷ a) b zero e = absurd (omega arith)
drop_front (x ∷ a) b (suc n) e = drop_front a b n (omega arith)

long_enough : {A : Type 0} (n : ℕ) (x y : A) → 16 ≤ n → cond (nat_lt n 16) x y ≡ y
long_enough n x y h = grind arith

pub id_back : (id : Id) → IsId id → id_of (id_text id) ≡ Some id
unfolding id_of id_text
id_back id h =
    let a = hex_16 id.namespace in
    let b = hex_16 id.count in
    long_enough (length (a ++ b)) None (id_with (hex_number (take 16 (a ++ b))) (hex_number (drop 16 (a ++ b)))) (omega (arith, length-append a b, length-hex_16 id.namespace))
    ∙ (λ i. id_with (hex_number (take_front a b 16 (length-hex_16 id.namespace) i)) (hex_number (drop_front a b 16 (length-hex_16 id.namespace) i)))
    ∙ (λ i. id_with (hex_number-hex_16 id.namespace h.namespace i) (hex_number-hex_16 id.count h.count i))

pub ids_differ : (a b : Id) → IsId a → IsId b → id_text a ≡ id_text b → a ≡ b
ids_differ a b ha hb e =
    let same : Some a ≡ Some b = sym (id_back a ha) ∙ ap id_of e ∙ id_back b hb in
    cc

-- no two numbers of 64 bits have the same digits
pub hexes_differ : (m n : ℕ) → m < 2 ^ 64 → n < 2 ^ 64 → hex_16 m ≡ hex_16 n → m ≡ n
hexes_differ m n hm hn e =
    let same : Some m ≡ Some n = sym (hex_number-hex_16 m hm) ∙ ap hex_number e ∙ hex_number-hex_16 n hn in
    cc
