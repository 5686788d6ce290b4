-- What a text reads as, by what `serde_json` said.
use Rattle.std.proofs.Common.{◌≡◌, ℕ, ◌≤◌, ◌<◌, List, Bool, true, false, Some, None, Result, Ok, Err, MatchResult, ◌≢◌, refl, sym, ap, ◌∙◌, arith}
use Rattle.std.proofs.lemmas.Str.{IsUtf8-from_is_utf8, is_utf8-from_IsUtf8}
use Rattle.std.specs.Str.{IsUtf8, is_utf8}
use Rattle.std.specs.Prelude.{nat_le}
use Rattle.std.proofs.lemmas.Bool.Decides.{nat_tests}
use Rattle.serde_json.specs.Data as json
use Rattle.serde_json.specs.Read.{read}
use Rattle.ow_value.specs.Value.{V, depth}
use Rattle.ow_value.specs.Read.{whole_of, reading, json_of, IsReadAs}
use Rattle.ow_value.specs.declared.reader.ValueRefusal.TheVariants.{NotJson, NotWhole, TooDeep, NoMemory}
use Rattle.ow_value.specs.declared.reader.ValueRefusal.{ValueRefusal}
use Rattle.ow_value.specs.declared.val.Val.{Val}
use Rattle.ow_value.specs.View.{view}

-- ---- each outcome

of_text : (s : List ℕ) → IsUtf8 s → json_of s ≡ read s
of_text s u = rw (is_utf8-from_IsUtf8 s u)

no_text : (s : List ℕ) (b : Bool) → is_utf8 s ≡ b → (IsUtf8 s → read s ≡ None) → json_of s ≡ None
no_text s true e h = of_text s (IsUtf8-from_is_utf8 s e) ∙ h (IsUtf8-from_is_utf8 s e)
no_text s false e h = rw e

pub reads_no_json : (limit : ℕ) (s : List ℕ) → (IsUtf8 s → read s ≡ None) → reading limit s ≡ Err NotJson
reads_no_json limit s h = rw (no_text s _ refl h)

reads_not_whole : (limit : ℕ) (s : List ℕ) (d : json.Data) → IsUtf8 s → read s ≡ Some d → whole_of d ≡ None → reading limit s ≡ Err NotWhole
reads_not_whole limit s d u e h = rw (of_text s u, e, h)

le_test : (m n : ℕ) → m ≤ n → nat_le m n ≡ true
le_test m n h = grind (arith, nat_tests)

gt_test : (m n : ℕ) → n < m → nat_le m n ≡ false
gt_test m n h = grind (arith, nat_tests)

reads_too_deep : (limit : ℕ) (s : List ℕ) (d : json.Data) (v : V) → IsUtf8 s → read s ≡ Some d → whole_of d ≡ Some v → limit < depth v → reading limit s ≡ Err TooDeep
reads_too_deep limit s d v u e h lt = rw (of_text s u, e, h, gt_test (depth v) limit lt)

pub reads_value : (limit : ℕ) (s : List ℕ) (d : json.Data) (v : V) → IsUtf8 s → read s ≡ Some d → whole_of d ≡ Some v → depth v ≤ limit → reading limit s ≡ Ok v
reads_value limit s d v u e h le = rw (of_text s u, e, h, le_test (depth v) limit le)

-- ---- what was read

pub read_too_deep : (limit : ℕ) (s : List ℕ) (v : V) → IsReadAs s v → limit < depth v → reading limit s ≡ Err TooDeep
read_too_deep limit s v h lt = reads_too_deep limit s h.parsed v h.utf8 h.reads h.whole lt

pub read_value : (limit : ℕ) (s : List ℕ) (v : V) → IsReadAs s v → depth v ≤ limit → reading limit s ≡ Ok v
read_value limit s v h le = reads_value limit s h.parsed v h.utf8 h.reads h.whole le

-- what was taken from a value of `serde_json`'s
pub taken_is_read : (s : List ℕ) (d : json.Data) → IsUtf8 s → read s ≡ Some d → (r : Result Val ValueRefusal) → MatchResult r (λ v. whole_of d ≡ Some (view v)) (λ e. e ≢ NoMemory → (e ≡ NotWhole) × (whole_of d ≡ None))
    → MatchResult r (λ v. IsReadAs s (view v)) (λ e. (limit : ℕ) → e ≢ NoMemory → reading limit s ≡ Err e)
taken_is_read s d u e (Ok v) h = record { parsed = d; utf8 = u; reads = e; whole = h }
taken_is_read s d u e (Err x) h = λ limit other. let q = h other in reads_not_whole limit s d u e q.1 ∙ ap Err (sym q.0)
