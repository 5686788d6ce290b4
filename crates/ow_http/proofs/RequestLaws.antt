-- A request is determined by its parts: that its route takes its method holds of every request, and the evidence can't differ.
use Rattle.std.proofs.Common.{◌≡◌, ◌∙◌, true, Result, Ok, Err, IfOk, ap, sym}
use mathlib.Core.HLevel.{is_prop→PathP}
use Rattle.std.proofs.Math.Bool.{Bool-set}
use Rattle.std.proofs.Math.Nat.{ℕ_set}
use Rattle.ow_value.specs.declared.memory.NoMemory.{NoMemory}
use Rattle.ow_http.specs.declared.request.Read.{Read}
use Rattle.ow_http.specs.declared.request.Request.{Request}
use Rattle.ow_http.specs.Request.{parts_of}
use Rattle.ow_http.specs.CallKind.{takes}
use Rattle.ow_http.specs.Route.{is_whole}

told_by_parts : (a b : Request) → parts_of a ≡ parts_of b → a ≡ b
told_by_parts a b e = λ i. record {
  route = (e i).route;
  method = (e i).method;
  key = (e i).key;
  query = (e i).query;
  raw_query = (e i).raw_query;
  headers = (e i).headers;
  body = (e i).body;
  size = (e i).size;
  close = (e i).close;
  allowed = is_prop→PathP (λ j. takes (e j).route (e j).method ≡ true) (λ j. Bool-set _ _) a.allowed b.allowed i;
  whole = is_prop→PathP (λ j. is_whole (e j).route ≡ true) (λ j. Bool-set _ _) a.whole b.whole i;
}

pub alike : (P : Type 0) (a b : Request) → (P → parts_of a ≡ parts_of b) × (parts_of a ≡ parts_of b → P) → (P → a ≡ b) × (a ≡ b → P)
alike P a b both = (λ p. told_by_parts a b (both.0 p), λ e. both.1 (ap parts_of e))

pub equal : (r : Result Request NoMemory) (a : Request) → IfOk r (λ b. parts_of b ≡ parts_of a) → IfOk r (λ b. b ≡ a)
equal (Ok b) a e = told_by_parts b a e
equal (Err e) a h = h

-- what was read is determined by its request, whose size is how many bytes it took
pub read_by_request : (a b : Read) → a.request ≡ b.request → a ≡ b
read_by_request a b e =
    let used = a.sized ∙ (ap (λ r. r.size) e ∙ sym b.sized) in
    λ i. record {
      request = e i;
      used = used i;
      sized = is_prop→PathP (λ j. used j ≡ (e j).size) (λ j. ℕ_set _ _) a.sized b.sized i;
    }

pub read_alike : (P : Type 0) (a b : Read) → (P → a.request ≡ b.request) × (a.request ≡ b.request → P) → (P → a ≡ b) × (a ≡ b → P)
read_alike P a b both = (λ p. read_by_request a b (both.0 p), λ e. both.1 (ap (λ r. r.request) e))
