-- How the bytes that a sink took grow with each write, and when its count of faults rose.
use Rattle.std.proofs.Common.{◌≡◌, ◌≤◌, ◌++◌, ℕ, List, [], Option, Some, None, Ok, Err, Result, OnOk, OnErr, refl, ap, append_assoc, append-nil, take, drop, arith, sym, ◌∙◌, subst}
use Rattle.std.proofs.lemmas.List.{take-append-drop}
use Rattle.ow_traits.specs.Streams.{Takes, Writes, TakesUpTo, TakesFront, Rose}
use Rattle.ow_traits.specs.declared.streams.Failed.{Failed}

-- ---- all of the bytes

pub Takes-none : (old : Option (List ℕ)) → Takes old old []
Takes-none None = refl
Takes-none (Some before) = simp append-nil

-- one after another
pub Takes-then : (old mid new : Option (List ℕ)) (a b : List ℕ) → Takes old mid a → Takes mid new b → Takes old new (a ++ b)
Takes-then None None new a b first then' = then'
Takes-then None (Some m) new a b first then' = cc
Takes-then (Some o) None new a b first then' = cc
Takes-then (Some o) (Some m) new a b first then' =
    let e : m ≡ o ++ a = cc in
    then' ∙ ap Some (ap (λ z. z ++ b) e ∙ simp append_assoc)

Writes-Takes : (old new : Option (List ℕ)) (piece : List ℕ) (n : ℕ) → Writes old new piece (Ok n) → Takes old new (take n piece)
Writes-Takes None new piece n wrote = wrote
Writes-Takes (Some before) new piece n wrote = wrote

Writes-fails : (old new : Option (List ℕ)) (piece : List ℕ) (e : Failed) → Writes old new piece (Err e) → Takes old new []
Writes-fails None new piece e wrote = wrote
Writes-fails (Some before) new piece e wrote = wrote ∙ ap Some (sym (append-nil before))

-- a write goes on
pub Takes-more : (old mid new : Option (List ℕ)) (front piece : List ℕ) (n : ℕ) → Takes old mid front → Writes mid new piece (Ok n) → Takes old new (front ++ take n piece)
Takes-more old mid new front piece n took wrote = Takes-then old mid new front (take n piece) took (Writes-Takes mid new piece n wrote)

pub Takes-failed : (old mid new : Option (List ℕ)) (front piece : List ℕ) (e : Failed) → Takes old mid front → Writes mid new piece (Err e) → Takes old new front
Takes-failed old mid new front piece e took wrote =
    let P : List ℕ → Type 0 = λ b. Takes old new b in
    subst P (append-nil front) (Takes-then old mid new front [] took (Writes-fails mid new piece e wrote))

-- ---- the bytes before a rest

pub TakesUpTo-none : (old : Option (List ℕ)) (bytes : List ℕ) → TakesUpTo old old bytes bytes
TakesUpTo-none old bytes = record { front = []; whole = refl; took = Takes-none old }

pub TakesUpTo-more : (old mid new : Option (List ℕ)) (bytes rest rest' : List ℕ) (n : ℕ)
    → TakesUpTo old mid bytes rest → Writes mid new rest (Ok n) → rest' ≡ drop n rest → TakesUpTo old new bytes rest'
TakesUpTo-more old mid new bytes rest rest' n so_far wrote e = record {
  front = so_far.front ++ take n rest;
  whole = so_far.whole ∙ (rw e (simp append_assoc (ap (λ z. so_far.front ++ z) (sym (take-append-drop n rest)))));
  took = Takes-more old mid new so_far.front rest n so_far.took wrote;
}

pub TakesUpTo-failed : (old mid new : Option (List ℕ)) (bytes rest : List ℕ) (e : Failed)
    → TakesUpTo old mid bytes rest → Writes mid new rest (Err e) → TakesUpTo old new bytes rest
TakesUpTo-failed old mid new bytes rest e so_far wrote = record {
  front = so_far.front;
  whole = so_far.whole;
  took = Takes-failed old mid new so_far.front rest e so_far.took wrote;
}

pub TakesUpTo-all : (old new : Option (List ℕ)) (bytes : List ℕ) → TakesUpTo old new bytes [] → Takes old new bytes
TakesUpTo-all old new bytes all =
    let e : all.front ≡ bytes = sym (all.whole ∙ simp append-nil) in
    let P : List ℕ → Type 0 = λ b. Takes old new b in
    subst P e all.took

-- ---- a prefix of the bytes

pub took_all : (old new : Option (List ℕ)) (bytes : List ℕ) → Takes old new bytes → TakesFront old new bytes
took_all old new bytes took = ([], record { front = bytes; whole = sym (append-nil bytes); took = took })

pub took_nothing : (old : Option (List ℕ)) (bytes : List ℕ) → TakesFront old old bytes
took_nothing old bytes = (bytes, TakesUpTo-none old bytes)

-- all bytes or a prefix of them, by how the call ended
pub took_front : {T E : Type 0} (r : Result T E) (old new : Option (List ℕ)) (bytes : List ℕ) → OnOk r (Takes old new bytes) → OnErr r (TakesFront old new bytes) → TakesFront old new bytes
took_front (Ok x) old new bytes ok err = took_all old new bytes ok
took_front (Err x) old new bytes ok err = err

-- some bytes, and then a prefix of the bytes that follow
pub TakesFront-then : (old mid new : Option (List ℕ)) (a b : List ℕ) → Takes old mid a → TakesFront mid new b → TakesFront old new (a ++ b)
TakesFront-then old mid new a b first then' = (
  then'.0,
  record {
    front = a ++ then'.1.front;
    whole = ap (λ z. a ++ z) then'.1.whole ∙ simp append_assoc;
    took = Takes-then old mid new a then'.1.front first then'.1.took;
  },
)

-- a prefix of some bytes is a prefix of more bytes
pub TakesFront-longer : (old new : Option (List ℕ)) (bytes later : List ℕ) → TakesFront old new bytes → TakesFront old new (bytes ++ later)
TakesFront-longer old new bytes later part = (
  part.0 ++ later,
  record {
    front = part.1.front;
    whole = ap (λ z. z ++ later) part.1.whole ∙ simp append_assoc;
    took = part.1.took;
  },
)

-- ---- counts of faults

-- a count that rose in a part of a call rose in the call
pub rose_since : (a b c d : ℕ) → a ≤ b → b ≤ c → Rose b c → c ≤ d → Rose a d
rose_since a b c d ab bc rose cd small = grind arith
