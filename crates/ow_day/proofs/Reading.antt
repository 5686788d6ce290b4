-- What a read gives, and what is left after it.
use Rattle.std.proofs.Common.{◌≡◌, ◌≤◌, ℕ, List, [], Option, Some, None, Ok, IfSome, length, take, drop, refl, sym, arith, length-take}
use Rattle.std.proofs.lemmas.List.{take-append-drop}
use Rattle.ow_traits.specs.Streams.{ReadsSome}
use Rattle.ow_day.specs.Input.{Gives}

pub gives_piece : (left left' : Option (List ℕ)) (room : List ℕ) (n : ℕ) → ReadsSome left left' room (Ok n) → Gives left left' (take n room)
gives_piece None left' room n read = tt
gives_piece (Some bytes) None room n read = let e = read.1 in cc
gives_piece (Some bytes) (Some more) room n read =
    let e : more ≡ drop n bytes = let is = read.1 in cc in
    (more, refl, rw (read.2, e) (sym (take-append-drop n bytes)))

pub ends_at_none : (left left' : Option (List ℕ)) (room : List ℕ) (n : ℕ) → ReadsSome left left' room (Ok n) → n ≡ 0 → (left' ≡ left) × IfSome left (λ bytes. bytes ≡ [])
ends_at_none None left' room n read none = (read, tt)
ends_at_none (Some bytes) left' room n read none = (rw none at read.1, read.3 none)

pub length_piece : (room : List ℕ) (n space : ℕ) → n ≤ space → space ≤ length room → length (take n room) ≡ n
length_piece room n space le within = omega (arith, length-take n room)
