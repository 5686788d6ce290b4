-- The place of a word among words that are read as texts.
use Rattle.std.proofs.Common.{◌≡◌, ℕ, Bool, true, false, List, [], ◌∷◌, cond, length, map, not, Option, Some, None, refl, ap₂, nat_lt}
use Rattle.std.specs.List.{position, position_or_len}
use Rattle.std.proofs.lemmas.List.{length-map}
use Rattle.std.proofs.lemmas.List.Recursion.{is_position_or_len}

turned_cond : {X : Type 0} (b : Bool) (x y : X) → cond (not b) x y ≡ cond b y x
turned_cond true x y = refl
turned_cond false x y = refl

pub place_of_texts : {X Y : Type 0} (p : Y → Bool) (f : X → Y) (xs : List X) → position_or_len p (map f xs) ≡ position_or_len (λ x. p (f x)) xs
place_of_texts p f xs = is_position_or_len (λ ys. position_or_len p (map f ys)) (λ x. p (f x)) refl (λ x ys. turned_cond (p (f x)) _ _) xs

pub position_of_texts : {X Y : Type 0} (p : Y → Bool) (f : X → Y) (xs : List X) → position p (map f xs) ≡ position (λ x. p (f x)) xs
position_of_texts p f xs = ap₂ (λ n m. cond (nat_lt n m) (Some n) None) (place_of_texts p f xs) (length-map xs f)
