-- How the changes of a commit are made one after another.
use Rattle.std.proofs.Common.{◌≡◌, ◌<◌, ◌≤◌, [], ◌∷◌, ◌+◌, ℕ, suc, List, Result, Ok, Err, OnOk, length, drop, get_or, refl, sym, ap, ◌∙◌, subst, arith}
use Rattle.std.proofs.Math.ListN.{drop_of_length-le}
use Rattle.std.proofs.Math.Seq.{drop-cons}
use Rattle.sqlite.specs.Store.{Ghosts}
use Rattle.sqlite.specs.Held.{Held}
use Rattle.sqlite_value.specs.declared.value.Value.{Value}
use Rattle.sqlite_value.specs.declared.value.Value.TheVariants.{Text}
use Rattle.ow_traits.specs.declared.change_list.Change.{Change}
use Rattle.ow_traits.specs.declared.change_list.Change.TheVariants.{Put, Drop as Dropped, Retire}
use Rattle.ow_sqlite.specs.Commit.{Makes, MakesAll}
use Rattle.ow_sqlite.specs.Statements.{Executed, drop_sql, put_old_sql, put_sql}

-- ---- one change

-- the parameters are the texts of the key and of the text
module _ {S T E : Type 0} (g : Ghosts S) (r : Result T E) (change : Change) (key text : List ℕ) where
  executed_two : (sql : List ℕ) (a b : Value) (old new : Held S) → OnOk r (Executed g sql (a ∷ b ∷ []) old new) → a ≡ Text key → b ≡ Text text → OnOk r (Executed g sql (Text key ∷ Text text ∷ []) old new)
  executed_two sql a b old new made first second =
      subst (λ (y : Value). OnOk r (Executed g sql (Text key ∷ y ∷ []) old new)) second (subst (λ (x : Value). OnOk r (Executed g sql (x ∷ b ∷ []) old new)) first made)

  pub makes_put : (a b : Value) (old new : Held S) → OnOk r (Executed g put_sql (a ∷ b ∷ []) old new) → change ≡ Put key text → a ≡ Text key → b ≡ Text text → OnOk r (Makes g change old new)
  makes_put a b old new made is first second = subst (λ (c : Change). OnOk r (Makes g c old new)) (sym is) (executed_two put_sql a b old new made first second)

  pub makes_drop : (a : Value) (old new : Held S) → OnOk r (Executed g drop_sql (a ∷ []) old new) → change ≡ Dropped key → a ≡ Text key → OnOk r (Makes g change old new)
  makes_drop a old new made is first =
      subst (λ (c : Change). OnOk r (Makes g c old new)) (sym is) (subst (λ (x : Value). OnOk r (Executed g drop_sql (x ∷ []) old new)) first made)

  pub makes_retire : (a b d : Value) (old mid new : Held S) → Executed g drop_sql (a ∷ []) old mid → OnOk r (Executed g put_old_sql (b ∷ d ∷ []) mid new) → change ≡ Retire key text
      → a ≡ Text key → b ≡ Text key → d ≡ Text text → OnOk r (Makes g change old new)
  makes_retire a b d old mid new dropped made is first again second =
      let gone : Executed g drop_sql (Text key ∷ []) old mid = subst (λ (x : Value). Executed g drop_sql (x ∷ []) old mid) first dropped in
      subst (λ (c : Change). OnOk r (Makes g c old new)) (sym is) (both r (executed_two put_old_sql b d mid new made again second) gone)
    where
      both : (q : Result T E) → OnOk q (Executed g put_old_sql (Text key ∷ Text text ∷ []) mid new) → Executed g drop_sql (Text key ∷ []) old mid → OnOk q (Makes g (Retire key text) old new)
      both (Ok x) put gone = (mid, gone, put)
      both (Err e) put gone = put

-- ---- all changes

-- the next change, and then the changes after it
pub makes_next : {S : Type 0} (g : Ghosts S) (changes : List Change) (i : ℕ) (change : Change) (now next last : Held S) → i < length changes → get_or changes i change ≡ change
    → Makes g change now next → MakesAll g (drop (i + 1) changes) next last → MakesAll g (drop i changes) now last
unfolding MakesAll
makes_next {S} g changes i change now next last within is made rest =
    let P : List Change → Type 0 = λ cs. MakesAll g cs now last in
    let one : suc i ≡ i + 1 = omega arith in
    subst P (sym (drop-cons changes i change within ∙ ap (λ c. c ∷ drop (suc i) changes) is ∙ ap (λ n. change ∷ drop n changes) one)) (next, made, rest)

-- after the last change there is none
pub makes_none : {S : Type 0} (g : Ghosts S) (changes : List Change) (i : ℕ) (now : Held S) → length changes ≤ i → MakesAll g (drop i changes) now now
unfolding MakesAll
makes_none g changes i now past =
    let P : List Change → Type 0 = λ cs. MakesAll g cs now now in
    subst P (sym (drop_of_length-le changes past)) refl

pub ok_then : {T E : Type 0} (r : Result T E) (P Q : Type 0) → (P → Q) → OnOk r P → OnOk r Q
ok_then (Ok x) P Q f p = f p
ok_then (Err e) P Q f p = p
