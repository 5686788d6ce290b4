-- What a stop at any moment of a commit leaves.
use Rattle.std.proofs.Common.{◌≡◌, true, List, subst, arith}
use Rattle.sqlite.specs.Store.{Ghosts}
use Rattle.sqlite.specs.State.{HasCleanDisk, Survives}
use Rattle.sqlite.specs.Held.{Held, state}
use Rattle.sqlite.proofs.StateLemmas.{survives_then}
use Rattle.sqlite.proofs.Callers.{survives_begin}
use Rattle.ow_traits.specs.declared.change_list.Change.{Change}
use Rattle.ow_sqlite.specs.Commit.{IsAfterAll, MakesAll, SurvivesCommit}

-- the changes are made in a transaction, which is then committed
pub stops_safely : {S : Type 0} (g : Ghosts S) (changes : List Change) (old begun last end : Held S) → begun ≡ record old { in_transaction = true }
    → (HasCleanDisk (state g last) → MakesAll g changes begun last) → Survives (state g begun) (state g last) (λ _. ⊥)
    → Survives (state g last) (state g end) (λ db. db ≡ (state g last).now.trees) → SurvivesCommit g changes old end
stops_safely g changes old begun last end e made one two =
    let inside : Survives (state g (record old { in_transaction = true })) (state g last) (λ _. ⊥) = subst (λ h. Survives (state g h) (state g last) (λ _. ⊥)) e one in
    let whole : HasCleanDisk (state g last) → MakesAll g changes (record old { in_transaction = true }) last = λ clean. subst (λ h. MakesAll g changes h last) e (made clean) in
    survives_then (state g old) (state g last) (state g end) (λ _. ⊥) (λ db. db ≡ (state g last).now.trees) (IsAfterAll g changes old) (λ _ db none. absurd none)
    (λ clean db is. (last, whole (omega (arith, two.clean, clean)), is)) (survives_begin g old (state g last) (λ _. ⊥) inside) two
