-- Statements that are carried out one after the other.
use Rattle.std.proofs.Common.{◌+◌, ◌++◌, ℕ, List, [], ◌∷◌, refl, sym, ap, subst, ◌∙◌, append_assoc, append-nil, arith}
use Rattle.ow_day.specs.declared.statement_outcome.StatementOutcome.{StatementOutcome}
use Rattle.ow_day.specs.Statement.{Statement}
use Rattle.ow_day.specs.Machine.{Machine, Does, CarriesOut}
use Rattle.ow_day.specs.Texts.{lines_of}

-- one statement more
pub carried_more : (M N K : Machine) (ss : List Statement) (s : Statement) (outcome : StatementOutcome) (lines : List ℕ) (failed here : ℕ) → CarriesOut M ss lines failed N → Does N s here outcome K
    → CarriesOut M (ss ++ s ∷ []) (lines ++ lines_of outcome) (failed + here) K
carried_more M N K [] s outcome lines failed here (none, no_fault, same) does = (
  outcome,
  here,
  K,
  [],
  0,
  subst (λ X. Does X s here outcome K) same does,
  ap (λ l. l ++ lines_of outcome) none ∙ sym (append-nil (lines_of outcome)),
  omega (arith, no_fault),
  (refl, refl, refl),
)
carried_more M N K (t ∷ ts) s outcome lines failed here (first, now, L, later, rest, did, is, sum, then') does = (
  first,
  now,
  L,
  later ++ lines_of outcome,
  rest + here,
  did,
  ap (λ l. l ++ lines_of outcome) is ∙ append_assoc (lines_of first) later (lines_of outcome),
  omega (arith, sum),
  carried_more L N K ts s outcome later rest here then' does,
)
