use Rattle.std.proofs.Common.{sym, subst, ◌≡◌, ◌≢◌, List, ℕ, Some, None, MatchResult}
use Rattle.ow_tenant.specs.Row.{row_of}
use Rattle.ow_tenant.specs.declared.line.RowFault.TheVariants.{NoMemory}
use Rattle.ow_tenant.proofs.row.read_row.Goals as goal

pub returns : goal.returns
unfolding row_of
returns c = subst (λ (fs : List (List ℕ)). MatchResult c.row_by.result (λ l. row_of fs ≡ Some l) (λ e. e ≢ NoMemory → row_of fs ≡ None)) (sym c.in-Some.ensures) c.row_by.ensures
