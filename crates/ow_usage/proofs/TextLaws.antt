-- What one cell more makes of the text.
use Rattle.std.proofs.Common.{◌≡◌, ◌++◌, ◌∷◌, [], ℕ, List, append_assoc, refl, sym, ap, ◌∙◌, subst}
use Rattle.ow_usage.specs.Cells.{Cells, Place}
use Rattle.ow_usage.specs.Text.{IsDayText, ShowsAll}
use Rattle.ow_usage.specs.declared.totals.Totals.{Totals}

-- what holds of a text that shows a cell and those after it holds of the text with the cell, and those after it
pub shown_more : (show : List ℕ → Place × Totals → List ℕ) (P : List ℕ → Type 0) (c : Place × Totals) (rest : Cells) (out new day : List ℕ) → IsDayText c.0.0 day
    → new ≡ out ++ show day c → ((text : List ℕ) → ShowsAll show (c ∷ rest) text → P (out ++ text)) → (text : List ℕ) → ShowsAll show rest text → P (new ++ text)
shown_more show P c rest out new day is e before text shown =
    subst P (sym (ap (λ xs. xs ++ text) e ∙ append_assoc out (show day c) text)) (before (show day c ++ text) (day, text, is, shown, refl))

-- ---- pieces that are put after one another

pub four_pieces : (o a b c : List ℕ) → ((o ++ a) ++ b) ++ c ≡ o ++ (a ++ (b ++ c))
four_pieces o a b c = append_assoc (o ++ a) b c ∙ append_assoc o a (b ++ c)

pub ten_pieces : (o a b c d e f g h i : List ℕ) → ((((((((o ++ a) ++ b) ++ c) ++ d) ++ e) ++ f) ++ g) ++ h) ++ i ≡ o ++ (a ++ (b ++ (c ++ (d ++ (e ++ (f ++ (g ++ (h ++ i))))))))
ten_pieces o a b c d e f g h i =
    four_pieces ((((((o ++ a) ++ b) ++ c) ++ d) ++ e) ++ f) g h i
    ∙ (four_pieces ((((o ++ a) ++ b) ++ c) ++ d) e f (g ++ (h ++ i))
    ∙ (four_pieces ((o ++ a) ++ b) c d (e ++ (f ++ (g ++ (h ++ i)))) ∙ four_pieces o a b (c ++ (d ++ (e ++ (f ++ (g ++ (h ++ i))))))))
