use Rattle.std.proofs.Common.{◌≡◌, ◌+◌, ◌∷◌, suc, take, drop, sym, ap, ◌∙◌, arith}
use Rattle.std.proofs.lemmas.List.{take_rest}
use Rattle.ow_runners.specs.Program.{lines_in}
use Rattle.ow_runners.proofs.Lines.{lines_at, one_line}
use Rattle.ow_runners.proofs.program_output.first_line.Goals as goal

pub returns-in-Some-clause-lines : goal.returns-in-Some-clause-lines
returns-in-Some-clause-lines c =
    let e : suc c.in-Some.place ≡ c.in-Some.place + 1 = omega arith in
    lines_at c.args.bytes.now c.in-Some.place (sym c.newline_in.ensures ∙ c.in-Some.is)
    ∙ ap (λ n. take c.in-Some.place c.args.bytes.now ∷ lines_in (drop n c.args.bytes.now)) e
    ∙ ap (λ bs. take c.in-Some.place c.args.bytes.now ∷ lines_in bs) (sym (take_rest c.args.bytes.now (c.in-Some.place + 1)))

pub returns-in-None-clause-lines : goal.returns-in-None-clause-lines
returns-in-None-clause-lines c = one_line c.args.bytes.now (sym c.newline_in.ensures ∙ c.in-None.is) c.requires.some
