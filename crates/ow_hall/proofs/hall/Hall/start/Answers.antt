use Rattle.ow_hall.proofs.hall.Hall.start.Goals as goal

pub invariant_of-result : goal.invariant_of-result
invariant_of-result g c =
    let opened = c.in-Ok.ensures.opened in
    (opened.keeps, opened.room, opened.holds)
