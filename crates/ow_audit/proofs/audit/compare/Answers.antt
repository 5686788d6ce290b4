use Rattle.std.proofs.Common.{sym}
use Rattle.ow_audit.specs.Differs.{drain, fall, number, twice}
use Rattle.ow_audit.specs.Places.{notes_of}
use Rattle.ow_audit.proofs.DifferLaws.{all_match, are_once, are_right, counts_of, is_drained, is_twice, is_undrained, no_wrong}
use Rattle.ow_audit.proofs.audit.compare.Goals as goal

pub returns-in-Some-wrong_number : goal.returns-in-Some-wrong_number
returns-in-Some-wrong_number g c =
    let all = notes_of c.args.receipts.now in
    let L = c.args.book.now.ledger in
    let book = c.args.entries.now in
    let right = no_wrong all L book c.requires.entries c.in_ok-found.field-0 (c.in_ok-found.ensures {u = tt}) c.in_default.is in
    number c.in-Some-wrong_number.held c.in-Some-wrong_number.kept (are_right all L book c.requires.entries right) (c.in-Some-wrong_number.ensures {u = tt})
    (counts_of all L book c.requires.entries c.in-Some-wrong_number.held c.in-Some-wrong_number.kept c.of_counts.result c.of_counts.ensures)

pub returns-in-Some-2 : goal.returns-in-Some-2
returns-in-Some-2 g c =
    let all = notes_of c.args.receipts.now in
    let L = c.args.book.now.ledger in
    let book = c.args.entries.now in
    let right = no_wrong all L book c.requires.entries c.in_ok-found.field-0 (c.in_ok-found.ensures {u = tt}) c.in_default.is in
    drain (are_right all L book c.requires.entries right) (c.in_default-wrong_number.ensures {u = tt})
    (is_undrained all L book c.requires.entries c.in_ok-found-2.field-0 c.in-Some-2.found (c.in_ok-found-2.ensures {u = tt}) c.in-Some-2.is)

pub returns-in-Some-first_twice : goal.returns-in-Some-first_twice
returns-in-Some-first_twice g c =
    let all = notes_of c.args.receipts.now in
    let L = c.args.book.now.ledger in
    let book = c.args.entries.now in
    let right = no_wrong all L book c.requires.entries c.in_ok-found.field-0 (c.in_ok-found.ensures {u = tt}) c.in_default.is in
    twice (are_right all L book c.requires.entries right) (c.in_default-wrong_number.ensures {u = tt})
    (is_drained all L book c.requires.entries c.in_ok-found-2.field-0 (c.in_ok-found-2.ensures {u = tt}) c.in_default-2.is)
    (is_twice all book c.args.counts.now c.of_counts-in-Some-first_twice.result c.in-Some-first_twice.place c.in-Some-first_twice.held c.requires.counts c.of_counts-in-Some-first_twice.ensures (c.in-Some-first_twice.ensures {u = tt}))

pub returns-in-Some-first_fall_of : goal.returns-in-Some-first_fall_of
returns-in-Some-first_fall_of g c =
    let all = notes_of c.args.receipts.now in
    let L = c.args.book.now.ledger in
    let book = c.args.entries.now in
    let right = no_wrong all L book c.requires.entries c.in_ok-found.field-0 (c.in_ok-found.ensures {u = tt}) c.in_default.is in
    fall c.in-Some-first_fall_of.earlier c.in-Some-first_fall_of.later (are_right all L book c.requires.entries right) (c.in_default-wrong_number.ensures {u = tt})
    (is_drained all L book c.requires.entries c.in_ok-found-2.field-0 (c.in_ok-found-2.ensures {u = tt}) c.in_default-2.is)
    (are_once all book c.args.counts.now c.requires.counts right (c.in_default-first_twice.ensures {u = tt}))
    (sym (c.in-Some-first_fall_of.ensures {u = tt})) c.of_counts-in-Some-first_fall_of.ensures

pub returns : goal.returns
returns g c =
    let all = notes_of c.args.receipts.now in
    let L = c.args.book.now.ledger in
    let book = c.args.entries.now in
    let right = no_wrong all L book c.requires.entries c.in_ok-found.field-0 (c.in_ok-found.ensures {u = tt}) c.in_default.is in
    all_match all L (are_right all L book c.requires.entries right) (c.in_default-wrong_number.ensures {u = tt})
    (is_drained all L book c.requires.entries c.in_ok-found-2.field-0 (c.in_ok-found-2.ensures {u = tt}) c.in_default-2.is)
    (are_once all book c.args.counts.now c.requires.counts right (c.in_default-first_twice.ensures {u = tt}))
    (sym (c.in_default-first_fall_of.ensures {u = tt}))
