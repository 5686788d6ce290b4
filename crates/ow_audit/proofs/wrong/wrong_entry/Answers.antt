use Rattle.std.proofs.Common.{◌<◌, length, arith}
use Rattle.ow_audit.specs.Places.{notes_of, placed}
use Rattle.ow_audit.proofs.DifferLaws.{unbooked_wrong, unheld_wrong}
use Rattle.ow_audit.proofs.PlaceLaws.{counted_none, counted_there, right_all, right_before}
use Rattle.ow_audit.proofs.wrong.wrong_entry.Goals as goal

pub returns-in-None-None : goal.returns-in-None-None
returns-in-None-None g c =
    let book = c.args.book.now in
    let ps = placed (notes_of c.args.receipts.now) in
    λ k. right_all book ps k (c.in-None-None.ensures {u = tt}) (λ lt. counted_there (length book) ps c.args.counts.now k c.requires (c.in-None-None.ensures' {u = tt} k (omega (arith, c.requires.len))) lt)

pub returns-in_ok-unheld-in-None-Some : goal.returns-in_ok-unheld-in-None-Some
returns-in_ok-unheld-in-None-Some g c =
    let book = c.args.book.now in
    let ps = placed (notes_of c.args.receipts.now) in
    let all = c.in-None-Some.ensures {u = tt} in
    let m = c.in-None-Some.ensures' {u = tt} in
    let e = c.in_ok-unheld-in-None-Some.ensures {u = tt} in
    let within : c.in-None-Some.place < length book = omega (arith, c.requires.len, m.0) in
    unheld_wrong book ps c.in_ok-unheld-in-None-Some.field-0 c.in-None-Some.place e.0 e.1 e.2 within (counted_none (length book) ps c.args.counts.now c.in-None-Some.place c.requires m.1 within)
    (λ j lt. right_all book ps j all (λ less. counted_there (length book) ps c.args.counts.now j c.requires (m.2 j lt) less))

pub returns-in_ok-unbooked-in-Some-None : goal.returns-in_ok-unbooked-in-Some-None
returns-in_ok-unbooked-in-Some-None g c =
    let book = c.args.book.now in
    let ps = placed (notes_of c.args.receipts.now) in
    let w = c.in-Some-None.held.now in
    let s = c.in-Some-None.ensures {u = tt} in
    let m = c.in-Some-None.ensures' {u = tt} in
    let e = c.in_ok-unbooked-in-Some-None.ensures {u = tt} in
    unbooked_wrong book ps c.in_ok-unbooked-in-Some-None.field-0 w e.0 e.1 e.2 s.0 s.1
    (λ j lt. right_before book ps w.place j lt s.2 (λ less. counted_there (length book) ps c.args.counts.now j c.requires (m j (omega (arith, c.requires.len))) less))

pub returns-in_ok-unbooked-in-Some-Some : goal.returns-in_ok-unbooked-in-Some-Some
returns-in_ok-unbooked-in-Some-Some g c =
    let book = c.args.book.now in
    let ps = placed (notes_of c.args.receipts.now) in
    let w = c.in-Some-Some.held.now in
    let s = c.in-Some-Some.ensures {u = tt} in
    let m = c.in-Some-Some.ensures' {u = tt} in
    let e = c.in_ok-unbooked-in-Some-Some.ensures {u = tt} in
    let sooner = c.if-held-place.true in
    unbooked_wrong book ps c.in_ok-unbooked-in-Some-Some.field-0 w e.0 e.1 e.2 s.0 s.1
    (λ j lt. right_before book ps w.place j lt s.2 (λ less. counted_there (length book) ps c.args.counts.now j c.requires (m.2 j (omega (arith, sooner, lt))) less))

pub returns-in_ok-unheld-in-Some-Some : goal.returns-in_ok-unheld-in-Some-Some
returns-in_ok-unheld-in-Some-Some g c =
    let book = c.args.book.now in
    let ps = placed (notes_of c.args.receipts.now) in
    let w = c.in-Some-Some.held.now in
    let s = c.in-Some-Some.ensures {u = tt} in
    let m = c.in-Some-Some.ensures' {u = tt} in
    let e = c.in_ok-unheld-in-Some-Some.ensures {u = tt} in
    let later = c.if-held-place.false in
    let within : c.in-Some-Some.place < length book = omega (arith, c.requires.len, m.0) in
    unheld_wrong book ps c.in_ok-unheld-in-Some-Some.field-0 c.in-Some-Some.place e.0 e.1 e.2 within (counted_none (length book) ps c.args.counts.now c.in-Some-Some.place c.requires m.1 within)
    (λ j lt. right_before book ps w.place j (omega (arith, later, lt)) s.2 (λ less. counted_there (length book) ps c.args.counts.now j c.requires (m.2 j lt) less))
