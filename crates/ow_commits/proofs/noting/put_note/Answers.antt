use Rattle.std.proofs.Common.{◌≡◌, ap, ◌∙◌, arith}
use Rattle.ow_commits.specs.Noting.{place_of}
use Rattle.ow_commits.proofs.Noted.{pushed_at, set_at}
use Rattle.ow_commits.proofs.noting.put_note.Goals as goal

pub returns-then-place-len : goal.returns-then-place-len
returns-then-place-len c =
    let place : c.place_of-place.result ≡ place_of c.args.note c.args.notes.now.items = c.place_of-place.ensures ∙ ap (place_of c.args.note) c.deref.ensures.value in
    set_at c.args.note c.args.notes.now.items c.place_of-place.result place (omega (arith, c.args.notes.now.ok.0))

pub returns-else-place-len : goal.returns-else-place-len
returns-else-place-len c =
    let place : c.place_of-place.result ≡ place_of c.args.note c.args.notes.now.items = c.place_of-place.ensures ∙ ap (place_of c.args.note) c.deref.ensures.value in
    pushed_at c.args.note c.args.notes.now.items _ c.place_of-place.result place (omega (arith, c.args.notes.now.ok.0)) c.push_reserved.ensures.items
