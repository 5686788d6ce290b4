use Rattle.std.proofs.Common.{◌∙◌, ap, sym, reverse, length}
use Rattle.std.specs.Option.{option_and_then, unwrap_or}
use Rattle.std.specs.Prelude.{slice_get}
use Rattle.std.proofs.lemmas.List.{length-reverse}
use Rattle.ow_audit.specs.Differs.{side_of}
use Rattle.ow_audit.specs.Drains.{is_asked, is_drain, last_place}
use Rattle.ow_audit.proofs.DrainLaws.{found_in}
use Rattle.ow_audit.proofs.drains.undrained.Goals as goal

pub returns : goal.returns
returns c =
    let book = c.args.book.now in record {
      undrained = sym c.ends_drained.ensures ∙ c.if-ends_drained.false;
      place = c.unwrap_or-place.ensures ∙ (ap (λ o. unwrap_or o (length book)) c.last_asked-asked.ensures ∙ ap (λ n. unwrap_or (last_place is_asked (reverse book)) n) (sym (length-reverse book)));
      held = c.in_ok-held.ensures {u = tt} ∙ ap side_of (ap (λ o. option_and_then (slice_get book) o) c.last_drain.ensures ∙ found_in is_drain book);
      kept = c.in_ok-kept.ensures {u = tt} ∙ ap side_of (ap (λ o. option_and_then (slice_get book) o) c.last_asked-asked.ensures ∙ found_in is_asked book);
    }
