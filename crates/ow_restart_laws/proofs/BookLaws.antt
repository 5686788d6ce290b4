-- What is kept of a legal book lasts, and is allowed at the next opening.
use Rattle.std.proofs.Common.{◌≤◌, List, [], ◌∷◌, map, refl}
use Rattle.std.specs.List.{AllByRecursion}
use Rattle.ow_hall.specs.History.{AreAnswered, AreGivenIn, History, Seen, counted, seen, sight}
use Rattle.ow_hall.proofs.Beginnings.{seen_sound}
use Rattle.ow_row_text.specs.declared.item.Item.{Item as KeptItem}
use Rattle.ow_row_text.specs.declared.item.Item.TheVariants as items
use Rattle.ow_keep.specs.Known.{IsItem}
use Rattle.ow_keep.specs.declared.allowed.TheConstants.{GREATEST_COUNT}
use Rattle.ow_commits.specs.Fit.{AreOthersFit, IsFit}
use Rattle.ow_commits.specs.Kept.{OthersView, kept_items, other_items}
use Rattle.ow_commits.proofs.Allowing.{first_of, kept_allowed, rest_of, to_mapped}
use Rattle.ow_tenant.specs.Table.{Table, AreHomes}
use Rattle.ow_restart_laws.specs.Lasting.{AreEarly, AreLastingOthers, AreWritable, IsLasting}
use Rattle.ow_restart_laws.specs.Laws.{BooksAreAllowed, BooksLast, OthersOfBooksLast, RowsLast}
use Rattle.ow_restart_laws.proofs.KeptLaws.{kept_lasts}
use Rattle.ow_restart_laws.proofs.OthersLaws.{archive_fits, none_last, others_last}
use Rattle.ow_restart_laws.proofs.TraceLaws.{traces_last}
use Rattle.ow_restart_laws.proofs.Bodies.{bodies_last}
use Rattle.ow_restart_laws.proofs.RowsLaws.{builtin_writable, rows_last}
use Rattle.ow_restart_laws.proofs.Writable.{rows_writable}

fit_of : (i : KeptItem) → IsItem i → IsLasting i → IsFit i
fit_of i h k = record { known = h; shallow = k.shallow; fit = k.fit }

all_fit : (is : List KeptItem) → AllByRecursion IsItem is → AllByRecursion IsLasting is → AllByRecursion IsFit is
all_fit [] h k = tt
all_fit (i ∷ is) h k = (fit_of i h.0 k.0, all_fit is h.1 k.1)

-- the archive and the notes, where no more was archived than a count may tell
others_fit : (o : OthersView) → AllByRecursion IsItem (other_items o) → o.archive.number ≤ GREATEST_COUNT → AreLastingOthers o → AreOthersFit o
others_fit o known few last = record {
  fit = (
    record { known = known.0; shallow = refl; fit = archive_fits o.archive few last.archived },
    all_fit (map items.Note o.notes) known.1 (to_mapped IsLasting items.Note o.notes last.notes),
  );
}

-- what a body makes lasts, so rows do
pub all_rows_last : RowsLast
all_rows_last = rows_last (bodies_last rows_writable)

record AreLasting (s : Seen) : Type 0 where
  rows : AreWritable s.rows
  trace : AreEarly s.trace
  others : AreLastingOthers s.others

all_last : (t : Table) (B : History) → AreHomes t → AreAnswered t B → AreGivenIn B → AreLasting (seen t B)
all_last t [] homes answered given = record { rows = builtin_writable; trace = (tt, tt); others = none_last }
all_last t (e ∷ B) homes answered given =
    let before = all_last t B homes answered.5 given.1 in
    let S = sight t (seen t B) (counted B) e.at in
    record {
      rows = all_rows_last S e.event given.0 homes before.rows;
      trace = traces_last S e.event answered.3 before.rows before.trace;
      others = others_last S e.event given.0 answered.3 (seen_sound t B) before.rows before.trace before.others;
    }

pub books_last : BooksLast
books_last t B homes legal =
    let last = all_last t B homes legal.answered legal.given in
    kept_lasts (seen t B).rows (seen t B).trace (seen_sound t B) last.rows last.trace

pub others_of_books_last : OthersOfBooksLast
others_of_books_last t B homes legal = (all_last t B homes legal.answered legal.given).others

pub books_allowed : BooksAreAllowed
books_allowed t B homes legal known small few =
    let s = seen t B in
    kept_allowed s.others s.rows s.trace (seen_sound t B) small
    (all_fit (kept_items s.rows s.trace) (rest_of IsItem (other_items s.others) (kept_items s.rows s.trace) known) (books_last t B homes legal))
    (others_fit s.others (first_of IsItem (other_items s.others) (kept_items s.rows s.trace) known) few (others_of_books_last t B homes legal))
