-- How the search of bytes for newlines goes on.
use Rattle.std.proofs.Common.{◌≡◌, ◌<◌, ◌≤◌, ◌+◌, ◌-◌, ◌++◌, ℕ, true, List, [], Option, Some, None, length, take, drop, position, refl, sym, ap, ◌∙◌, arith, append_assoc, append-nil, length-append, length-drop}
use Rattle.std.specs.Option.{option_map}
use Rattle.std.proofs.Math.Seq.{take-length}
use Rattle.std.proofs.lemmas.List.{drop-append-le, drop-drop, take-append-le, take_rest}
use Rattle.std.proofs.lemmas.List.Quantifiers.{position-Some}
use Rattle.ow_day.specs.Limits.{most_line}
use Rattle.ow_runners.specs.Program.{is_newline}
use Rattle.ow_day.specs.Statement.{Logs, line_of}
use Rattle.ow_day.specs.Day.{Cut, CutLines, LineIs, LinesAre, first_line, first_statement, lines_in, with_line}
use Rattle.ow_day.specs.Search.{Awaits, IsSearched}
use Rattle.ow_day.specs.declared.search.Search.{Search}
use Rattle.ow_day.proofs.Logging.{line_cut, line_longer, lines_cut, lines_more}
use Rattle.ow_day.proofs.Newlines.{all_searched, newline_at, position-append_some}

-- no lines are awaited
pub awaits_none : (bytes : List ℕ) (line : ℕ) → Awaits bytes line 0
unfolding lines_in
awaits_none bytes line = λ later cut. let never : LinesAre [] (drop line bytes ++ later) ≡ CutLines = cut in cc

no_bytes : (n : ℕ) (xs : List ℕ) → position is_newline (take (n - n) xs) ≡ None
no_bytes n xs =
    let e : n - n ≡ 0 = omega arith in
    rw e refl

-- nothing is searched yet after this place
pub searched_at : (bytes : List ℕ) (line left : ℕ) → line ≤ length bytes → Awaits bytes line left → IsSearched bytes (record { line = line; searched = line; left = left })
searched_at bytes line left within awaits = record {
  begins = omega arith;
  within = within;
  none = no_bytes line (drop line bytes);
  awaits = awaits;
}

pub nothing_searched : (bytes : List ℕ) → IsSearched bytes (record { line = 0; searched = 0; left = 0 })
nothing_searched bytes = searched_at bytes 0 0 (omega arith) (awaits_none bytes 0)

-- more bytes come
pub searched_longer : (bytes piece : List ℕ) (s : Search) → IsSearched bytes s → IsSearched (bytes ++ piece) s
searched_longer bytes piece s k =
    let behind : drop s.line (bytes ++ piece) ≡ drop s.line bytes ++ piece = drop-append-le s.line bytes piece (omega (arith, k.begins, k.within)) in
    let fits : s.searched - s.line ≤ length (drop s.line bytes) = simp length-drop (omega (arith, k.begins, k.within)) in
    record {
      begins = k.begins;
      within = omega (arith, k.within, length-append bytes piece);
      none = rw (behind, take-append-le (s.searched - s.line) (drop s.line bytes) piece fits) k.none;
      awaits = λ later cut.
          ap (first_statement true) (append_assoc bytes piece later)
          ∙ k.awaits (piece ++ later) (ap (lines_in true s.left) (sym (append_assoc (drop s.line bytes) piece later) ∙ ap (λ t. t ++ later) (sym behind)) ∙ cut);
    }

-- there is no newline after the searched bytes either
pub none_behind : (bytes : List ℕ) (s : Search) → IsSearched bytes s → position is_newline (drop s.searched bytes) ≡ None → position is_newline (drop s.line bytes) ≡ None
none_behind bytes s k none =
    sym (newline_at is_newline bytes s.line s.searched None k.begins k.within k.none (rw (take_rest bytes s.searched) (sym none)))

-- the first newline, where the first line was searched
pub place_in : (bytes : List ℕ) (s : Search) (o : Option ℕ) → IsSearched bytes s → s.line ≡ 0 → o ≡ position is_newline (drop s.searched bytes) → option_map (λ k. s.searched + k) o ≡ position is_newline bytes
place_in bytes s None k line is =
    let e = newline_at is_newline bytes s.line s.searched None k.begins k.within k.none (rw (take_rest bytes s.searched) is) in
    rw line at e
place_in bytes s (Some place) k line is =
    let e = newline_at is_newline bytes s.line s.searched (Some place) k.begins k.within k.none (rw (take_rest bytes s.searched) is) in
    let same : s.searched + place ≡ s.searched - s.line + place = omega (arith, line) in
    ap Some same ∙ e ∙ ap (λ n. position is_newline (drop n bytes)) line

all_none : (bytes : List ℕ) (n : ℕ) → n ≡ length bytes → position is_newline bytes ≡ None → position is_newline (take (n - 0) bytes) ≡ None
all_none bytes n is none =
    let e : n - 0 ≡ length bytes = omega (arith, is) in
    rw (e, take-length bytes) none

-- all is searched, and has no newline
pub whole_searched : (bytes : List ℕ) → position is_newline bytes ≡ None → IsSearched bytes (record { line = 0; searched = length bytes; left = 0 })
whole_searched bytes none = record {
  begins = omega arith;
  within = omega arith;
  none = all_none bytes (length bytes) refl none;
  awaits = awaits_none bytes 0;
}

-- the rest is searched too, and has none
pub rest_searched : (bytes : List ℕ) (s : Search) → IsSearched bytes s → position is_newline (drop s.line bytes) ≡ None → IsSearched bytes (record { line = s.line; searched = length bytes; left = s.left })
rest_searched bytes s k none = record {
  begins = omega (arith, k.begins, k.within);
  within = omega arith;
  none = all_searched is_newline bytes s.line (length bytes) refl none;
  awaits = k.awaits;
}

-- the line that is awaited has no newline yet, and may still be short enough
pub line_awaited : (bytes : List ℕ) (s : Search) → IsSearched bytes s → position is_newline (drop s.line bytes) ≡ None → 0 < s.left → length bytes - s.line ≤ most_line → first_statement true bytes ≡ Cut
line_awaited bytes s k none some short =
    let fits : length (drop s.line bytes) ≤ most_line = simp length-drop short in
    let cut : lines_in true s.left (drop s.line bytes ++ []) ≡ CutLines = ap (lines_in true s.left) (append-nil (drop s.line bytes)) ∙ lines_cut true s.left (drop s.line bytes) some (line_cut (drop s.line bytes) none fits) in
    ap (first_statement true) (sym (append-nil bytes)) ∙ k.awaits [] cut

-- a line more was found
pub line_found : (bytes text : List ℕ) (s : Search) (used : ℕ) → IsSearched bytes s → 0 < s.left → first_line true (drop s.line bytes) ≡ LineIs text (drop used (drop s.line bytes)) → used ≤ length (drop s.line bytes)
    → IsSearched bytes (record { line = s.line + used; searched = s.line + used; left = s.left - 1 })
line_found bytes text s used k some is short =
    let behind = drop s.line bytes in
    let rest : drop used behind ≡ drop (s.line + used) bytes = drop-drop used s.line bytes in
    searched_at bytes (s.line + used) (s.left - 1) (omega (arith, k.begins, k.within, short, length-drop s.line bytes)) (λ later cut.
    let first : first_line true (behind ++ later) ≡ LineIs text (drop (s.line + used) bytes ++ later) = line_longer true behind later (λ e. cc) ∙ rw is (ap (λ t. LineIs text (t ++ later)) rest) in
    k.awaits later (lines_more true s.left (behind ++ later) text (drop (s.line + used) bytes ++ later) some first ∙ ap (with_line text) cut))

-- the lines of logs after the first newline are awaited
pub awaits_behind : (bytes text : List ℕ) (place run count : ℕ) → position is_newline bytes ≡ Some place → line_of (take place bytes) ≡ Some (Logs run count text) → Awaits bytes (place + 1) count
unfolding first_statement
awaits_behind bytes text place run count at is = λ later cut.
    let within : place < length bytes = (position-Some is_newline bytes place 0 at).0 in
    let front : take place (bytes ++ later) ≡ take place bytes = take-append-le place bytes later (omega arith) in
    let back : drop (place + 1) (bytes ++ later) ≡ drop (place + 1) bytes ++ later = drop-append-le (place + 1) bytes later (omega arith) in
    rw (position-append_some is_newline bytes later place at, front, back, is, cut) refl
