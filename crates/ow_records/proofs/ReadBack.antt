-- Records that were written read back.
use Rattle.std.proofs.Common.{◌≡◌, ℕ, pos, ◌^◌, ◌<◌, ◌≤◌, List, [], ◌∷◌, ◌++◌, Bool, true, false, cond, map, codes, if◌then◌else◌, is_some, IfSome, Option, Some, None, option_map, option_and_then, refl, ap, ◌∙◌, arith, append-nil, append_assoc}
use Rattle.std.specs.Option.{option_or}
use Rattle.std.specs.Str.{bytes_eq}
use Rattle.ow_value.specs.Value.{V, Pairs, boolean, whole, text, items_of}
use Rattle.ow_value.specs.Field.{pairs_in-members_of}
use Rattle.ow_names.specs.FullName.{IsFullName}
use Rattle.ow_names.specs.Name.{IsName}
use Rattle.ow_names.specs.declared.full.FullName.{FullName}
use Rattle.ow_names.proofs.NameLaws.{first_fault-name}
use Rattle.ow_entity.specs.FitAction.{IsFitLimits}
use Rattle.ow_entity.specs.Pairs.{pair_value}
use Rattle.ow_entity.specs.Written.{limits_value, shown_version}
use Rattle.ow_entity.specs.declared.bounds.Limits.{Limits}
use Rattle.ow_entity.proofs.BackLaws.{within-between}
use Rattle.ow_records.specs.FieldsIn.{cause_given, as_number, as_path, lines_listed, name_of, small_version, unless_fault, version_of}
use Rattle.ow_records.specs.Id.{id_of, id_text}
use Rattle.ow_records.specs.Known.{AreNotes, IsId, IsKnown, IsResponse, IsSpan}
use Rattle.ow_records.specs.NotesIn.{as_kind, as_limits, as_notes, kind_named, limits_with, note, notes_listed}
use Rattle.ow_records.specs.Notes.{kind_text}
use Rattle.ow_records.specs.RecordIn.{as_response, code_with, confirmed, head_with, record_from, record_in, record_with, span_between, texts_with, told_with}
use Rattle.ow_records.specs.Response.{ResponseView}
use Rattle.ow_records.specs.Span.{SpanView}
use Rattle.ow_records.specs.Written.{record_value, response_value}
use Rattle.ow_records.specs.WrittenNotes.{kind_note, limits_note, mark_note, moment_note, name_note, notes_value, path_text, word_note}
use Rattle.ow_records.specs.declared.ids.Id.{Id}
use Rattle.ow_records.specs.declared.notes.ExecKind.{ExecKind}
use Rattle.ow_records.specs.declared.notes.ExecKind.TheVariants.{Plain, Program, Sequence}
use Rattle.ow_records.specs.declared.notes.Notes.{Notes}
use Rattle.ow_records.specs.declared.record.Record.{Record}
use Rattle.ow_records.proofs.Confirmed.{confirmed_if}
use Rattle.ow_records.proofs.PathBack.{path_back}
use Rattle.ow_records.proofs.IdLaws.{digits_of-decimal, id_back}

-- ---- parts

lines_back : (ls : List (List ℕ)) → lines_listed (items_of (map text ls)) ≡ Some ls
lines_back [] = refl
lines_back (l ∷ ls) = ap (option_map (λ ss. l ∷ ss)) (lines_back ls)

code_back : (code : ℕ) (ps : Pairs) → code ≤ 3 → code_with ps code ≡ Some (record { code = code; result = ps })
code_back code ps h = grind arith

response_back : (r : ResponseView) → IsResponse r → as_response (response_value r) ≡ Some r
response_back r h = ap (λ ps. code_with ps r.code) (pairs_in-members_of r.result) ∙ code_back r.code r.result h.code

span_back : (s : SpanView) → IsSpan s → span_between s.start s.end ≡ Some s
span_back s h = grind (arith, h.order)

pub name_back : (s : List ℕ) → IsName s → name_of s ≡ Some s
name_back s h = ap (λ o. unless_fault o s) (first_fault-name s h)

small_back : (n : ℕ) → n < 2 ^ 32 → small_version n ≡ Some n
small_back n h = grind arith

pub version_back : (n : ℕ) → n < 2 ^ 32 → version_of (shown_version n) ≡ Some n
version_back n h = ap (option_and_then small_version) (digits_of-decimal n (omega arith)) ∙ small_back n h

-- ---- limits and names

pub limits_back : (l : Limits) → IsFitLimits l → as_limits (limits_value l) ≡ Some l
limits_back l h = λ i. limits_with (within-between _ _ l.timeout h.timeout i) (within-between _ _ l.memory h.memory i) (within-between _ _ l.logs h.logs i)

pub kind_back : (k : ExecKind) → kind_named (kind_text k) ≡ Some k
kind_back Plain = refl
kind_back Program = refl
kind_back Sequence = refl

-- ---- annotations

-- annotations that are there or aren't, by their keys
abbrev Sections : Type 0
Sections = List (List ℕ × Option V)

abbrev section : List ℕ → Option V → List V
section key None = []
section key (Some v) = pair_value (key, v) ∷ []

abbrev listed : Sections → List V
listed [] = []
listed (s ∷ ss) = section s.0 s.1 ++ listed ss

abbrev at : Bool → Option V → Option V → Option V
at true v rest = option_or v rest
at false v rest = rest

abbrev found : List ℕ → Sections → Option V
found key [] = None
found key (s ∷ ss) = at (bytes_eq key s.0) s.1 (found key ss)

first_of : (key k : List ℕ) (o : Option V) (vs : List V) → note key (items_of (section k o ++ vs)) ≡ at (bytes_eq key k) o (note key (items_of vs))
first_of key k None vs = by_test (bytes_eq key k)
  where
    by_test : (b : Bool) → note key (items_of vs) ≡ at b None (note key (items_of vs))
    by_test true = refl
    by_test false = refl
first_of key k (Some v) vs = by_test (bytes_eq key k)
  where
    by_test : (b : Bool) → cond b (Some v) (note key (items_of vs)) ≡ at b (Some v) (note key (items_of vs))
    by_test true = refl
    by_test false = refl

note_found : (key : List ℕ) (ss : Sections) → note key (items_of (listed ss)) ≡ found key ss
note_found key [] = refl
note_found key (s ∷ ss) = first_of key s.0 s.1 (listed ss) ∙ ap (at (bytes_eq key s.0) s.1) (note_found key ss)

abbrev path_given : Option FullName → Option V
path_given o = option_map (λ n. text (path_text n)) o

abbrev moment_given : Option ℕ → Option V
moment_given o = option_map (λ t. whole (pos t)) o

abbrev kind_given : Option ExecKind → Option V
kind_given o = option_map (λ k. text (kind_text k)) o

abbrev limits_given : Option Limits → Option V
limits_given o = option_map limits_value o

abbrev mark_given : V → Bool → Option V
mark_given v b = if b then Some v else None

abbrev sections : Notes → Sections
sections n =
    (codes "binding", path_given n.binding)
    ∷ (codes "causedBy", mark_given (text (codes "sequence")) n.caused_by)
    ∷ (codes "initTime", moment_given n.init_time)
    ∷ (codes "kind", kind_given n.kind)
    ∷ (codes "limits", limits_given n.limits)
    ∷ (codes "path", path_given n.path)
    ∷ (codes "topmost", mark_given (boolean true) n.topmost)
    ∷ (codes "waitTime", moment_given n.wait_time)
    ∷ []

name_section : (key : List ℕ) (o : Option FullName) → name_note key o ≡ section key (path_given o)
name_section key None = refl
name_section key (Some n) = refl

word_section : (key word : List ℕ) (b : Bool) → word_note key word b ≡ section key (mark_given (text word) b)
word_section key word true = refl
word_section key word false = refl

moment_section : (key : List ℕ) (o : Option ℕ) → moment_note key o ≡ section key (moment_given o)
moment_section key None = refl
moment_section key (Some t) = refl

kind_section : (o : Option ExecKind) → kind_note o ≡ section (codes "kind") (kind_given o)
kind_section None = refl
kind_section (Some k) = refl

limits_section : (o : Option Limits) → limits_note o ≡ section (codes "limits") (limits_given o)
limits_section None = refl
limits_section (Some l) = refl

mark_section : (key : List ℕ) (b : Bool) → mark_note key b ≡ section key (mark_given (boolean true) b)
mark_section key true = refl
mark_section key false = refl

-- the annotations as they are written
abbrev written : Notes → List V
written n =
    name_note (codes "binding") n.binding
    ++ word_note (codes "causedBy") (codes "sequence") n.caused_by
    ++ moment_note (codes "initTime") n.init_time
    ++ kind_note n.kind
    ++ limits_note n.limits
    ++ name_note (codes "path") n.path
    ++ mark_note (codes "topmost") n.topmost
    ++ moment_note (codes "waitTime") n.wait_time

grouped : (a b c d e f g h : List V) → a ++ b ++ c ++ d ++ e ++ f ++ g ++ h ≡ a ++ (b ++ (c ++ (d ++ (e ++ (f ++ (g ++ (h ++ [])))))))
grouped a b c d e f g h = simp (append_assoc, append-nil)

written_sections : (n : Notes) → written n ≡ listed (sections n)
written_sections n =
    (λ i.
    name_section (codes "binding") n.binding i
    ++ word_section (codes "causedBy") (codes "sequence") n.caused_by i
    ++ moment_section (codes "initTime") n.init_time i
    ++ kind_section n.kind i
    ++ limits_section n.limits i
    ++ name_section (codes "path") n.path i
    ++ mark_section (codes "topmost") n.topmost i
    ++ moment_section (codes "waitTime") n.wait_time i)
    ∙ grouped
    (section (codes "binding") (path_given n.binding))
    (section (codes "causedBy") (mark_given (text (codes "sequence")) n.caused_by))
    (section (codes "initTime") (moment_given n.init_time))
    (section (codes "kind") (kind_given n.kind))
    (section (codes "limits") (limits_given n.limits))
    (section (codes "path") (path_given n.path))
    (section (codes "topmost") (mark_given (boolean true) n.topmost))
    (section (codes "waitTime") (moment_given n.wait_time))

note_at : (key : List ℕ) (n : Notes) → note key (items_of (written n)) ≡ found key (sections n)
note_at key n = ap (λ vs. note key (items_of vs)) (written_sections n) ∙ note_found key (sections n)

binding_back : (o : Option FullName) → IfSome o IsFullName → option_and_then as_path (option_or (path_given o) None) ≡ o
binding_back None h = refl
binding_back (Some n) h = path_back n h

moment_back : (o : Option ℕ) → option_and_then as_number (option_or (moment_given o) None) ≡ o
moment_back None = refl
moment_back (Some t) = refl

kind_given_back : (o : Option ExecKind) → option_and_then as_kind (option_or (kind_given o) None) ≡ o
kind_given_back None = refl
kind_given_back (Some k) = kind_back k

limits_given_back : (o : Option Limits) → IfSome o IsFitLimits → option_and_then as_limits (option_or (limits_given o) None) ≡ o
limits_given_back None h = refl
limits_given_back (Some l) h = limits_back l h

mark_back : (v : V) (b : Bool) → is_some (option_or (mark_given v b) None) ≡ b
mark_back v true = refl
mark_back v false = refl

pub notes_back : (n : Notes) → AreNotes n → notes_listed (items_of (written n)) ≡ n
notes_back n h =
    (λ i. record {
      binding = (ap (option_and_then as_path) (note_at (codes "binding") n) ∙ binding_back n.binding h.binding) i;
      caused_by = (ap is_some (note_at (codes "causedBy") n) ∙ mark_back (text (codes "sequence")) n.caused_by) i;
      init_time = (ap (option_and_then as_number) (note_at (codes "initTime") n) ∙ moment_back n.init_time) i;
      kind = (ap (option_and_then as_kind) (note_at (codes "kind") n) ∙ kind_given_back n.kind) i;
      limits = (ap (option_and_then as_limits) (note_at (codes "limits") n) ∙ limits_given_back n.limits h.limits) i;
      path = (ap (option_and_then as_path) (note_at (codes "path") n) ∙ binding_back n.path h.path) i;
      topmost = (ap is_some (note_at (codes "topmost") n) ∙ mark_back (boolean true) n.topmost) i;
      wait_time = (ap (option_and_then as_number) (note_at (codes "waitTime") n) ∙ moment_back n.wait_time) i;
    })

-- ---- a record

texts_back : (r : Record) → IsKnown r → texts_with (name_of r.name) (name_of r.namespace) (Some r.subject) ≡ Some (record { name = r.name; namespace = r.namespace; subject = r.subject })
texts_back r h = λ i. texts_with (name_back r.name h.name i) (name_back r.namespace h.namespace i) (Some r.subject)

told_back : (r : Record) → IsKnown r → told_with (as_notes (notes_value r.notes)) (lines_listed (items_of (map text r.logs))) (as_response (response_value r.response))
    ≡ Some (record { notes = r.notes; logs = r.logs; response = r.response })
told_back r h = λ i. told_with (Some (notes_back r.notes h.notes i)) (lines_back r.logs i) (response_back r.response h.response i)

head_back : (r : Record) (c : Option Id) → IsKnown r → cause_given (option_map (λ id. text (id_text id)) c) ≡ Some c
    → head_with (id_of (id_text r.id)) (cause_given (option_map (λ id. text (id_text id)) c)) (span_between r.span.start r.span.end) (version_of (shown_version r.version))
    ≡ Some (record { id = r.id; cause = c; span = r.span; version = r.version })
head_back r c h e = λ i. head_with (id_back r.id h.id i) (e i) (span_back r.span h.span i) (version_back r.version h.version i)

record_by : (r : Record) (c : Option Id) → IfSome c IsId → IsKnown r → record_from (record_value (record r { cause = c })) ≡ Some (record r { cause = c })
unfolding record_from
record_by r None hc h = λ i. record_with (head_back r None h refl i) (texts_back r h i) (told_back r h i)
record_by r (Some c) hc h = λ i. record_with (head_back r (Some c) h (ap (option_map Some) (id_back c hc)) i) (texts_back r h i) (told_back r h i)

pub fields_back : (r : Record) → IsKnown r → record_from (record_value r) ≡ Some r
fields_back r h = record_by r r.cause h.cause h

pub record_back : (r : Record) → IsKnown r → record_in (record_value r) ≡ Some r
unfolding record_in
record_back r h = ap (option_and_then (confirmed (record_value r))) (fields_back r h) ∙ confirmed_if (record_value r) r refl
