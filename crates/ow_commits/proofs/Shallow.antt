-- How deep the rows of activations nest.
use Rattle.std.proofs.Common.{◌≡◌, ◌≤◌, ℕ, List, [], ◌∷◌, ◌++◌, Bool, true, false, cond, nat_lt, nat_le, map, codes, length, Option, Some, None, Result, Ok, Err, refl, sym, subst, ap, arith}
use Rattle.std.proofs.Math.Nat.{max-le}
use Rattle.std.proofs.lemmas.Bool.{le-leb, leb-true}
use Rattle.serde_json.specs.Data as json
use Rattle.ow_value.specs.Field.{pairs_in}
use Rattle.ow_value.specs.Nesting.{most_nested, most_nested_record}
use Rattle.ow_value.specs.Read.{json_of, reading, whole_of}
use Rattle.ow_value.specs.Size.{megabyte}
use Rattle.ow_value.specs.Value.{V, null, boolean, whole, text, list, object, Members, no_members, member, items_of, members_of, depth, items_depth}
use Rattle.ow_value.specs.declared.reader.ValueRefusal.{ValueRefusal}
use Rattle.ow_value.specs.declared.reader.ValueRefusal.TheVariants.{NotJson, NotWhole, TooDeep}
use Rattle.ow_names.specs.declared.full.FullName.{FullName}
use Rattle.ow_entity.specs.declared.bounds.Limits.{Limits}
use Rattle.ow_traits.specs.declared.replies.RunReply.{RunReply}
use Rattle.ow_traits.specs.declared.replies.RunReply.TheVariants.{Answer, Exit, NoStart, Fault}
use Rattle.ow_records.specs.Outcome.{failure, of_reading, of_reply, of_value, outcome}
use Rattle.ow_records.specs.Response.{ResponseView}
use Rattle.ow_records.specs.Fire.{trigger_record}
use Rattle.ow_records.specs.Unrecorded.{abandoned_record}
use Rattle.ow_records.specs.Written.{record_members, record_value}
use Rattle.ow_records.specs.WrittenNotes.{kind_note, limits_note, mark_note, moment_note, name_note, notes_value, word_note}
use Rattle.ow_records.specs.declared.fires.Fire.{Fire}
use Rattle.ow_records.specs.declared.ids.Id.{Id}
use Rattle.ow_records.specs.declared.notes.ExecKind.{ExecKind}
use Rattle.ow_records.specs.declared.notes.Notes.{Notes}
use Rattle.ow_records.specs.declared.outcomes.Ending.{Ending}
use Rattle.ow_records.specs.declared.outcomes.Ending.TheVariants.{Replied, Overran, Abandoned, Composed}
use Rattle.ow_records.specs.declared.record.Record.{Record}
use Rattle.ow_records.specs.declared.unrecorded.Unrecorded.{Unrecorded}
use Rattle.ow_floor.specs.Trace.{End, record_of}
use Rattle.ow_row_text.specs.declared.item.Item.TheVariants as items
use Rattle.ow_keep.specs.Allowed.{is_shallow}
use Rattle.ow_commits.specs.Shallow.{IsShallowEnding}

-- ---- of notes and lines

-- no item nests deeper than that
abbrev AreWithin : ℕ → List V → Type 0
AreWithin k vs = items_depth (items_of vs) ≤ k

both : (k : ℕ) (a b : List V) → AreWithin k a → AreWithin k b → AreWithin k (a ++ b)
both k [] b h g = g
both k (v ∷ a) b h g = max-le (omega arith) (both k a b (omega arith) g)

name_within : (key : List ℕ) (o : Option FullName) → AreWithin 2 (name_note key o)
name_within key None = omega arith
name_within key (Some n) = omega arith

word_within : (key word : List ℕ) (b : Bool) → AreWithin 2 (word_note key word b)
word_within key word true = omega arith
word_within key word false = omega arith

moment_within : (key : List ℕ) (o : Option ℕ) → AreWithin 2 (moment_note key o)
moment_within key None = omega arith
moment_within key (Some t) = omega arith

kind_within : (o : Option ExecKind) → AreWithin 2 (kind_note o)
kind_within None = omega arith
kind_within (Some k) = omega arith

limits_within : (o : Option Limits) → AreWithin 2 (limits_note o)
limits_within None = omega arith
limits_within (Some l) = omega arith

mark_within : (key : List ℕ) (b : Bool) → AreWithin 2 (mark_note key b)
mark_within key true = omega arith
mark_within key false = omega arith

notes_within : (n : Notes) → depth (notes_value n) ≤ 3
notes_within n =
    let all = both 2 _ _ (both 2 _ _ (both 2 _ _ (both 2 _ _ (both 2 _ _ (both 2 _ _ (both 2 _ _
    (name_within (codes "binding") n.binding)
    (word_within (codes "causedBy") (codes "sequence") n.caused_by))
    (moment_within (codes "initTime") n.init_time))
    (kind_within n.kind))
    (limits_within n.limits))
    (name_within (codes "path") n.path))
    (mark_within (codes "topmost") n.topmost))
    (moment_within (codes "waitTime") n.wait_time) in
    omega (arith, all)

lines_flat : (ls : List (List ℕ)) → AreWithin 0 (map text ls)
lines_flat [] = omega arith
lines_flat (l ∷ ls) = max-le (omega arith) (lines_flat ls)

-- ---- of outcomes

-- the object of the result nests no deeper than the text of an answer may
abbrev pub IsShallow : ResponseView → Type 0
IsShallow r = depth (object (members_of r.result)) ≤ most_nested

members_in : (ms : Members) → members_of (pairs_in ms) ≡ ms
members_in no_members = refl
members_in (member k v ms) = ap (member k v) (members_in ms)

value_shallow : (v : V) → depth v ≤ most_nested → IsShallow (of_value v)
value_shallow null h = omega arith
value_shallow (boolean b) h = omega arith
value_shallow (whole z) h = omega arith
value_shallow (text s) h = omega arith
value_shallow (list vs) h = omega arith
value_shallow (object ms) h = subst (λ (ps : Members). depth (object ps) ≤ most_nested) (sym (members_in ms)) h

tested_shallow : (v : V) (b : Bool) → nat_le (depth v) most_nested ≡ b → IsShallow (of_reading (cond b (Ok v) (Err TooDeep)))
tested_shallow v true e = value_shallow v (leb-true (depth v) most_nested e)
tested_shallow v false e = omega arith

abbrev whole_within : Option V → Result V ValueRefusal
whole_within None = Err NotWhole
whole_within (Some v) = cond (nat_le (depth v) most_nested) (Ok v) (Err TooDeep)

whole_shallow : (o : Option V) → IsShallow (of_reading (whole_within o))
whole_shallow None = omega arith
whole_shallow (Some v) = tested_shallow v (nat_le (depth v) most_nested) refl

abbrev data_within : Option json.Data → Result V ValueRefusal
data_within None = Err NotJson
data_within (Some d) = whole_within (whole_of d)

data_shallow : (o : Option json.Data) → IsShallow (of_reading (data_within o))
data_shallow None = omega arith
data_shallow (Some d) = whole_shallow (whole_of d)

text_shallow : (message answer : List ℕ) (b : Bool) → IsShallow (cond b (failure 2 message) (of_reading (reading most_nested answer)))
text_shallow message answer true = omega arith
text_shallow message answer false = data_shallow (json_of answer)

reply_shallow : (r : RunReply) → IsShallow (of_reply r)
reply_shallow (Answer answer logs) = text_shallow (codes "The result has too many bytes.") answer (nat_lt megabyte (length answer))
reply_shallow (Exit status logs) = omega arith
reply_shallow (NoStart reason) = omega arith
reply_shallow Fault = omega arith

pub outcome_shallow : (e : Ending) (l : Limits) → IsShallowEnding e → IsShallow (outcome e l)
unfolding outcome
outcome_shallow (Replied reply) l h = reply_shallow reply
outcome_shallow Overran l h = omega arith
outcome_shallow Abandoned l h = omega arith
outcome_shallow (Composed response children) l h = h

-- ---- of records

record_by : (c : Option Id) (r : Record) → IsShallow r.response → depth (object (members_of (record_members c r))) ≤ most_nested_record
record_by None r h = let notes = notes_within r.notes in let lines = lines_flat r.logs in omega (arith, notes, lines, h)
record_by (Some c) r h = let notes = notes_within r.notes in let lines = lines_flat r.logs in omega (arith, notes, lines, h)

record_shallow : (r : Record) → IsShallow r.response → is_shallow (items.Done r) ≡ true
record_shallow r h = le-leb (depth (record_value r)) most_nested_record (record_by r.cause r h)

pub ends_shallow : (e : End) → IsShallowEnding e.ending → is_shallow (items.Done (record_of e)) ≡ true
ends_shallow e h = record_shallow (record_of e) (outcome_shallow e.ending e.task.action.limits h)

pub abandoned_shallow : (u : Unrecorded) (at : ℕ) → is_shallow (items.Done (abandoned_record u at)) ≡ true
abandoned_shallow u at = record_shallow (abandoned_record u at) (outcome_shallow Abandoned u.limits tt)

pub fires_shallow : (f : Fire) (lines : List (List ℕ)) → depth (object (members_of f.params)) ≤ most_nested → is_shallow (items.Done (trigger_record f lines)) ≡ true
fires_shallow f lines h = record_shallow (trigger_record f lines) h
