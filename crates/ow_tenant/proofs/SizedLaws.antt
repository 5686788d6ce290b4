-- What a table wants ahead has memory that an action may have, and its pool is within its bounds.
use Rattle.std.proofs.Common.{◌≡◌, ◌+◌, ◌≤◌, ◌++◌, ℕ, Bool, true, false, cond, List, [], ◌∷◌, Option, Some, None, Result, Ok, refl, subst}
use Rattle.std.specs.Prelude.{◌&&◌, ◌||◌, IfSome, codes, is_some, not, option_and_then, option_map, nat_le}
use Rattle.std.specs.List.{list_any}
use Rattle.std.specs.Str.{bytes_eq}
use Rattle.std.proofs.lemmas.Bool.{leb-true, and_parts}
use Rattle.ow_value.specs.Decimal.{decimal_of, if_within, number_within}
use Rattle.ow_traits.specs.declared.prewarms.Prewarm.{Prewarm}
use Rattle.ow_tenant.specs.Row.{grant_row, is_empty, kind_of, limits_of_fields, may_be_listed, namespace_row, prewarm_of, right_of, row_by, row_of}
use Rattle.ow_traits.specs.Prewarms.{AreWantsSized}
use Rattle.ow_tenant.specs.Table.{IsPoolSized, Table, granted, has_number, is_called, is_key_of, is_listed, no_rows, wants_same, or_bad, rows_of, with_line, with_row, with_rows, csv_rows}
use Rattle.ow_value.specs.ByText.{value_at, with_value}
use Rattle.ow_tenant.specs.Rights.{all_rights}
use Rattle.ow_tenant.specs.declared.entries.Holder.{Holder}
use Rattle.ow_tenant.specs.declared.line.Line.{Line}
use Rattle.ow_tenant.specs.declared.line.Line.TheVariants.{Namespace, Key, Grant, Pool, Prewarming, Program, Retain}

abbrev IsSized : Prewarm → Type 0
IsSized w = (128 ≤ w.memory) × (w.memory ≤ 512)

abbrev IsSizedLine : Line → Type 0
IsSizedLine (Prewarming w) = IsSized w
IsSizedLine (Namespace number name limits) = Unit {0}
IsSizedLine (Key key subject home) = Unit {0}
IsSizedLine (Grant key namespace right) = Unit {0}
IsSizedLine (Pool memory) = (512 ≤ memory) × (memory ≤ 65536)
IsSizedLine (Program name path) = Unit {0}
IsSizedLine (Retain days) = Unit {0}

-- ---- options

if_cond : {X : Type 0} (P : X → Type 0) (b : Bool) (o e : Option X) → IfSome o P → IfSome e P → IfSome (cond b o e) P
if_cond P true o e first second = first
if_cond P false o e first second = second

if_then : {X Y : Type 0} (P : X → Type 0) (Q : Y → Type 0) (f : X → Option Y) (o : Option X) → IfSome o P → ((x : X) → P x → IfSome (f x) Q) → IfSome (option_and_then f o) Q
if_then P Q f None first rest = tt
if_then P Q f (Some x) first rest = rest x first

if_map : {X Y : Type 0} (P : X → Type 0) (Q : Y → Type 0) (f : X → Y) (o : Option X) → IfSome o P → ((x : X) → P x → Q (f x)) → IfSome (option_map f o) Q
if_map P Q f None first rest = tt
if_map P Q f (Some x) first rest = rest x first

abbrev Any : {X : Type 0} → X → Type 0
Any x = Unit {0}

if_any : {X : Type 0} (o : Option X) → IfSome o (λ x. Unit {0})
if_any None = tt
if_any (Some x) = tt

-- ---- numbers

within_at : (least most n : ℕ) (b : Bool) → nat_le least n && nat_le n most ≡ b → IfSome (cond b (Some n) None) (λ m. (least ≤ m) × (m ≤ most))
within_at least most n true is = let both = and_parts (nat_le least n) (nat_le n most) is in (leb-true least n both.0, leb-true n most both.1)
within_at least most n false is = tt

number_sized : (least most : ℕ) (text : List ℕ) → IfSome (number_within least most text) (λ m. (least ≤ m) × (m ≤ most))
number_sized least most text = if_then (λ x. Unit {0}) (λ m. (least ≤ m) × (m ≤ most)) (if_within least most) (decimal_of text) (if_any (decimal_of text)) (λ n any. within_at least most n (nat_le least n && nat_le n most) refl)

-- ---- rows

prewarm_sized : (a b c : List ℕ) → IfSome (prewarm_of a b c) IsSized
prewarm_sized a b c = if_then (λ x. Unit {0}) IsSized _ (kind_of a) (if_any (kind_of a)) (λ kind any.
    if_then (λ (m : ℕ). (128 ≤ m) × (m ≤ 512)) IsSized _ (number_within 128 512 b) (number_sized 128 512 b) (λ memory within.
    if_map (λ x. Unit {0}) IsSized _ (number_within 1 512 c) (if_any (number_within 1 512 c)) (λ count more. within)))

namespace_sized : (a b c d e : List ℕ) → IfSome (namespace_row a b c d e) IsSizedLine
namespace_sized a b c d e = if_then (λ x. Unit {0}) IsSizedLine _ (number_within 1 4294967295 a) (if_any (number_within 1 4294967295 a)) (λ number any.
    if_then (λ x. Unit {0}) IsSizedLine _ (limits_of_fields c d e) (if_any (limits_of_fields c d e)) (λ limits more. if_cond IsSizedLine (may_be_listed b) (Some (Namespace number b limits)) None tt tt))

grant_sized : (a b c : List ℕ) → IfSome (grant_row a b c) IsSizedLine
grant_sized a b c = if_then (λ x. Unit {0}) IsSizedLine _ (right_of c) (if_any (right_of c)) (λ right any. if_cond IsSizedLine _ (Some (Grant a b right)) None tt tt)

by_word : (word a b c d e : List ℕ) → IfSome (row_by word a b c d e) IsSizedLine
by_word word a b c d e =
    if_cond IsSizedLine (bytes_eq word (codes "namespace")) _ _ (namespace_sized a b c d e)
    (if_cond IsSizedLine (not (is_empty d && is_empty e)) None _ tt
    (if_cond IsSizedLine (bytes_eq word (codes "key")) _ _ (if_cond IsSizedLine _ (Some (Key a b c)) None tt tt)
    (if_cond IsSizedLine (bytes_eq word (codes "grant")) _ _ (grant_sized a b c)
    (if_cond IsSizedLine (bytes_eq word (codes "prewarm")) _ _ (if_map IsSized IsSizedLine Prewarming (prewarm_of a b c) (prewarm_sized a b c) (λ w sized. sized))
    (if_cond IsSizedLine (not (is_empty c)) None _ tt
    (if_cond IsSizedLine (bytes_eq word (codes "program")) _ _ (if_cond IsSizedLine _ (Some (Program a b)) None tt tt)
    (if_cond IsSizedLine (not (is_empty b)) None _ tt
    (if_cond IsSizedLine (bytes_eq word (codes "pool")) _ _ (if_map (λ (m : ℕ). (512 ≤ m) × (m ≤ 65536)) IsSizedLine Pool (number_within 512 65536 a) (number_sized 512 65536 a) (λ m within. within))
    (if_cond IsSizedLine (bytes_eq word (codes "retain")) _ None (if_map (λ (m : ℕ). Unit {0}) IsSizedLine Retain (number_within 1 3650 a) (if_any (number_within 1 3650 a)) (λ m any. tt)) tt)))))))))

row_sized : (row : List (List ℕ)) → IfSome (row_of row) IsSizedLine
unfolding row_of
row_sized [] = tt
row_sized (a ∷ []) = tt
row_sized (a ∷ b ∷ []) = tt
row_sized (a ∷ b ∷ c ∷ []) = tt
row_sized (a ∷ b ∷ c ∷ d ∷ []) = tt
row_sized (a ∷ b ∷ c ∷ d ∷ e ∷ []) = tt
row_sized (word ∷ a ∷ b ∷ c ∷ d ∷ e ∷ []) = by_word word a b c d e
row_sized (word ∷ a ∷ b ∷ c ∷ d ∷ e ∷ f ∷ rest) = tt

-- ---- tables

abbrev IsSizedTable : Table → Type 0
IsSizedTable t = AreWantsSized t.wants × IsPoolSized t.pool

all_push : (ws : List Prewarm) (w : Prewarm) → AreWantsSized ws → IsSized w → AreWantsSized (ws ++ w ∷ [])
all_push [] w all sized = (sized, tt)
all_push (x ∷ ws) w all sized = (all.0, all_push ws w all.1 sized)

line_sized : (t : Table) (line : Line) → IsSizedTable t → IsSizedLine line → IfSome (with_line t line) IsSizedTable
line_sized t (Namespace number name limits) all sized =
    if_cond IsSizedTable (is_listed name t || list_any (has_number number) t.namespaces) None
    (Some (record t { namespaces = with_value t.namespaces name (record { number = number; limits = limits }) })) tt all
line_sized t (Key key subject home) all sized =
    if_cond IsSizedTable (is_key_of key t || not (is_listed home t)) None
    (Some (record t { keys = with_value t.keys key (record { subject = subject; home = home; rights = (home, all_rights) ∷ [] }) })) tt all
line_sized t (Grant key namespace right) all sized =
    let put : Holder → Table = λ h. record t { keys = with_value t.keys key (granted namespace right h) } in
    if_cond IsSizedTable (is_listed namespace t) (option_map put (value_at key t.keys)) None
    (if_map (λ (h : Holder). Unit {0}) IsSizedTable put (value_at key t.keys) (if_any (value_at key t.keys)) (λ h any. all)) tt
line_sized t (Pool memory) all sized = if_cond IsSizedTable (is_some t.pool) None (Some (record t { pool = Some memory })) tt (all.0, sized)
line_sized t (Prewarming wanted) all sized =
    if_cond IsSizedTable (list_any (wants_same wanted) t.wants) None (Some (record t { wants = t.wants ++ wanted ∷ [] })) tt (all_push t.wants wanted all.0 sized, all.1)
line_sized t (Program name path) all sized =
    if_cond IsSizedTable (list_any (is_called name) t.programs) None (Some (record t { programs = t.programs ++ (name, path) ∷ [] })) tt all
line_sized t (Retain days) all sized = if_cond IsSizedTable (is_some t.retain) None (Some (record t { retain = Some days })) tt all

one_sized : (t : Table) (row : List (List ℕ)) → IsSizedTable t → IfSome (with_row t row) IsSizedTable
unfolding with_row
one_sized t row all = if_then IsSizedLine IsSizedTable (with_line t) (row_of row) (row_sized row) (λ line sized. line_sized t line all sized)

next_sized : (number : ℕ) (rest : Table → Result Table ℕ) (o : Option Table) (u : Table) → IfSome o IsSizedTable → ((t : Table) → IsSizedTable t → rest t ≡ Ok u → IsSizedTable u) → or_bad number rest o ≡ Ok u → IsSizedTable u
next_sized number rest None u all more is = cc
next_sized number rest (Some t) u all more is = more t all is

all_sized : (number : ℕ) (t : Table) (rows : List (List (List ℕ))) (u : Table) → IsSizedTable t → with_rows number t rows ≡ Ok u → IsSizedTable u
unfolding with_rows
all_sized number t [] u all is = let same : t ≡ u = cc in subst IsSizedTable same all
all_sized number t (row ∷ rows) u all is =
    next_sized number (λ v. with_rows (number + 1) v rows) (with_row t row) u (one_sized t row all) (λ v sized go. all_sized (number + 1) v rows u sized go) is

-- the table of a text is sized
pub rows_sized : (text : List ℕ) (u : Table) → rows_of text ≡ Ok u → AreWantsSized u.wants × IsPoolSized u.pool
unfolding rows_of
rows_sized text u is = all_sized 1 no_rows (csv_rows text) u (tt, tt) is
