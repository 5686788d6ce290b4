-- In each table that a text makes, each key's own namespace is a name.
use Rattle.std.proofs.Common.{◌≡◌, ◌+◌, ◌&&◌, ◌||◌, ℕ, Bool, true, false, cond, codes, List, [], ◌∷◌, ◌++◌, length, nat_lt, not, is_none, is_some, IfSome, Option, Some, None, option_and_then, option_map, Result, Ok, Err, Ordering, Less, Equal, Greater, refl, subst}
use Rattle.std.specs.List.{AllByRecursion, list_any}
use Rattle.std.specs.Ordering.{match_ordering}
use Rattle.std.specs.Str.{bytes_eq, is_utf8}
use Rattle.ow_names.specs.Name.{IsName, first_fault}
use Rattle.ow_names.specs.declared.refusal.NameRefusal.{NameRefusal}
use Rattle.ow_names.proofs.NameLaws.{name_if_no_fault}
use Rattle.ow_traits.specs.declared.prewarms.Prewarm.{Prewarm}
use Rattle.ow_value.specs.Value.{text_cmp}
use Rattle.ow_value.specs.Decimal.{number_within}
use Rattle.ow_value.specs.ByText.{ByText, value_at, with_value}
use Rattle.ow_tenant.specs.Rights.{all_rights}
use Rattle.ow_tenant.specs.Row.{grant_row, is_empty, is_key, is_name, is_text, key_row, limits_of_fields, may_be_listed, namespace_row, prewarm_of, right_of, row_by, row_of}
use Rattle.ow_tenant.specs.Table.{Table, csv_rows, granted, has_number, is_called, is_key_of, is_listed, most_bytes, no_rows, or_bad, rows_of, table_of, wants_same, with_line, with_row, with_rows, AreHomes}
use Rattle.ow_tenant.specs.declared.entries.Holder.{Holder}
use Rattle.ow_tenant.specs.declared.limits.NamespaceLimits.{NamespaceLimits}
use Rattle.ow_tenant.specs.declared.line.Line.{Line}
use Rattle.ow_tenant.specs.declared.line.Line.TheVariants.{Grant, Key, Namespace, Pool, Prewarming, Program, Retain}
use Rattle.ow_tenant.specs.declared.rights.Right.{Right}

-- ---- options

pub some_if : {A : Type 0} (P : A → Type 0) (b : Bool) (o e : Option A) → IfSome o P → IfSome e P → IfSome (cond b o e) P
some_if P true o e first second = first
some_if P false o e first second = second

pub some_mapped : {A B : Type 0} (P : A → Type 0) (Q : B → Type 0) (f : A → B) (o : Option A) → ((x : A) → P x → Q (f x)) → IfSome o P → IfSome (option_map f o) Q
some_mapped P Q f None g h = tt
some_mapped P Q f (Some x) g h = g x h

pub some_then : {A B : Type 0} (P : A → Type 0) (Q : B → Type 0) (f : A → Option B) (o : Option A) → ((x : A) → P x → IfSome (f x) Q) → IfSome o P → IfSome (option_and_then f o) Q
some_then P Q f None g h = tt
some_then P Q f (Some x) g h = g x h

any : {X : Type 0} (o : Option X) → IfSome o (λ (x : X). Unit {0})
any None = tt
any (Some x) = tt

-- ---- one row

abbrev IsHomeLine : Line → Type 0
IsHomeLine (Key key subject home) = IsName home
IsHomeLine line = Unit {0}

no_fault : (o : Option NameRefusal) → is_none o ≡ true → o ≡ None
no_fault None e = refl
no_fault (Some fault) e = cc

last_true : (a b : Bool) → a && b ≡ true → b ≡ true
last_true true b e = e
last_true false b e = cc

key_by : (a b c : List ℕ) (t : Bool) → ((is_key a && is_utf8 a) && is_text b) && is_name c ≡ t → IfSome (cond t (Some (Key a b c)) None) IsHomeLine
key_by a b c true e = name_if_no_fault c (no_fault (first_fault c) (last_true ((is_key a && is_utf8 a) && is_text b) (is_name c) e))
key_by a b c false e = tt

key_home : (a b c : List ℕ) → IfSome (key_row a b c) IsHomeLine
key_home a b c = key_by a b c (((is_key a && is_utf8 a) && is_text b) && is_name c) refl

namespace_home : (a b c d e : List ℕ) → IfSome (namespace_row a b c d e) IsHomeLine
namespace_home a b c d e =
    some_then (λ (n : ℕ). Unit {0}) IsHomeLine _ (number_within 1 4294967295 a) (λ number x.
    some_then (λ (l : NamespaceLimits). Unit {0}) IsHomeLine _ (limits_of_fields c d e) (λ limits y. some_if IsHomeLine (may_be_listed b) (Some (Namespace number b limits)) None tt tt)
    (any (limits_of_fields c d e))) (any (number_within 1 4294967295 a))

grant_home : (a b c : List ℕ) → IfSome (grant_row a b c) IsHomeLine
grant_home a b c = some_then (λ (r : Right). Unit {0}) IsHomeLine _ (right_of c) (λ right x. some_if IsHomeLine (is_utf8 a && is_name b) (Some (Grant a b right)) None tt tt) (any (right_of c))

by_word : (word a b c d e : List ℕ) → IfSome (row_by word a b c d e) IsHomeLine
by_word word a b c d e =
    some_if IsHomeLine (bytes_eq word (codes "namespace")) _ _ (namespace_home a b c d e)
    (some_if IsHomeLine (not (is_empty d && is_empty e)) None _ tt
    (some_if IsHomeLine (bytes_eq word (codes "key")) _ _ (key_home a b c)
    (some_if IsHomeLine (bytes_eq word (codes "grant")) _ _ (grant_home a b c)
    (some_if IsHomeLine (bytes_eq word (codes "prewarm")) _ _ (some_mapped (λ (w : Prewarm). Unit {0}) IsHomeLine Prewarming (prewarm_of a b c) (λ w x. tt) (any (prewarm_of a b c)))
    (some_if IsHomeLine (not (is_empty c)) None _ tt
    (some_if IsHomeLine (bytes_eq word (codes "program")) _ _ (some_if IsHomeLine (is_text a && is_text b) (Some (Program a b)) None tt tt)
    (some_if IsHomeLine (not (is_empty b)) None _ tt
    (some_if IsHomeLine (bytes_eq word (codes "pool")) _ _ (some_mapped (λ (m : ℕ). Unit {0}) IsHomeLine Pool (number_within 512 65536 a) (λ m x. tt) (any (number_within 512 65536 a)))
    (some_if IsHomeLine (bytes_eq word (codes "retain")) _ None (some_mapped (λ (m : ℕ). Unit {0}) IsHomeLine Retain (number_within 1 3650 a) (λ m x. tt) (any (number_within 1 3650 a))) tt)))))))))

line_home : (row : List (List ℕ)) → IfSome (row_of row) IsHomeLine
unfolding row_of
line_home [] = tt
line_home (a ∷ []) = tt
line_home (a ∷ b ∷ []) = tt
line_home (a ∷ b ∷ c ∷ []) = tt
line_home (a ∷ b ∷ c ∷ d ∷ []) = tt
line_home (a ∷ b ∷ c ∷ d ∷ e ∷ []) = tt
line_home (word ∷ a ∷ b ∷ c ∷ d ∷ e ∷ []) = by_word word a b c d e
line_home (word ∷ a ∷ b ∷ c ∷ d ∷ e ∷ f ∷ rest) = tt

-- ---- tables

module _ {W : Type 0} (P : W → Type 0) where
  abbrev Each : ByText W → Type 0
  Each es = AllByRecursion (λ (e : List ℕ × W). P e.1) es

  put_by : (k : List ℕ) (w : W) (e : List ℕ × W) (es : ByText W) (o : Ordering) → P w → P e.1 → Each es → Each (with_value es k w)
      → Each (match_ordering o ((k, w) ∷ e ∷ es) ((e.0, w) ∷ es) (e ∷ with_value es k w))
  put_by k w e es Less h g all rest = (h, (g, all))
  put_by k w e es Equal h g all rest = (h, all)
  put_by k w e es Greater h g all rest = (g, rest)

  put_each : (k : List ℕ) (w : W) (es : ByText W) → P w → Each es → Each (with_value es k w)
  put_each k w [] h all = (h, tt)
  put_each k w (e ∷ es) h all = put_by k w e es (text_cmp k e.0) h all.0 all.1 (put_each k w es h all.1)

  value_each : (text : List ℕ) (es : ByText W) → Each es → IfSome (value_at text es) P
  value_each text [] all = tt
  value_each text (e ∷ es) all = some_if P _ (Some e.1) (value_at text es) all.0 (value_each text es all.1)

abbrev HasHome : Holder → Type 0
HasHome h = IsName h.home

line_homes : (t : Table) (line : Line) → AreHomes t → IsHomeLine line → IfSome (with_line t line) AreHomes
line_homes t (Namespace number name limits) all h =
    some_if AreHomes (is_listed name t || list_any (has_number number) t.namespaces) None
    (Some (record t { namespaces = with_value t.namespaces name (record { number = number; limits = limits }) })) tt all
line_homes t (Key key subject home) all h =
    some_if AreHomes (is_key_of key t || not (is_listed home t)) None
    (Some (record t { keys = with_value t.keys key (record { subject = subject; home = home; rights = (home, all_rights) ∷ [] }) })) tt
    (put_each HasHome key (record { subject = subject; home = home; rights = (home, all_rights) ∷ [] }) t.keys h all)
line_homes t (Grant key namespace right) all h =
    let put : Holder → Table = λ x. record t { keys = with_value t.keys key (granted namespace right x) } in
    some_if AreHomes (is_listed namespace t) (option_map put (value_at key t.keys)) None
    (some_mapped HasHome AreHomes put (value_at key t.keys) (λ x home. put_each HasHome key (granted namespace right x) t.keys home all) (value_each HasHome key t.keys all)) tt
line_homes t (Pool memory) all h = some_if AreHomes (is_some t.pool) None (Some (record t { pool = Some memory })) tt all
line_homes t (Prewarming wanted) all h = some_if AreHomes (list_any (wants_same wanted) t.wants) None (Some (record t { wants = t.wants ++ wanted ∷ [] })) tt all
line_homes t (Program name path) all h = some_if AreHomes (list_any (is_called name) t.programs) None (Some (record t { programs = t.programs ++ (name, path) ∷ [] })) tt all
line_homes t (Retain days) all h = some_if AreHomes (is_some t.retain) None (Some (record t { retain = Some days })) tt all

row_homes : (t : Table) (row : List (List ℕ)) → AreHomes t → IfSome (with_row t row) AreHomes
unfolding with_row
row_homes t row all = some_then IsHomeLine AreHomes (with_line t) (row_of row) (λ line h. line_homes t line all h) (line_home row)

next_homes : (number : ℕ) (rest : Table → Result Table ℕ) (o : Option Table) (u : Table) → IfSome o AreHomes → ((t : Table) → AreHomes t → rest t ≡ Ok u → AreHomes u) → or_bad number rest o ≡ Ok u → AreHomes u
next_homes number rest None u all more is = cc
next_homes number rest (Some t) u all more is = more t all is

rows_homes : (number : ℕ) (t : Table) (rows : List (List (List ℕ))) (u : Table) → AreHomes t → with_rows number t rows ≡ Ok u → AreHomes u
unfolding with_rows
rows_homes number t [] u all is = let same : t ≡ u = cc in subst AreHomes same all
rows_homes number t (row ∷ rows) u all is =
    next_homes number (λ v. with_rows (number + 1) v rows) (with_row t row) u (row_homes t row all) (λ v homes go. rows_homes (number + 1) v rows u homes go) is

of_rows : (text : List ℕ) (t : Table) → rows_of text ≡ Ok t → AreHomes t
unfolding rows_of
of_rows text t is = rows_homes 1 no_rows (csv_rows text) t tt is

by_length : (text : List ℕ) (t : Table) (b : Bool) → cond b (Err 0) (rows_of text) ≡ Ok t → AreHomes t
by_length text t true is = cc
by_length text t false is = of_rows text t is

-- the table of a text has them
pub homes_named : (text : List ℕ) (t : Table) → table_of text ≡ Ok t → AllByRecursion (λ (e : List ℕ × Holder). IsName e.1.home) t.keys
unfolding table_of
homes_named text t is = by_length text t (nat_lt most_bytes (length text)) is
