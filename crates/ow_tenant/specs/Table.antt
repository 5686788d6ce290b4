-- The office table: what its rows make, one after another, and which is the first that is bad.
use Rattle.std.specs.Prelude.{◌+◌, ◌≤◌, ◌==◌, ◌&&◌, ◌||◌, ℕ, List, [], ◌∷◌, ◌++◌, Bool, not, IfSome, length, nat_lt, if◌then◌else◌, Option, Some, None, option_map, option_and_then, is_some, Result, Ok, Err}
use Rattle.std.specs.List.{AllByRecursion, list_any}
use Rattle.std.specs.Str.{bytes_eq}
use Rattle.csv.specs.Reading.{default_config, records_from, strip_bom}
use Rattle.csv.specs.declared.parser.State.TheVariants as st
use Rattle.ow_names.specs.Name.{IsName}
use Rattle.ow_traits.specs.declared.prewarms.Prewarm.{Prewarm}
use Rattle.ow_traits.specs.declared.replies.Kind.{Kind}
use Rattle.ow_traits.specs.declared.replies.Kind.TheVariants as kinds
use Rattle.ow_value.specs.ByText.{ByText, value_at, with_value}
use Rattle.ow_tenant.specs.Rights.{all_rights, rights_or_none, with_right}
use Rattle.ow_tenant.specs.Row.{row_of}
use Rattle.ow_tenant.specs.declared.limits.NamespaceLimits.{NamespaceLimits}
use Rattle.ow_tenant.specs.declared.line.Line.{Line}
use Rattle.ow_tenant.specs.declared.line.Line.TheVariants.{Namespace, Key, Grant, Pool, Prewarming, Program, Retain}
use Rattle.ow_tenant.specs.declared.rights.Right.{Right}
use Rattle.ow_tenant.specs.declared.entries.Space.{Space}
use Rattle.ow_tenant.specs.declared.entries.Holder.{Holder}

-- the namespaces by their names; who holds each key; the memory of all containers, where a row gives it; what is wanted ahead and
-- the programs, in the order of their rows; for how many days records are retained, where a row gives it
pub record Table : Type 0 where
  pub namespaces : ByText Space
  pub keys : ByText Holder
  pub pool : Option ℕ
  pub wants : List Prewarm
  pub programs : List (List ℕ × List ℕ)
  pub retain : Option ℕ

-- each key's own namespace is a name, which it is in a table that was read
abbrev pub AreHomes : Table → Type 0
AreHomes t = AllByRecursion (λ (e : List ℕ × Holder). IsName e.1.home) t.keys

-- the memory of all containers is within its bounds, where a row gives it
abbrev pub IsPoolSized : Option ℕ → Type 0
IsPoolSized pool = IfSome pool (λ m. (512 ≤ m) × (m ≤ 65536))

-- before the first row
abbrev pub no_rows : Table
no_rows = record { namespaces = []; keys = []; pool = None; wants = []; programs = []; retain = None }

-- ---- what a row may speak of

abbrev pub is_listed : List ℕ → Table → Bool
is_listed namespace t = is_some (value_at namespace t.namespaces)

abbrev pub is_key_of : List ℕ → Table → Bool
is_key_of key t = is_some (value_at key t.keys)

-- whether a namespace has this number
abbrev pub has_number : ℕ → List ℕ × Space → Bool
has_number number e = e.1.number == number

abbrev pub same_kind : Kind → Kind → Bool
same_kind kinds.Plain kinds.Plain = Bool.true
same_kind kinds.Program kinds.Program = Bool.true
same_kind a b = Bool.false

-- whether two rows want the same kind and memory
abbrev pub wants_same : Prewarm → Prewarm → Bool
wants_same a b = same_kind a.kind b.kind && (a.memory == b.memory)

abbrev pub is_called : List ℕ → List ℕ × List ℕ → Bool
is_called name program = bytes_eq program.0 name

-- ---- what a row makes of the table; none where it breaks a rule with an earlier row

-- a new number and a new name
abbrev pub with_namespace : Table → ℕ → List ℕ → NamespaceLimits → Option Table
with_namespace t number name limits =
    if is_listed name t || list_any (has_number number) t.namespaces then None
    else Some (record t { namespaces = with_value t.namespaces name (record { number = number; limits = limits }) })

-- a new key, with all rights on its own namespace, which an earlier row lists
abbrev pub with_key : Table → List ℕ → List ℕ → List ℕ → Option Table
with_key t key subject home =
    if is_key_of key t || not (is_listed home t) then None
    else Some (record t { keys = with_value t.keys key (record { subject = subject; home = home; rights = (home, all_rights) ∷ [] }) })

-- a holder with one more right in the namespace
abbrev pub granted : List ℕ → Right → Holder → Holder
granted namespace right h = record h { rights = with_value h.rights namespace (with_right right (rights_or_none (value_at namespace h.rights))) }

-- a key and a namespace of earlier rows
abbrev pub with_grant : Table → List ℕ → List ℕ → Right → Option Table
with_grant t key namespace right =
    if is_listed namespace t then option_map (λ h. record t { keys = with_value t.keys key (granted namespace right h) }) (value_at key t.keys)
    else None

-- once
abbrev pub with_pool : Table → ℕ → Option Table
with_pool t memory = if is_some t.pool then None else Some (record t { pool = Some memory })

-- a new pair of kind and memory
abbrev pub with_prewarm : Table → Prewarm → Option Table
with_prewarm t wanted = if list_any (wants_same wanted) t.wants then None else Some (record t { wants = t.wants ++ wanted ∷ [] })

-- a new name
abbrev pub with_program : Table → List ℕ → List ℕ → Option Table
with_program t name path = if list_any (is_called name) t.programs then None else Some (record t { programs = t.programs ++ (name, path) ∷ [] })

-- once
abbrev pub with_retain : Table → ℕ → Option Table
with_retain t days = if is_some t.retain then None else Some (record t { retain = Some days })

abbrev pub with_line : Table → Line → Option Table
with_line t (Namespace number name limits) = with_namespace t number name limits
with_line t (Key key subject home) = with_key t key subject home
with_line t (Grant key namespace right) = with_grant t key namespace right
with_line t (Pool memory) = with_pool t memory
with_line t (Prewarming wanted) = with_prewarm t wanted
with_line t (Program name path) = with_program t name path
with_line t (Retain days) = with_retain t days

-- ---- the whole table

-- the table with one more row; none where the row is bad
unfoldable pub with_row : Table → List (List ℕ) → Option Table
with_row t row = option_and_then (with_line t) (row_of row)

-- the rest of the rows, or the number of a bad one
abbrev pub or_bad : ℕ → (Table → Result Table ℕ) → Option Table → Result Table ℕ
or_bad number rest None = Err number
or_bad number rest (Some t) = rest t

-- the table with these rows, the first of which has this number; or the number of the first that is bad
unfoldable pub with_rows : ℕ → Table → List (List (List ℕ)) → Result Table ℕ
with_rows number t [] = Ok t
with_rows number t (row ∷ rows) = or_bad number (λ u. with_rows (number + 1) u rows) (with_row t row)

-- the most bytes of a table
abbrev pub most_bytes : ℕ
most_bytes = 4194304

-- the records that `csv` reads in a text, of which there are at most as many as bytes
unfoldable pub csv_rows : List ℕ → List (List (List ℕ))
csv_rows text = records_from default_config (length text + 1) st.StartRecord (strip_bom text)

-- the table of these rows, counted from 1, or the number of the first that is bad
unfoldable pub rows_of : List ℕ → Result Table ℕ
rows_of text = with_rows 1 no_rows (csv_rows text)

-- the table that a text is, or the number of the first bad row, 0
-- where the text is too long
unfoldable pub table_of : List ℕ → Result Table ℕ
table_of text = if nat_lt most_bytes (length text) then Err 0 else rows_of text
