-- What the three statements of a load are, whatever the schema.
use Rattle.std.proofs.Common.{◌≡◌, ◌+◌, ◌==◌, ◌&&◌, ℕ, Bool, true, false, not, cond, List, length, None, Ok, Err, IfOk, refl, sym, ap, ◌∙◌, subst}
use Rattle.std.proofs.lemmas.Bool.{false≢true}
use Rattle.sqlite_ast.specs.declared.Statement.{Statement}
use Rattle.sqlite_ast.specs.declared.Statement.TheVariants as written
use Rattle.sqlite_ast.specs.declared.CreateTable.{CreateTable}
use Rattle.sqlite_syntax.specs.declared.statement.Parsed.{Parsed}
use Rattle.sqlite_resolve.specs.declared.compiled.Compiled.{Compiled}
use Rattle.sqlite_resolve.specs.declared.error.CompileError.TheVariants.{NoSuchTable, Unsupported}
use Rattle.sqlite_resolve.specs.Define as define
use Rattle.sqlite_resolve.specs.Lowering.{Checked, and_then}
use Rattle.sqlite.specs.Compile.{command, compiled, create_table, creates as is_free, first, is_attached, meaning, planned, returning, small, timed, with_command}
use Rattle.sqlite.specs.Command.{Command}
use Rattle.sqlite.specs.Command.TheVariants.{CreateTable as MakeTable, Nothing}
use Rattle.sqlite.specs.Schema.{Schema}
use Rattle.sqlite.specs.Listing.{if_select, is_select, listing_schema, reads_listing, understood}
use Rattle.sqlite_tied.specs.Compute.{everything}
use Rattle.ow_sqlite.specs.Statements.{create_old_sql, create_sql, select_sql}

-- the command makes a table, or does nothing
abbrev pub makes : Command → Bool
makes MakeTable = true
makes Nothing = true
makes _ = false

abbrev is_create : Statement → Bool
is_create (written.CreateTable def) = true
is_create _ = false

abbrev creates : Checked Parsed → Bool
creates (Ok p) = is_create p.statement
creates (Err e) = false

-- the first statement of a text is a CREATE TABLE
abbrev pub IsCreate : List ℕ → Type 0
IsCreate sql = creates (first sql) ≡ true

pub create_read : IsCreate create_sql
unfolding everything
create_read = refl

pub create_old_read : IsCreate create_old_sql
unfolding everything
create_old_read = refl

select_read : (schema : Schema) (base : ℕ) → and_then (first select_sql) (λ p. returning schema base p.statement) ≡ Ok None
unfolding everything
select_read schema base = refl

bound : {A B : Type 0} (r : Checked A) (f : A → Checked B) (b : B) → and_then r f ≡ Ok b → (a : A) × (r ≡ Ok a) × (f a ≡ Ok b)
bound (Ok a) f b h = (a, refl, h)
bound (Err e) f b h = absurd (cc)

abbrev ok_or : {A : Type 0} → A → Checked A → A
ok_or none (Ok a) = a
ok_or none (Err e) = none

-- of what the first statement of a text is compiled
compiled_of : (schema : Schema) (sql : List ℕ) (c : Compiled) → compiled schema sql ≡ Ok c
    → (p : Parsed) × (base : ℕ) × (first sql ≡ Ok p) × (returning schema base p.statement ≡ Ok c.returning) × (command schema p.formats base p.statement ≡ Ok c.command)
unfolding compiled planned meaning
compiled_of schema sql c h =
    let one = bound (first sql) (λ p. and_then (planned schema p) (λ plan. Ok (with_command p plan))) c h in
    let p = one.0 in
    let formats = timed schema p.formats p.statement in
    let base = small p.names + small formats in
    let two = bound (planned schema p) (λ plan. Ok (with_command p plan)) c one.2 in
    let three = bound (meaning schema p base) (λ found. Ok (formats, found)) two.0 two.1 in
    let four = bound (returning schema base p.statement) (λ shown. and_then (command schema p.formats base p.statement) (λ k. Ok (k, shown))) three.0 three.1 in
    let five = bound (command schema p.formats base p.statement) (λ k. Ok (k, four.0)) three.0 four.2 in (
      p,
      base,
      one.1,
      four.1 ∙ ap Ok (ap (λ r. (ok_or three.0 r).1) five.2 ∙ ap (λ r. (ok_or two.0 r).1.1) three.2 ∙ ap (λ r. (ok_or c r).returning) two.2),
      five.1 ∙ ap Ok (ap (λ r. (ok_or three.0 r).0) five.2 ∙ ap (λ r. (ok_or two.0 r).1.0) three.2 ∙ ap (λ r. (ok_or c r).command) two.2),
    )

kept_if : (b : Bool) (x c : Compiled) → ◌≡◌ {A = Checked Compiled} (cond b (Ok x) (Err NoSuchTable)) (Ok c) → ◌≡◌ {A = Checked Compiled} (Ok x) (Ok c)
kept_if true x c h = h
kept_if false x c h = absurd (cc)

selected : (r : Checked Compiled) (c : Compiled) → if_select r ≡ Ok c → r ≡ Ok c
selected (Ok x) c h = kept_if (is_select x.command) x c h
selected (Err e) c h = absurd (cc)

either : (lists : Bool) (schema : Schema) (sql : List ℕ) (c : Compiled) → cond lists (if_select (compiled listing_schema sql)) (compiled schema sql) ≡ Ok c → (s : Schema) × (compiled s sql ≡ Ok c)
either true schema sql c h = (listing_schema, selected (compiled listing_schema sql) c h)
either false schema sql c h = (schema, h)

understood_of : (schema : Schema) (sql : List ℕ) (c : Compiled) → understood schema sql ≡ Ok c → (s : Schema) × (compiled s sql ≡ Ok c)
unfolding understood
understood_of schema sql c h = either (reads_listing schema sql) schema sql c h

abbrev IsMaking : Checked Command → Type 0
IsMaking r = IfOk r (λ k. makes k ≡ true)

fits_makes : (fits : Bool) → IsMaking (cond fits (Ok MakeTable) (Err Unsupported))
fits_makes true = refl
fits_makes false = tt

defined_makes : {T : Type 0} (attached : Bool) (fresh : Checked Bool) (table : Checked T) (fits : T → Bool)
    → IsMaking (cond attached (Err Unsupported) (and_then fresh (λ is_new. cond is_new (and_then table (λ t. cond (fits t) (Ok MakeTable) (Err Unsupported))) (Ok Nothing))))
defined_makes true fresh table fits = tt
defined_makes false (Err e) table fits = tt
defined_makes false (Ok false) table fits = refl
defined_makes false (Ok true) (Err e) fits = tt
defined_makes false (Ok true) (Ok t) fits = fits_makes (fits t)

table_makes : (schema : Schema) (formats : List (List ℕ)) (def : CreateTable) → IsMaking (create_table schema formats def)
unfolding create_table
table_makes schema formats def =
    defined_makes (is_attached schema def.name) (is_free def.if_missing def.name _ _) (define.table formats def) (λ t. length t.computed == length t.stamps.places && not def.resolves)

command_makes : (schema : Schema) (formats : List (List ℕ)) (base : ℕ) (s : Statement) → is_create s ≡ true → IsMaking (command schema formats base s)
unfolding command
command_makes schema formats base (written.CreateTable def) is = table_makes schema formats def
command_makes schema formats base _ is = absurd (false≢true is)

-- the statement that reads the rows has no RETURNING
pub select_returns : (schema : Schema) (c : Compiled) → understood schema select_sql ≡ Ok c → c.returning ≡ None
select_returns schema c h =
    let by = understood_of schema select_sql c h in
    let it = compiled_of by.0 select_sql c by.1 in
    let none = subst (λ r. and_then r (λ p. returning by.0 it.1 p.statement) ≡ Ok None) it.2 (select_read by.0 it.1) in
    ap (ok_or c.returning) (sym it.3 ∙ none)

-- a statement that makes a table does only that
pub create_makes : (sql : List ℕ) → IsCreate sql → (schema : Schema) (c : Compiled) → understood schema sql ≡ Ok c → makes c.command ≡ true
create_makes sql create schema c h =
    let by = understood_of schema sql c h in
    let it = compiled_of by.0 sql c by.1 in
    subst IsMaking it.4 (command_makes by.0 _ it.1 it.0.statement (subst (λ r. creates r ≡ true) it.2 create))
