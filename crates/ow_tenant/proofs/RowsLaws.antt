-- How the rows of a table go on with each record that is read, and the bytes with each piece.
use Rattle.std.proofs.Common.{◌≡◌, ◌≢◌, ℕ, zero, suc, ◌+◌, ◌<◌, ◌≤◌, List, [], ◌∷◌, ◌++◌, true, false, length, take, drop, Option, Some, None, Result, Ok, Err, refl, sym, ap, ◌∙◌, arith, append_assoc, append-nil}
use Rattle.std.proofs.lemmas.List.{take-append-drop, length-append, length-take, drop_all}
use Rattle.std.proofs.Math.Nat.{min-le_left}
use Rattle.std.specs.Prelude.{nat_eq, option_and_then, IsErrAnd}
use Rattle.std.proofs.lemmas.Bool.{eqb-true, le-ltb, lt-ltb}
use Rattle.csv.specs.Machine.{Read, next_record}
use Rattle.csv.specs.Reading.{Reached, ReadRecord, default_config, records_from, records_next, source_of}
use Rattle.csv.specs.declared.parser.State.{State}
use Rattle.csv.specs.declared.reader.Reader.{Reader}
use Rattle.csv.proofs.ReadFacts.{rows-end, rows-more}
use Rattle.ow_traits.specs.Streams.{ReadsSome}
use Rattle.ow_traits.specs.declared.streams.Failed.{Failed}
use Rattle.ow_tenant.specs.Reading.{HasRead, IsAtEnd, ReadsBytes, ReadsUpTo, Tells, TellsTable, most_read}
use Rattle.ow_tenant.specs.declared.refusal.TenantRefusal.{TenantRefusal}
use Rattle.ow_tenant.specs.declared.refusal.TenantRefusal.TheVariants.{BadRow, ReadFault, NoMemory, UnknownKey, NotGranted}
use Rattle.csv.specs.Reading.{strip_bom}
use Rattle.csv.specs.Records.{field_at}
use Rattle.csv.specs.declared.parser.State.TheVariants as st
use Rattle.ow_tenant.specs.Row.{row_of}
use Rattle.ow_tenant.specs.Table.{Table, csv_rows, no_rows, or_bad, rows_of, table_of, with_line, with_row, with_rows}
use Rattle.ow_tenant.specs.declared.line.Line.{Line}

-- ---- records

next : (n : ℕ) (s s2 : State) (y z : List ℕ) (f : List (List ℕ)) → Reached default_config s y (f ∷ []) s2 z → records_from default_config (suc n) s y ≡ f ∷ records_from default_config n s2 z
unfolding Reached records_from
next n s s2 y z f h =
    let p : Read = h.0 in
    let found : records_next (records_from default_config n) (next_record default_config s [] [] y) ≡ p.0 ∷ records_from default_config n p.1 p.2 = ap (records_next (records_from default_config n)) h.1 in
    let state : p.1 ≡ s2 = h.3.0 in
    let rest : p.2 ≡ z = h.3.1 in
    found ∙ (ap (λ (x : List (List ℕ)). x ∷ records_from default_config n p.1 p.2) (sym h.2) ∙ (ap (λ (x : State). f ∷ records_from default_config n x p.2) state ∙ ap (λ (x : List ℕ). f ∷ records_from default_config n s2 x) rest))

start : (s : State) (y : List ℕ) → Reached default_config s y [] s y
unfolding Reached
start s y = (refl, refl)

-- a record that was read is the next
pub row-read : {R : Type 0} (rem : R → Option (List ℕ)) (a b : Reader R) (f : List (List ℕ)) (y : List ℕ) (left n : ℕ) → left ≡ suc n → a.config ≡ default_config → source_of rem a ≡ Some y → ReadRecord rem a b true f
    → (z : List ℕ) × (source_of rem b ≡ Some z) × (records_from default_config left a.state y ≡ f ∷ records_from default_config n b.state z)
row-read rem a b f y left n e config from read =
    let m = rows-more rem a b f default_config a.state y y [] config from (start a.state y) read in
    (m.0, m.1, ap (λ (k : ℕ). records_from default_config k a.state y) e ∙ next n a.state b.state y m.0 f m.2)

-- where no record was read there is none
pub rows-read : {R : Type 0} (rem : R → Option (List ℕ)) (a b : Reader R) (f : List (List ℕ)) (y : List ℕ) (left n : ℕ) → left ≡ suc n → a.config ≡ default_config → source_of rem a ≡ Some y → ReadRecord rem a b false f
    → records_from default_config left a.state y ≡ []
unfolding records_from
rows-read rem a b f y left n e config from read =
    let none = rows-end rem a b f default_config y config from read in
    ap (λ (k : ℕ). records_from default_config k a.state y) e ∙ ap (records_next (records_from default_config n)) none

pub no-more : (s : State) (y : List ℕ) (left : ℕ) → left ≡ 0 → records_from default_config left s y ≡ []
unfolding records_from
no-more s y left e = rw e refl

-- ---- rows

pub rows-done : (number : ℕ) (t : Table) (rows : List (List (List ℕ))) → rows ≡ [] → with_rows number t rows ≡ Ok t
unfolding with_rows
rows-done number t rows e = rw e refl

pub rows-bad : (number : ℕ) (t : Table) (rows rest : List (List (List ℕ))) (f : List (List ℕ)) → rows ≡ f ∷ rest → with_row t f ≡ None → with_rows number t rows ≡ Err number
unfolding with_rows
rows-bad number t rows rest f e bad = rw e (ap (or_bad number (λ u. with_rows (number + 1) u rest)) bad)

pub rows-good : (number : ℕ) (t u : Table) (rows rest : List (List (List ℕ))) (f : List (List ℕ)) → rows ≡ f ∷ rest → with_row t f ≡ Some u → with_rows number t rows ≡ with_rows (number + 1) u rest
unfolding with_rows
rows-good number t u rows rest f e good = rw e (ap (or_bad number (λ u. with_rows (number + 1) u rest)) good)

-- ---- bytes

pub HasRead-none : (old : Option (List ℕ)) → HasRead old old []
HasRead-none None = refl
HasRead-none (Some all) = (all, refl, refl)

pub HasRead-more : (old mid new : Option (List ℕ)) (bytes more piece room : List ℕ) (n : ℕ) → HasRead old mid bytes → ReadsSome mid new room (Ok n) → piece ≡ take n room → more ≡ bytes ++ piece → HasRead old new more
HasRead-more None None new bytes more piece room n h r p e = r
HasRead-more None (Some m) new bytes more piece room n h r p e = cc h
HasRead-more (Some all) None new bytes more piece room n h r p e = cc h.2
HasRead-more (Some all) (Some m) new bytes more piece room n h r p e =
    let is : m ≡ h.0 = cc h.2 in
    let both : piece ++ drop n m ≡ h.0 = ap (λ z. z ++ drop n m) (p ∙ r.2) ∙ (take-append-drop n m ∙ is) in
    (drop n m, h.1 ∙ (ap (λ z. bytes ++ z) (sym both) ∙ (sym (append_assoc bytes piece (drop n m)) ∙ ap (λ z. z ++ drop n m) (sym e))), r.1)

take_front : (n : ℕ) (xs ys : List ℕ) → length xs ≡ n → take n (xs ++ ys) ≡ xs
take_front n [] ys e = rw (sym e) refl
take_front zero (x ∷ xs) ys e = absurd (omega (arith, e))
take_front (suc n) (x ∷ xs) ys e = ap (λ z. x ∷ z) (take_front n xs ys (omega (arith, e)))

drop_front : (n : ℕ) (xs ys : List ℕ) → length xs ≡ n → drop n (xs ++ ys) ≡ ys
drop_front n [] ys e = rw (sym e) refl
drop_front zero (x ∷ xs) ys e = absurd (omega (arith, e))
drop_front (suc n) (x ∷ xs) ys e = drop_front n xs ys (omega (arith, e))

take_none : (n : ℕ) → take {A = ℕ} n [] ≡ []
take_none zero = refl
take_none (suc n) = refl

drop_none : (n : ℕ) → drop {A = ℕ} n [] ≡ []
drop_none zero = refl
drop_none (suc n) = refl

take_whole : (n : ℕ) (xs : List ℕ) → length xs ≤ n → take n xs ≡ xs
take_whole n [] le = take_none n
take_whole zero (x ∷ xs) le = absurd (omega (arith, le))
take_whole (suc n) (x ∷ xs) le = ap (λ z. x ∷ z) (take_whole n xs (omega (arith, le)))

-- as many as may be read
pub read_full : (old new : Option (List ℕ)) (bytes : List ℕ) → HasRead old new bytes → length bytes ≡ most_read → ReadsBytes old new bytes
read_full None new bytes h full = h
read_full (Some all) new bytes h full =
    (sym (ap (take most_read) h.1 ∙ take_front most_read bytes h.0 full), h.2 ∙ ap Some (sym (ap (drop most_read) h.1 ∙ drop_front most_read bytes h.0 full)))

-- where these bytes were read, and they are at most `most`, at most that many were read
pub has_up_to : (most : ℕ) (old new : Option (List ℕ)) (bytes : List ℕ) → HasRead old new bytes → length bytes ≤ most → ReadsUpTo most old new
has_up_to most None new bytes h le = tt
has_up_to most (Some all) new bytes h le = (length bytes, le, h.2 ∙ ap Some (sym (ap (drop (length bytes)) h.1 ∙ drop_front (length bytes) bytes h.0 refl)))

length_take : (n : ℕ) (xs : List ℕ) → length (take n xs) ≤ n
length_take n xs = let is = length-take n xs in let least = min-le_left n (length xs) in omega (arith, is, least)

-- nor are they where a piece was read beyond them, or could not be read
pub piece_up_to : (old mid new : Option (List ℕ)) (bytes room : List ℕ) (n space : ℕ) → HasRead old mid bytes → ReadsSome mid new room (Ok n) → n ≤ space → ReadsUpTo (length bytes + space) old new
piece_up_to old mid new bytes room n space h r le =
    has_up_to (length bytes + space) old new (bytes ++ take n room) (HasRead-more old mid new bytes (bytes ++ take n room) (take n room) room n h r refl refl)
    (omega (arith, length-append bytes (take n room), length_take n room, le))

pub fault_up_to : (old mid new : Option (List ℕ)) (bytes room : List ℕ) (e : Failed) (space : ℕ) → HasRead old mid bytes → ReadsSome mid new room (Err e) → ReadsUpTo (length bytes + space) old new
fault_up_to None mid new bytes room e space h r = tt
fault_up_to (Some all) None new bytes room e space h r = cc h.2
fault_up_to (Some all) (Some m) new bytes room e space h r = has_up_to (length bytes + space) (Some all) new bytes (h.0, h.1, r ∙ h.2) (omega arith)

-- where it is read to the end, or as far as it may be
pub whole_up_to : (old new : Option (List ℕ)) (bytes : List ℕ) → ReadsBytes old new bytes → ReadsUpTo most_read old new
whole_up_to None new bytes h = tt
whole_up_to (Some text) new bytes h = (most_read, omega arith, h.1)

pub none_up_to : (most : ℕ) (old : Option (List ℕ)) → ReadsUpTo most old old
none_up_to most None = tt
none_up_to most (Some text) = (0, omega arith, refl)

pub up_to_most : (n most : ℕ) (old new : Option (List ℕ)) → n ≤ most → ReadsUpTo n old new → ReadsUpTo most old new
up_to_most n most None new le h = tt
up_to_most n most (Some text) new le h = (h.0, omega (arith, le, h.1), h.2)

whole_front : (all bytes : List ℕ) → all ≡ bytes → length bytes ≤ most_read → bytes ≡ take most_read all
whole_front all bytes e le = sym (ap (take most_read) e ∙ take_whole most_read bytes le)

whole_rest : (all bytes : List ℕ) → all ≡ bytes → length bytes ≤ most_read → [] ≡ drop most_read all
whole_rest all bytes e le = sym (drop_all most_read all (omega (arith, ap length e, le)))

-- all of them
pub read_end : (old new : Option (List ℕ)) (bytes : List ℕ) → HasRead old new bytes → IsAtEnd new → length bytes ≤ most_read → ReadsBytes old new bytes
read_end None new bytes h end le = h
read_end (Some all) None bytes h end le = cc h.2
read_end (Some all) (Some m) bytes h end le =
    let is : m ≡ h.0 = cc h.2 in
    let whole : all ≡ bytes = h.1 ∙ (ap (λ (y : List ℕ). bytes ++ y) (sym is ∙ end) ∙ append-nil bytes) in
    (whole_front all bytes whole le, ap Some (end ∙ whole_rest all bytes whole le))

-- where nothing was read nothing is left
pub end_read : (old new : Option (List ℕ)) (room : List ℕ) (n : ℕ) → ReadsSome old new room (Ok n) → n ≡ 0 → IsAtEnd new
end_read None None room n r z = tt
end_read None (Some m) room n r z = cc r
end_read (Some rest) None room n r z = tt
end_read (Some rest) (Some m) room n r z =
    let is : m ≡ drop n rest = cc r.1 in
    is ∙ (ap (drop n) (r.3 z) ∙ drop_none n)

-- ---- the table of the bytes

long : (text bytes : List ℕ) → bytes ≡ take most_read text → length bytes ≤ length text
long text bytes e = omega (arith, ap length e, length-take most_read text)

pub table_too_long : (text bytes : List ℕ) → bytes ≡ take most_read text → 4194304 < length bytes → table_of text ≡ Err 0
unfolding table_of
table_too_long text bytes e h = rw (lt-ltb 4194304 (length text) (omega (arith, long text bytes e))) refl

pub table_rows : (text bytes : List ℕ) → bytes ≡ take most_read text → length bytes ≤ 4194304 → table_of text ≡ rows_of bytes
unfolding table_of
table_rows text bytes e h =
    let short : length text ≤ 4194304 = omega (arith, ap length e, length-take most_read text) in
    let all : bytes ≡ text = e ∙ take_whole most_read text (omega arith) in
    rw (le-ltb 4194304 (length text) short) (ap rows_of (sym all))

-- ---- what a read answers

pub tells-fault : (old left : Option (List ℕ)) (e : TenantRefusal) → (e ≢ NoMemory → e ≡ ReadFault) → TellsTable old left (Err e)
tells-fault None left (BadRow row) h = absurd (cc (h (λ q. cc q)))
tells-fault None left ReadFault h = (Err 0, tt)
tells-fault None left NoMemory h = (Err 0, tt)
tells-fault None left UnknownKey h = absurd (cc (h (λ q. cc q)))
tells-fault None left NotGranted h = absurd (cc (h (λ q. cc q)))
tells-fault (Some text) left (BadRow row) h = absurd (cc (h (λ q. cc q)))
tells-fault (Some text) left ReadFault h = tt
tells-fault (Some text) left NoMemory h = tt
tells-fault (Some text) left UnknownKey h = absurd (cc (h (λ q. cc q)))
tells-fault (Some text) left NotGranted h = absurd (cc (h (λ q. cc q)))

pub tells-long : (old left : Option (List ℕ)) (bytes : List ℕ) → ReadsBytes old left bytes → 4194304 < length bytes → TellsTable old left (Err (BadRow 0))
tells-long None left bytes r h = (Err 0, refl)
tells-long (Some text) left bytes r h = (table_too_long text bytes r.0 h, r.1)

pub tells-rows : (old left : Option (List ℕ)) (bytes : List ℕ) (r : Result Table TenantRefusal) → ReadsBytes old left bytes → length bytes ≤ 4194304 → Tells (rows_of bytes) r → r ≢ Err ReadFault → TellsTable old left r
tells-rows None left bytes r b short h f = (rows_of bytes, h)
tells-rows (Some text) left bytes (Ok t) b short h f = (table_rows text bytes b.0 short ∙ h, b.1)
tells-rows (Some text) left bytes (Err (BadRow row)) b short h f = (table_rows text bytes b.0 short ∙ h, b.1)
tells-rows (Some text) left bytes (Err ReadFault) b short h f = absurd (f refl)
tells-rows (Some text) left bytes (Err NoMemory) b short h f = tt
tells-rows (Some text) left bytes (Err UnknownKey) b short h f = h
tells-rows (Some text) left bytes (Err NotGranted) b short h f = h

-- a result that is an error with P agrees with the table, where each error with P does
pub tells-made : (old left : Option (List ℕ)) (r : Result Table TenantRefusal) (P : TenantRefusal → Type 0) → IsErrAnd r P → ((e : TenantRefusal) → P e → TellsTable old left (Err e)) → TellsTable old left r
tells-made old left (Ok t) P h f = absurd h
tells-made old left (Err e) P h f = f e h

-- ---- what a read of the rows answers

pub tells-bad : (want : Result Table ℕ) (number : ℕ) (t : Table) (rows rest : List (List (List ℕ))) (f : List (List ℕ)) (e : TenantRefusal) → want ≡ with_rows number t rows → rows ≡ f ∷ rest
    → (e ≢ NoMemory → (e ≡ BadRow number) × (with_row t f ≡ None)) → Tells want (Err e)
tells-bad want number t rows rest f (BadRow row) w q h =
    let both = h (λ x. cc x) in
    let same : number ≡ row = cc both.0 in
    w ∙ (rows-bad number t rows rest f q both.1 ∙ ap Err same)
tells-bad want number t rows rest f ReadFault w q h = absurd (cc (h (λ x. cc x)).0)
tells-bad want number t rows rest f NoMemory w q h = tt
tells-bad want number t rows rest f UnknownKey w q h = absurd (cc (h (λ x. cc x)).0)
tells-bad want number t rows rest f NotGranted w q h = absurd (cc (h (λ x. cc x)).0)

-- ---- one row

pub row-none : (t : Table) (row : List (List ℕ)) → row_of row ≡ None → with_row t row ≡ None
unfolding with_row
row-none t row e = ap (option_and_then (with_line t)) e

pub row-some : (t : Table) (row : List (List ℕ)) (l : Line) → row_of row ≡ Some l → with_row t row ≡ with_line t l
unfolding with_row
row-some t row l e = ap (option_and_then (with_line t)) e

pub rows-start : (text : List ℕ) (s : State) (n : ℕ) → s ≡ st.StartRecord → n ≡ length text + 1 → rows_of text ≡ with_rows 1 no_rows (records_from default_config n s (strip_bom text))
unfolding rows_of csv_rows
rows-start text s n state e = ap (λ (k : ℕ). with_rows 1 no_rows (records_from default_config k st.StartRecord (strip_bom text))) (sym e) ∙ ap (λ (x : State). with_rows 1 no_rows (records_from default_config n x (strip_bom text))) (sym state)

-- ---- six fields

pub field-there : (fs : List (List ℕ)) (i : ℕ) → i < length fs → field_at fs i ≡ None → ⊥
unfolding field_at
field-there [] i lt e = omega (arith, lt)
field-there (f ∷ fs) zero lt e = cc e
field-there (f ∷ fs) (suc i) lt e = field-there fs i (omega (arith, lt)) e

pub not-six : (fs : List (List ℕ)) → nat_eq (length fs) 6 ≡ false → row_of fs ≡ None
unfolding row_of
not-six [] h = refl
not-six (a ∷ []) h = refl
not-six (a ∷ b ∷ []) h = refl
not-six (a ∷ b ∷ c ∷ []) h = refl
not-six (a ∷ b ∷ c ∷ d ∷ []) h = refl
not-six (a ∷ b ∷ c ∷ d ∷ e ∷ []) h = refl
not-six (a ∷ b ∷ c ∷ d ∷ e ∷ f ∷ []) h = cc h
not-six (a ∷ b ∷ c ∷ d ∷ e ∷ f ∷ g ∷ rest) h = refl

back : (a b : List ℕ) → Some a ≡ Some b → b ≡ a
back a b e = cc e

pub six : (fs : List (List ℕ)) (a b c d e f : List ℕ) → nat_eq (length fs) 6 ≡ true → Some a ≡ field_at fs 0 → Some b ≡ field_at fs 1 → Some c ≡ field_at fs 2 → Some d ≡ field_at fs 3 → Some e ≡ field_at fs 4 → Some f ≡ field_at fs 5
    → fs ≡ a ∷ b ∷ c ∷ d ∷ e ∷ f ∷ []
unfolding field_at
six [] a b c d e f n h0 h1 h2 h3 h4 h5 = cc h0
six (u ∷ []) a b c d e f n h0 h1 h2 h3 h4 h5 = cc h1
six (u ∷ v ∷ []) a b c d e f n h0 h1 h2 h3 h4 h5 = cc h2
six (u ∷ v ∷ w ∷ []) a b c d e f n h0 h1 h2 h3 h4 h5 = cc h3
six (u ∷ v ∷ w ∷ x ∷ []) a b c d e f n h0 h1 h2 h3 h4 h5 = cc h4
six (u ∷ v ∷ w ∷ x ∷ y ∷ []) a b c d e f n h0 h1 h2 h3 h4 h5 = cc h5
six (u ∷ v ∷ w ∷ x ∷ y ∷ z ∷ []) a b c d e f n h0 h1 h2 h3 h4 h5 =
    ap (λ (k : List ℕ). k ∷ v ∷ w ∷ x ∷ y ∷ z ∷ []) (back a u h0)
    ∙ (ap (λ (k : List ℕ). a ∷ k ∷ w ∷ x ∷ y ∷ z ∷ []) (back b v h1)
    ∙ (ap (λ (k : List ℕ). a ∷ b ∷ k ∷ x ∷ y ∷ z ∷ []) (back c w h2)
    ∙ (ap (λ (k : List ℕ). a ∷ b ∷ c ∷ k ∷ y ∷ z ∷ []) (back d x h3)
    ∙ (ap (λ (k : List ℕ). a ∷ b ∷ c ∷ d ∷ k ∷ z ∷ []) (back e y h4)
    ∙ ap (λ (k : List ℕ). a ∷ b ∷ c ∷ d ∷ e ∷ k ∷ []) (back f z h5)))))
six (u ∷ v ∷ w ∷ x ∷ y ∷ z ∷ t ∷ rest) a b c d e f n h0 h1 h2 h3 h4 h5 = absurd (omega (arith, eqb-true (length (u ∷ v ∷ w ∷ x ∷ y ∷ z ∷ t ∷ rest)) 6 n))
