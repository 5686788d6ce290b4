-- What a read of the office table answers.
use Rattle.std.specs.Prelude.{◌≡◌, ◌≤◌, ◌+◌, ◌++◌, ℕ, List, [], drop, take, Option, Some, None, Result, Ok, Err, ⊤}
use Rattle.ow_tenant.specs.Table.{Table, most_bytes, table_of}
use Rattle.ow_tenant.specs.declared.refusal.TenantRefusal.{TenantRefusal}
use Rattle.ow_tenant.specs.declared.refusal.TenantRefusal.TheVariants.{BadRow, ReadFault, NoMemory, UnknownKey, NotGranted}

-- the table, or the number of the bad row; or that it could not be read
abbrev pub Tells : Result Table ℕ → Result Table TenantRefusal → Type 0
Tells want (Ok t) = want ≡ Ok t
Tells want (Err (BadRow row)) = want ≡ Err row
Tells want (Err ReadFault) = ⊤
Tells want (Err NoMemory) = ⊤
Tells want (Err UnknownKey) = ⊥
Tells want (Err NotGranted) = ⊥

-- the most bytes that are read: one more than a table may have
abbrev pub most_read : ℕ
most_read = most_bytes + 1

-- what a source that reports its bytes is read as, and what it has left
abbrev pub TellsTable : Option (List ℕ) → Option (List ℕ) → Result Table TenantRefusal → Type 0
TellsTable None left result = (want : Result Table ℕ) × Tells want result
TellsTable (Some text) left (Ok t) = (table_of text ≡ Ok t) × (left ≡ Some (drop most_read text))
TellsTable (Some text) left (Err (BadRow row)) = (table_of text ≡ Err row) × (left ≡ Some (drop most_read text))
TellsTable (Some text) left (Err e) = Tells (table_of text) (Err e)

-- of a source that reports its bytes at most `most` were read
abbrev pub ReadsUpTo : ℕ → Option (List ℕ) → Option (List ℕ) → Type 0
ReadsUpTo most None left = Unit {0}
ReadsUpTo most (Some text) left = (count : ℕ) × (count ≤ most) × (left ≡ Some (drop count text))

-- these bytes of a source that reports its own were read, and it has the others left, for private clauses
abbrev pub HasRead : Option (List ℕ) → Option (List ℕ) → List ℕ → Type 0
HasRead None left bytes = left ≡ None
HasRead (Some all) left bytes = (rest : List ℕ) × (all ≡ bytes ++ rest) × (left ≡ Some rest)

-- a source that reports what it has left has nothing left, for private clauses
abbrev pub IsAtEnd : Option (List ℕ) → Type 0
IsAtEnd None = ⊤
IsAtEnd (Some rest) = rest ≡ []

-- the bytes that were read of a source that reports its own, and what it has left, for private clauses
abbrev pub ReadsBytes : Option (List ℕ) → Option (List ℕ) → List ℕ → Type 0
ReadsBytes None left bytes = left ≡ None
ReadsBytes (Some text) left bytes = (bytes ≡ take most_read text) × (left ≡ Some (drop most_read text))
