-- For private clauses: the statements on the tables of kept rows and of old rows.
use Rattle.std.specs.Prelude.{ℕ, List, codes, Ok}
use Rattle.sqlite_value.specs.Order.{Row}
use Rattle.sqlite.specs.Store.{Ghosts}
use Rattle.sqlite.specs.State.{Executes}
use Rattle.sqlite.specs.Held.{Held, state}

abbrev pub create_sql : List ℕ
create_sql = codes "CREATE TABLE IF NOT EXISTS kept (key TEXT PRIMARY KEY, text TEXT NOT NULL)"

abbrev pub create_old_sql : List ℕ
create_old_sql = codes "CREATE TABLE IF NOT EXISTS old (key TEXT PRIMARY KEY, text TEXT NOT NULL)"

abbrev pub select_sql : List ℕ
select_sql = codes "SELECT key, text FROM kept ORDER BY key"

abbrev pub put_sql : List ℕ
put_sql = codes "INSERT INTO kept (key, text) VALUES (?1, ?2) ON CONFLICT (key) DO UPDATE SET text = excluded.text"

abbrev pub drop_sql : List ℕ
drop_sql = codes "DELETE FROM kept WHERE key = ?1"

abbrev pub put_old_sql : List ℕ
put_old_sql = codes "INSERT INTO old (key, text) VALUES (?1, ?2) ON CONFLICT (key) DO UPDATE SET text = excluded.text"

-- the statement was executed with these parameters
pub record Executed {S : Type 0} (g : Ghosts S) (sql : List ℕ) (params : Row) (old new : Held S) : Type 0 where
  pub count : ℕ
  pub executed : Executes sql params (state g old) (state g new) (Ok count)
