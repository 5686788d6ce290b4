-- For private clauses: how failures of the database are reported and counted.
use Rattle.std.specs.Prelude.{◌+◌, ◌-◌, ◌^◌, min, ℕ}
use Rattle.sqlite.specs.declared.error.Error.{Error}
use Rattle.sqlite.specs.declared.error.Error.TheVariants.{SqliteFailure}
use Rattle.sqlite.specs.declared.error.ErrorCode.TheVariants as code
use Rattle.ow_traits.specs.declared.keepers.KeeperError.{KeeperError}
use Rattle.ow_traits.specs.declared.keepers.KeeperError.TheVariants.{Failed, NoMemory}

-- the keeper's error for an error of the database
abbrev pub keeper_error : Error → KeeperError
keeper_error (SqliteFailure code.OutOfMemory) = NoMemory
keeper_error _ = Failed

-- the count of faults after a call that ended with this error: a failure counts, up to the greatest u64, and running out of memory doesn't
abbrev pub faults_after : KeeperError → ℕ → ℕ
faults_after Failed faults = min (faults + 1) (2 ^ 64 - 1)
faults_after NoMemory faults = faults
