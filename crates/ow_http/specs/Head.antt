-- Which bytes have a request head that the office reads, and why others have none.
use Rattle.std.specs.Prelude.{ℕ, ◌<◌, ◌≤◌, List, length}
use Rattle.httparse.specs.Grammar.{RequestHead, ReadsRequest, print_request, HasNoRequest, NeverHasRequest, MayBecomeRequest}
use Rattle.httparse.specs.Spans.{RequestExceeds}
use Rattle.ow_http.specs.declared.head.TheConstants.{MAX_HEAD, MAX_HEADERS}

-- the bytes begin with this head, which is within the limits, and go on with this rest
pub record HasHead (bytes : List ℕ) (h : RequestHead) (rest : List ℕ) : Type 0 where
  pub reads : ReadsRequest bytes h rest
  pub few : length h.fields ≤ MAX_HEADERS
  pub short : length (print_request h) ≤ MAX_HEAD

-- the bytes end inside a head
pub record IsCutHead (bytes : List ℕ) : Type 0 where
  pub none : HasNoRequest bytes
  pub begun : MayBecomeRequest bytes
  pub short : length bytes ≤ MAX_HEAD

-- why the bytes have no head within the limits, though they don't end inside one
pub data IsBadHead (bytes : List ℕ) : Type 0 where
  malformed : NeverHasRequest bytes → IsBadHead bytes
  crowded : RequestExceeds MAX_HEADERS bytes → IsBadHead bytes
  long : (h : RequestHead) (rest : List ℕ) → ReadsRequest bytes h rest → MAX_HEAD < length (print_request h) → IsBadHead bytes
  endless : HasNoRequest bytes → MAX_HEAD < length bytes → IsBadHead bytes
