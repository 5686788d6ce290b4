-- For private clauses: what is answered, unless memory ran out.
use Rattle.std.specs.Prelude.{◌≡◌, ◌≢◌, Result, Ok, Err}
use Rattle.ow_http.specs.declared.http_refusal.HttpRefusal.{HttpRefusal}
use Rattle.ow_http.specs.declared.http_refusal.HttpRefusal.TheVariants.{NoMemory}
use Rattle.ow_http.specs.declared.request.Request.{Request}
use Rattle.ow_http.specs.declared.request.Read.{Read}
use Rattle.ow_http.specs.Parts.{Parts}
use Rattle.ow_http.specs.Request.{parts_of}

abbrev pub Gives : Result Parts HttpRefusal → Result Request HttpRefusal → Type 0
Gives expected (Ok r) = expected ≡ Ok (parts_of r)
Gives expected (Err e) = e ≢ NoMemory → expected ≡ Err e

-- the same of a request with how many bytes it took
abbrev pub GivesRead : Result Parts HttpRefusal → Result Read HttpRefusal → Type 0
GivesRead expected (Ok r) = expected ≡ Ok (parts_of r.request)
GivesRead expected (Err e) = e ≢ NoMemory → expected ≡ Err e
