-- The bytes of a reply.
use Rattle.std.specs.Prelude.{ℕ, List, [], ◌∷◌, ◌++◌, Bool, ◌||◌, ◌&&◌, ◌==◌, nat_le, nat_lt, if◌then◌else◌, codes, decimal, unwrap_or, length}
use Rattle.std.specs.List.{flat_map}
use Rattle.http.specs.StatusCode.{reason_phrase}
use Rattle.ow_http.specs.declared.answer.Answer.{Answer}
use Rattle.ow_http.specs.Headers.{is_named, last_named}
use Rattle.ow_http.specs.Pair.{Pair}

-- CR LF
abbrev pub line_end : List ℕ
line_end = 13 ∷ 10 ∷ []

-- the phrase of the HTTP registry, where a number of three digits has one
unfoldable pub phrase_of : ℕ → List ℕ
phrase_of status = if nat_le 100 status && nat_lt status 1000 then unwrap_or (reason_phrase status) [] else []

-- the status line
unfoldable pub status_line : ℕ → List ℕ
status_line status = codes "HTTP/1.1 " ++ decimal status ++ codes " " ++ phrase_of status ++ line_end

unfoldable pub header_line : Pair → List ℕ
header_line h = h.0 ++ codes ": " ++ h.1 ++ line_end

-- the type is written separately, before the length
unfoldable pub own_line : Pair → List ℕ
own_line h = if is_named (codes "content-type") h then [] else header_line h

abbrev pub own_lines : List Pair → List ℕ
own_lines headers = flat_map own_line headers

-- the type that the last such header gives, or else JSON
abbrev pub type_of : List Pair → List ℕ
type_of headers = unwrap_or (last_named (codes "content-type") headers) (codes "application/json")

-- the length, and the empty line
unfoldable pub length_line : ℕ → List ℕ
length_line n = codes "Content-Length: " ++ decimal n ++ 13 ∷ 10 ∷ 13 ∷ 10 ∷ []

-- a status whose reply has no body
abbrev pub is_bare : ℕ → Bool
is_bare status = status == 204 || status == 304

-- what follows the answer's own headers
unfoldable pub body_part : Answer → List ℕ
body_part a = if is_bare a.status then line_end
    else header_line (codes "Content-Type", type_of a.headers) ++ length_line (length a.body) ++ a.body

unfoldable pub reply_bytes : Answer → List ℕ
reply_bytes a = status_line a.status ++ own_lines a.headers ++ body_part a
