-- The verb of a method's name.
use Rattle.std.specs.Prelude.{ℕ, List, codes, if◌then◌else◌, Option, Some, None}
use Rattle.std.specs.Str.{bytes_eq}
use Rattle.ow_http.specs.declared.verb.Verb.{Verb}
use Rattle.ow_http.specs.declared.verb.Verb.TheVariants.{Get, Put, Post, Delete, Patch, Options}

unfoldable pub verb_of : List ℕ → Option Verb
verb_of method =
    if bytes_eq method (codes "GET") then Some Get
    else if bytes_eq method (codes "PUT") then Some Put
    else if bytes_eq method (codes "POST") then Some Post
    else if bytes_eq method (codes "DELETE") then Some Delete
    else if bytes_eq method (codes "PATCH") then Some Patch
    else if bytes_eq method (codes "OPTIONS") then Some Options
    else None
