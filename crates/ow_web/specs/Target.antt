-- What the path of a web request names.
use Rattle.std.specs.Prelude.{ℕ, ◌-◌, ◌+◌, List, [], Bool, true, false, ◌==◌, length, reverse, take, drop, codes, if◌then◌else◌, Option, Some, None, option_copied}
use Rattle.std.specs.List.{position}
use Rattle.std.specs.Str.{bytes_eq}
use Rattle.ow_http.specs.declared.route.Route.{Route}
use Rattle.ow_http.specs.declared.route.Route.TheVariants as route
use Rattle.ow_web.specs.declared.target.Extension.{Extension}
use Rattle.ow_web.specs.declared.target.Extension.TheVariants.{Json, Http, Text}
use Rattle.ow_web.specs.declared.target.Target as code

-- the parts that name the action, and in which form the result is answered, unless the extension is unknown
pub record Target : Type 0 where
  pub namespace : List ℕ
  pub «package» : Option (List ℕ)
  pub name : List ℕ
  pub extension : Option Extension

abbrev pub is_dot : ℕ → Bool
is_dot b = b == 46

-- how many bytes follow the last dot, if there is a dot
abbrev pub after_dot : List ℕ → Option ℕ
after_dot segment = position is_dot (reverse segment)

-- the segment without its extension, and without the dot before it
abbrev pub without_extension : Option ℕ → List ℕ → List ℕ
without_extension None segment = segment
without_extension (Some n) segment = take (length segment - (n + 1)) segment

unfoldable pub extension_named : List ℕ → Option Extension
extension_named word =
    if bytes_eq word (codes "json") then Some Json
    else if bytes_eq word (codes "http") then Some Http
    else if bytes_eq word (codes "text") then Some Text
    else None

-- the extension; a segment without a dot has `http`
abbrev pub extension_in : Option ℕ → List ℕ → Option Extension
extension_in None segment = Some Http
extension_in (Some n) segment = extension_named (drop (length segment - n) segment)

-- the package `default` is none
unfoldable pub package_in : List ℕ → Option (List ℕ)
package_in segment = if bytes_eq segment (codes "default") then None else Some segment

abbrev pub is_web : Route → Bool
is_web (route.Web namespace inside name rest) = true
is_web other = false

-- the extension of a web route
abbrev pub extension_of : Route → Option Extension
extension_of (route.Web namespace inside name rest) = extension_in (after_dot name) name
extension_of other = None

-- what a web route names
abbrev pub target_of : Route → Target
target_of (route.Web namespace inside name rest) = record {
  namespace = namespace;
  «package» = package_in inside;
  name = without_extension (after_dot name) name;
  extension = extension_in (after_dot name) name;
}
target_of other = record { namespace = []; «package» = None; name = []; extension = None }

-- the same, of the code
abbrev pub as_target : code.Target → Target
as_target t = record {
  namespace = t.namespace.now;
  «package» = option_copied t.package;
  name = t.name.now;
  extension = t.extension;
}
