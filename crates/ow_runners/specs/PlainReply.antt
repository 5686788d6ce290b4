-- The plain reply: what code of cases answers to parameters.
use Rattle.std.specs.Prelude.{◌==◌, ◌&&◌, ℕ, List, [], ◌∷◌, Bool, true, length, codes, if◌then◌else◌, Option, Some, None}
use Rattle.std.specs.Option.{unwrap_or}
use Rattle.ow_value.specs.Value.{V, Pairs, null, boolean, whole, text, list, object, Items, no_items, item, Members, no_members, member, members_of}
use Rattle.ow_value.specs.Field.{pairs_in}
use Rattle.ow_value.specs.Find.{find}
use Rattle.ow_value.specs.Text.{compact}
use Rattle.ow_entity.specs.PlainCode.{Case, plain_cases}
use Rattle.ow_runners.specs.Equality.{is_value}

-- ---- filling

-- the value that replaces an object whose only name is `$`, with a text, or `$all`. For `$` it is the parameter that the text names, or
-- null where there is none; for `$all` it is the object of all parameters
abbrev pub meant : Pairs → Option V → Option V → Option V
meant params (Some (text name)) all = Some (unwrap_or (find name params) null)
meant params named (Some v) = Some (object (members_of params))
meant params named None = None

-- the value that replaces an object where it is a hole; most objects are none, and nothing replaces them
abbrev pub hole : Pairs → Pairs → Option V
hole params members = if length members == 1 then meant params (find (codes "$") members) (find (codes "$all") members) else None

-- the template with its holes filled, in lists and objects too, but not in what was put in
abbrev mutual
  pub filled : Pairs → V → V
  filled params null = null
  filled params (boolean b) = boolean b
  filled params (whole z) = whole z
  filled params (text s) = text s
  filled params (list vs) = list (filled_items params vs)
  filled params (object ms) = unwrap_or (hole params (pairs_in ms)) (object (filled_members params ms))

  pub filled_items : Pairs → Items → Items
  filled_items params no_items = no_items
  filled_items params (item v vs) = item (filled params v) (filled_items params vs)

  pub filled_members : Pairs → Members → Members
  filled_members params no_members = no_members
  filled_members params (member k v ms) = member k (filled params v) (filled_members params ms)

-- ---- choosing

-- whether the parameters have each of these pairs
abbrev pub fits : Pairs → Pairs → Bool
fits params [] = true
fits params (p ∷ when) = is_value p.1 (find p.0 params) && fits params when

-- where no case fits
abbrev pub no_case : V
no_case = object (members_of ((codes "error", text (codes "No case fits.")) ∷ []))

-- what the first case that fits gives
abbrev pub given : List Case → Pairs → V
given [] params = no_case
given (c ∷ cs) params = if fits params c.when then filled params c.give else given cs params

-- the cases of a code; one that has not the form of plain code has none
abbrev pub code_cases : List ℕ → List Case
code_cases code = unwrap_or (plain_cases code) []

-- the text that is answered
unfoldable pub plain_reply : List ℕ → Pairs → List ℕ
plain_reply code params = compact (given (code_cases code) params)
