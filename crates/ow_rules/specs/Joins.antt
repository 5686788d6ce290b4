-- What a rule that was put joins.
use Rattle.std.specs.Prelude.{◌≡◌, List, Bool, true, is_some, None, Ok}
use Rattle.std.specs.Str.{bytes_eq}
use Rattle.ow_entity.specs.declared.rules.Rule.{Rule}
use Rattle.ow_entity.specs.declared.rows.Draft.{Draft}
use Rattle.ow_entity.specs.declared.rows.Row.{Row}
use Rattle.ow_entity.specs.declared.rows.Row.TheVariants as rows
use Rattle.ow_entity.specs.Finish.{finished_row}
use Rattle.ow_packages.specs.Effective.{effective}
use Rattle.ow_tables.specs.Joined.{trigger_at}
use Rattle.ow_tables.specs.Refusal.{old_row, put_refusal}
use Rattle.ow_tables.specs.Rows.{standing}

-- the rule's trigger is among the rows, in the rule's namespace, and its action can be called from there
pub record IsJoined (all : List Row) (r : Rule) : Type 0 where
  pub inside : bytes_eq r.trigger.namespace r.name.namespace ≡ true
  pub trigger : is_some (trigger_at (standing all) r.trigger) ≡ true
  pub action : is_some (effective (standing all) r.action r.name.namespace) ≡ true

-- each rule that a put makes, which was not refused, is joined so
abbrev pub PutsJoin : Type 0
PutsJoin = (draft : Draft) (overwrite : Bool) (all : List Row) (r : Rule)
    → put_refusal draft overwrite all ≡ None → finished_row draft (old_row draft all) ≡ Ok (rows.Rule r) → IsJoined all r
