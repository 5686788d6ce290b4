-- What the components of a sequence lead to, through bindings and other sequences.
use Rattle.std.specs.Prelude.{ℕ, zero, suc, Bool, true, false, List, [], ◌∷◌, ◌++◌, length, drop, is_some, nat_lt, if◌then◌else◌, Option, Some, None, Result, Ok}
use Rattle.std.specs.Str.{bytes_eq}
use Rattle.ow_names.specs.FullName.{full_text}
use Rattle.ow_names.specs.declared.full.FullName.{FullName}
use Rattle.ow_entity.specs.Chain.{first_some}
use Rattle.ow_entity.specs.declared.actions.Action.{Action}
use Rattle.ow_entity.specs.Exec.{components_of}
use Rattle.ow_entity.specs.declared.kinds.EntityKind.TheVariants as kinds
use Rattle.ow_entity.specs.declared.packages.Package.{Package}
use Rattle.ow_entity.specs.declared.refusal.EntityRefusal.{EntityRefusal}
use Rattle.ow_entity.specs.declared.rows.Row.{Row}
use Rattle.ow_entity.specs.declared.rows.Row.TheVariants as rows
use Rattle.ow_packages.specs.Access.{Standing, action_at, package_at, package_of, lying_in}
use Rattle.ow_tables.specs.declared.refusal.TableRefusal.{TableRefusal}
use Rattle.ow_tables.specs.declared.refusal.TableRefusal.TheVariants.{SequenceTooLong, SequenceLoops}
use Rattle.ow_tables.specs.declared.sequences.TheConstants.{MOST_COMPONENTS}
use Rattle.ow_tables.specs.Rows.{found, standing, with_row}

-- ---- what a component names

-- the name in the package that is bound, if one is
abbrev pub through : FullName → Option FullName → FullName
through name None = name
through name (Some target) = lying_in target name.name

abbrev pub through_package : FullName → Option Package → FullName
through_package name None = name
through_package name (Some p) = through name p.binding

abbrev pub through_name : Standing → FullName → Option FullName → FullName
through_name standing name None = name
through_name standing name (Some bundle) = through_package name (package_at standing bundle)

-- the name of the action that a name means, through one binding where its package is one, whether or not a caller can reach it
abbrev pub named_action : Standing → FullName → FullName
named_action standing name = through_name standing name (package_of name)

abbrev pub is_named : FullName → FullName → Bool
is_named name goal = bytes_eq (full_text name) (full_text goal)

-- ---- what components lead to

-- the actions that were found so far: as rows in their order, and in the order in which they were found
pub record Trail : Type 0 where
  pub seen : List Row
  pub queue : List Action

abbrev pub trail_with : Option Action → Trail → Trail
trail_with None t = t
trail_with (Some a) t = record { seen = with_row (rows.Action a) t.seen; queue = t.queue ++ a ∷ [] }

-- the trail with the action of the name, where there is one and it wasn't found before
abbrev pub found_on : Standing → FullName → Trail → Trail
found_on standing name t = if is_some (found kinds.Action name t.seen) then t else trail_with (action_at standing name) t

-- the trail with the actions of these components, or none where one of them is the goal
abbrev pub looked_at : Standing → FullName → List FullName → Trail → Option Trail
looked_at standing goal [] t = Some t
looked_at standing goal (c ∷ cs) t =
    if is_named (named_action standing c) goal then None
    else looked_at standing goal cs (found_on standing (named_action standing c) t)

abbrev pub leads_or : (Trail → Bool) → Option Trail → Bool
leads_or more None = true
leads_or more (Some t) = more t

abbrev pub next_leads : Standing → FullName → (Trail → Bool) → Trail → List Action → Bool
next_leads standing goal more t [] = false
next_leads standing goal more t (a ∷ rest) = leads_or more (looked_at standing goal (components_of a.exec) t)

-- whether one of the next `n` actions on the trail, from the place `k` on, has the goal as a component
abbrev pub leads : Standing → FullName → ℕ → ℕ → Trail → Bool
leads standing goal zero k t = false
leads standing goal (suc n) k t = next_leads standing goal (leads standing goal n (suc k)) t (drop k t.queue)

abbrev pub no_trail : Trail
no_trail = record { seen = []; queue = [] }

-- whether the components of the action lead back to it, where at most `most` actions are followed
abbrev pub leads_back : Standing → ℕ → Action → Bool
leads_back standing most a = leads_or (leads standing a.name most 0) (looked_at standing a.name (components_of a.exec) no_trail)

-- ---- the refusals of a sequence that is put

abbrev pub long_refusal : Action → Option TableRefusal
long_refusal a = if nat_lt MOST_COMPONENTS (length (components_of a.exec)) then Some SequenceTooLong else None

abbrev pub loop_refusal : Standing → ℕ → Action → Option TableRefusal
loop_refusal standing most a = if leads_back standing most a then Some SequenceLoops else None

-- the action is a sequence of too many actions, or it leads back to itself
abbrev pub components_refusal : Standing → ℕ → Action → Option TableRefusal
components_refusal standing most a = first_some (long_refusal a ∷ loop_refusal standing most a ∷ [])

abbrev pub sequence_refusal : List Row → Result Row EntityRefusal → Option TableRefusal
sequence_refusal all (Ok (rows.Action a)) = components_refusal (standing all) (length all) a
sequence_refusal all made = None
