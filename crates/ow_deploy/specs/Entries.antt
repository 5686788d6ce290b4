-- What a manifest lists, in the order in which it is to be put.
use Rattle.std.specs.Prelude.{ℕ, List, [], ◌∷◌, ◌++◌, Bool, true, false, not, codes, filter, is_some, option_and_then, unwrap_or}
use Rattle.ow_entity.specs.declared.kinds.EntityKind.{EntityKind}
use Rattle.ow_entity.specs.declared.kinds.EntityKind.TheVariants as kinds
use Rattle.toml.specs.Data.{Data, Members, no_members, member, as_table, get, get_member}

-- an entity as the manifest lists it
pub record Listing : Type 0 where
  pub kind : EntityKind
  pub path : List ℕ
  pub body : Data

abbrev pub listing : EntityKind → List ℕ → Data → Listing
listing kind path body = record { kind = kind; path = path; body = body }

-- one of the kind for each member, by the bytes of the path
abbrev pub listings : EntityKind → Members → List Listing
listings kind no_members = []
listings kind (member path body ms) = listing kind path body ∷ listings kind ms

-- the members of the table of this name, if there is one
abbrev pub members_at : List ℕ → Members → Members
members_at name top = unwrap_or (option_and_then as_table (get_member name top)) no_members

-- the body of a package that binds another, whatever it says of that
abbrev pub binds : Data → Bool
binds body = is_some (get (codes "binding") body)

-- it binds one, where that is the question, or binds none
abbrev pub binds_as : Bool → Data → Bool
binds_as true body = binds body
binds_as false body = not (binds body)

abbrev pub chosen : Bool → List Listing → List Listing
chosen bound es = filter (λ e. binds_as bound e.body) es

-- the packages that bind another, or the packages that bind none
abbrev pub packages : Bool → Members → List Listing
packages bound ms = chosen bound (listings kinds.Package ms)

-- a package is put before its actions, and before the packages that bind it
abbrev pub listed : Members → List Listing
listed top =
    packages false (members_at (codes "packages") top)
    ++ packages true (members_at (codes "packages") top)
    ++ listings kinds.Action (members_at (codes "actions") top)
    ++ listings kinds.Trigger (members_at (codes "triggers") top)
    ++ listings kinds.Rule (members_at (codes "rules") top)
