-- Which containers can run an action again.
use Rattle.std.specs.Prelude.{◌==◌, ◌&&◌, ℕ, Bool, true, false, List, [], ◌∷◌, Option, Some, None, bytes_eq}
use Rattle.ow_traits.specs.declared.replies.Kind.{Kind}
use Rattle.ow_traits.specs.declared.replies.Kind.TheVariants as kinds
use Rattle.ow_names.specs.declared.full.FullName.{FullName}
use Rattle.ow_entity.specs.declared.exec.Exec.{Exec}
use Rattle.ow_entity.specs.declared.exec.Exec.TheVariants.{Plain, Program, Sequence}
use Rattle.ow_slots.specs.declared.keys.Key.{Key}

-- the runner that an action's code needs; of a sequence, which starts no container, it means nothing
abbrev pub kind_of : Exec → Kind
kind_of (Plain code) = kinds.Plain
kind_of (Program code) = kinds.Program
kind_of (Sequence components) = kinds.Plain

abbrev pub same_kind : Kind → Kind → Bool
same_kind kinds.Plain kinds.Plain = true
same_kind kinds.Program kinds.Program = true
same_kind a b = false

abbrev pub same_package : Option (List ℕ) → Option (List ℕ) → Bool
same_package None None = true
same_package (Some a) (Some b) = bytes_eq a b
same_package a b = false

abbrev pub same_name : FullName → FullName → Bool
same_name a b = bytes_eq a.namespace b.namespace && (same_package a.package b.package && bytes_eq a.name b.name)

abbrev pub same_names : List FullName → List FullName → Bool
same_names [] [] = true
same_names (a ∷ more) (b ∷ bs) = same_name a b && same_names more bs
same_names more bs = false

abbrev pub same_exec : Exec → Exec → Bool
same_exec (Plain a) (Plain b) = bytes_eq a b
same_exec (Program a) (Program b) = bytes_eq a b
same_exec (Sequence a) (Sequence b) = same_names a b
same_exec a b = false

-- equal keys: the same namespace, action, version, code and memory
abbrev pub same_key : Key → Key → Bool
same_key a b =
    bytes_eq a.namespace b.namespace
    && (same_name a.action b.action
    && ((a.version == b.version)
    && (same_exec a.exec b.exec && (a.memory == b.memory))))
