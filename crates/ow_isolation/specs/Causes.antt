-- Whose the children of compositions are: each is charged to the namespace of what called it, and is shown to the same keys.
use Rattle.std.specs.Prelude.{◌≡◌, List, ℕ, IfSome, Option}
use Rattle.std.specs.List.{AllByRecursion}
use Rattle.ow_floor.specs.Laws.{IsAmong}
use Rattle.ow_floor.specs.Trace.{Trace, accepted, records}
use Rattle.ow_records.specs.declared.activations.Activation.{Activation}
use Rattle.ow_records.specs.declared.ids.Id.{Id}
use Rattle.ow_records.specs.declared.record.Record.{Record}
use Rattle.ow_reads.specs.View.{is_visible_record, may_read}
use Rattle.ow_tenant.specs.declared.entries.Holder.{Holder}

-- an activation of this id was accepted before, which has this namespace and this subject
pub record IsCauseOf (id : Id) (namespace subject : List ℕ) (xs : List Activation) : Type 0 where
  pub cause : Activation
  pub among : IsAmong cause xs
  pub is : cause.id ≡ id
  pub home : namespace ≡ cause.namespace
  pub name : subject ≡ cause.subject

-- so has the cause, if there is one
abbrev pub HasCause : Option Id → List ℕ → List ℕ → List Activation → Type 0
HasCause cause namespace subject xs = IfSome cause (λ id. IsCauseOf id namespace subject xs)

-- each activation that another one called is charged to the namespace of that, and made in the name of its subject
abbrev pub ActivationsHaveCauses : List Activation → Type 0
ActivationsHaveCauses xs = AllByRecursion (λ a. HasCause a.cause a.namespace a.subject xs) xs

-- and so is each record of one
abbrev pub RecordsHaveCauses : List Activation → List Record → Type 0
RecordsHaveCauses xs rs = AllByRecursion (λ r. HasCause r.cause r.namespace r.subject xs) rs

-- both, after what happened
pub record AreOfCauses (T : Trace) : Type 0 where
  pub activations : ActivationsHaveCauses (accepted T)
  pub records : RecordsHaveCauses (accepted T) (records T)

-- the holder sees the record exactly where it may read in the namespace of its cause
abbrev pub IsSeenAsCause : Holder → Record → List Activation → Type 0
IsSeenAsCause h r xs = IfSome r.cause (λ id. (cause : Activation) × (IsAmong cause xs × ((cause.id ≡ id) × (is_visible_record h.rights r ≡ may_read h.rights cause.namespace))))

abbrev pub RecordsAreSeenAsCauses : Trace → Type 0
RecordsAreSeenAsCauses T = (h : Holder) → AllByRecursion (λ r. IsSeenAsCause h r (accepted T)) (records T)
