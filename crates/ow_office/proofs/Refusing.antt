-- A deployment that is refused changes nothing, and the refusal of a failed store is no refusal of its drafts.
use Rattle.std.proofs.Common.{◌≡◌, ◌+◌, ℕ, Bool, true, false, not, nat_eq, List, [], ◌∷◌, Option, Some, None, Result, Ok, Err, ap, flat_map, refl, sym, ◌∙◌}
use Rattle.ow_names.specs.declared.refusal.NameRefusal.{NameRefusal}
use Rattle.ow_names.specs.declared.refusal.NameRefusal.TheVariants as names
use Rattle.ow_names.specs.Refusal as name_refusals
use Rattle.ow_entity.specs.Chain.{and_then}
use Rattle.ow_entity.specs.Finish.{finished_row}
use Rattle.ow_entity.specs.Row.{draft_name}
use Rattle.ow_entity.specs.declared.refusal.EntityRefusal.{EntityRefusal}
use Rattle.ow_entity.specs.declared.refusal.EntityRefusal.TheVariants as entities
use Rattle.ow_entity.specs.declared.rows.Draft.{Draft}
use Rattle.ow_entity.specs.declared.rows.Row.{Row}
use Rattle.ow_tables.specs.Refusal.{old_row, put_refusal, table_refusal}
use Rattle.ow_tables.specs.declared.refusal.TableRefusal.{TableRefusal}
use Rattle.ow_tables.specs.declared.refusal.TableRefusal.TheVariants as tables
use Rattle.ow_http.specs.Number.{number_of}
use Rattle.ow_http.specs.declared.reason.Reason.{Reason}
use Rattle.ow_http.specs.declared.reason.Reason.TheVariants.{Call}
use Rattle.ow_http.specs.declared.call_refusal.CallRefusal.TheVariants as calls
use Rattle.ow_tenant.specs.Table.{Table}
use Rattle.ow_tenant.specs.Tenants.{is_listed}
use Rattle.ow_reads.specs.Reasons.{not_granted}
use Rattle.ow_reads.specs.Steps.{unless}
use Rattle.ow_commits.specs.Commits.{row_changes}
use Rattle.ow_decide.specs.Asking.{or_table_reason, unless_refused}
use Rattle.ow_decide.specs.Reasons.{book_full, store_full, table_reason}
use Rattle.ow_decide.specs.Decision.{commits}
use Rattle.ow_decide.specs.Deploying.{Progress, Refusal, all_put, at_place, begun, deploy_decision, deployed, drafted_row, put_drafts, put_over, stored}
use Rattle.ow_decide.specs.Sight.{Sight, room_for, store_room}
use Rattle.ow_decide.specs.declared.events.Told.TheVariants as told
use Rattle.ow_decide.specs.declared.replies.Deployed.TheVariants as deployments

-- ---- the number 31

-- the number isn't that of a failed store
abbrev IsOther : Reason → Type 0
IsOther reason = nat_eq (number_of reason) 31 ≡ false

other_apart : (reason : Reason) → IsOther reason → number_of reason ≡ 31 → ⊥
other_apart reason other is = let apart : true ≡ false = sym (ap (λ n. nat_eq n 31) is) ∙ other in cc

abbrev AreOthers : {X : Type 0} → Result X Reason → Type 0
AreOthers (Ok x) = Unit {0}
AreOthers (Err reason) = IsOther reason

abbrev AreOthersAt : {X : Type 0} → Result X Refusal → Type 0
AreOthersAt (Ok x) = Unit {0}
AreOthersAt (Err refusal) = IsOther refusal.1

others_then : {A B : Type 0} (r : Result A Reason) (f : A → Result B Reason) → AreOthers r → ((x : A) → AreOthers (f x)) → AreOthers (and_then r f)
others_then (Ok x) f first more = more x
others_then (Err reason) f first more = first

others_at : {X : Type 0} (place : ℕ) (r : Result X Reason) → AreOthers r → AreOthersAt (at_place place r)
others_at place (Ok x) others = tt
others_at place (Err reason) others = others

others_at_then : {A B : Type 0} (r : Result A Refusal) (f : A → Result B Refusal) → AreOthersAt r → ((x : A) → AreOthersAt (f x)) → AreOthersAt (and_then r f)
others_at_then (Ok x) f first more = more x
others_at_then (Err refusal) f first more = first

others_unless : (b : Bool) (reason : Reason) → IsOther reason → AreOthers (unless b reason)
others_unless true reason other = other
others_unless false reason other = tt

name_other : (e : NameRefusal) → nat_eq (name_refusals.refusal_number e) 31 ≡ false
name_other names.NoMemory = refl
name_other names.Empty = refl
name_other names.TooLong = refl
name_other (names.BadChar place) = refl
name_other names.EndsInSpace = refl
name_other names.BadPath = refl

entity_other : (e : EntityRefusal) → IsOther (Call (calls.BadEntity e))
entity_other entities.NoMemory = refl
entity_other (entities.MissingField name) = refl
entity_other (entities.WrongType name) = refl
entity_other (entities.OutOfRange name) = refl
entity_other entities.UnknownKind = refl
entity_other entities.TooLarge = refl
entity_other (entities.BadName e) = name_other e
entity_other entities.LastVersion = refl

table_other : (e : TableRefusal) → IsOther (table_reason e)
table_other tables.NotFound = refl
table_other tables.BindsABinding = refl
table_other tables.Exists = refl
table_other tables.SequenceTooLong = refl
table_other tables.SequenceLoops = refl
table_other tables.NotEmpty = refl
table_other (tables.Entity e) = entity_other e
table_other tables.NoMemory = refl

others_refused : (o : Option TableRefusal) → AreOthers (unless_refused o)
others_refused None = tt
others_refused (Some e) = table_other e

others_row : (r : Result Row EntityRefusal) → AreOthers (or_table_reason r)
others_row (Ok row) = tt
others_row (Err e) = table_other (table_refusal e)

others_drafted : (t : Table) (rs : List Row) (d : Draft) → AreOthers (drafted_row t rs d)
others_drafted t rs d =
    others_then (unless (not (is_listed (draft_name d).namespace t)) not_granted) (λ listed. and_then (unless_refused (put_refusal d true rs)) (λ free. or_table_reason (finished_row d (old_row d rs))))
    (others_unless _ not_granted refl)
    (λ listed. others_then (unless_refused (put_refusal d true rs)) (λ free. or_table_reason (finished_row d (old_row d rs))) (others_refused (put_refusal d true rs)) (λ free. others_row (finished_row d (old_row d rs))))

others_put : (t : Table) (place : ℕ) (ds : List Draft) (p : Progress) → AreOthersAt (put_drafts t place ds p)
others_put t place [] p = tt
others_put t place (d ∷ ds) p =
    others_at_then (at_place place (drafted_row t p.rows d)) (λ row. put_drafts t (place + 1) ds (put_over (old_row d p.rows) row p))
    (others_at place (drafted_row t p.rows d) (others_drafted t p.rows d)) (λ row. others_put t (place + 1) ds (put_over (old_row d p.rows) row p))

others_stored : (S : Sight) (p : Progress) → AreOthersAt (stored S p)
others_stored S p =
    let changes = flat_map row_changes p.changes in
    others_at_then (at_place 0 (store_room S changes)) (λ room. Ok p) (others_at 0 (store_room S changes) (others_unless _ store_full refl)) (λ room. tt)

others_deployed : (S : Sight) (ds : List Draft) → AreOthersAt (deployed S ds)
others_deployed S ds =
    others_at_then (at_place 0 (room_for S 0)) (λ room. all_put S ds) (others_at 0 (room_for S 0) (others_unless _ book_full refl))
    (λ room. others_at_then (put_drafts S.tenants 1 ds (begun S.rows)) (stored S) (others_put S.tenants 1 ds (begun S.rows)) (others_stored S))

-- ---- a refused deployment

-- it commits nothing
refused_commits : (r : Result Progress Refusal) (place : ℕ) (reason : Reason) → (deploy_decision r).told ≡ told.Deployed (deployments.Refused place reason) → commits (deploy_decision r) ≡ []
refused_commits (Ok p) place reason is = absurd (cc)
refused_commits (Err refusal) place reason is = refl

pub none_committed : (S : Sight) (ds : List Draft) (place : ℕ) (reason : Reason) → (deploy_decision (deployed S ds)).told ≡ told.Deployed (deployments.Refused place reason) → commits (deploy_decision (deployed S ds)) ≡ []
none_committed S ds place reason is = refused_commits (deployed S ds) place reason is

refused_other : (r : Result Progress Refusal) (place : ℕ) (reason : Reason) → AreOthersAt r → (deploy_decision r).told ≡ told.Deployed (deployments.Refused place reason) → number_of reason ≡ 31 → ⊥
refused_other (Ok p) place reason others is number = absurd (cc)
refused_other (Err refusal) place reason others is number = let same : refusal.1 ≡ reason = cc in other_apart refusal.1 others (rw same number)

-- its number isn't 31
pub other_refused : (S : Sight) (ds : List Draft) (place : ℕ) (reason : Reason) → (deploy_decision (deployed S ds)).told ≡ told.Deployed (deployments.Refused place reason) → number_of reason ≡ 31 → ⊥
other_refused S ds place reason is number = refused_other (deployed S ds) place reason (others_deployed S ds) is number
