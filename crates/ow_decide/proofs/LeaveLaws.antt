-- A read changes nothing.
use Rattle.std.proofs.Common.{◌≡◌, [], Option, Some, Result, Ok, Err, refl, sym, subst}
use Rattle.ow_value.specs.Value.{V}
use Rattle.ow_http.specs.Parts.{Parts}
use Rattle.ow_http.specs.Steps.{◌>>=◌}
use Rattle.ow_http.specs.declared.reason.Reason.{Reason}
use Rattle.ow_tenant.specs.declared.entries.Holder.{Holder}
use Rattle.ow_reads.specs.declared.acts.Act.{Act}
use Rattle.ow_reads.specs.declared.acts.Act.TheVariants.{Reads}
use Rattle.ow_reads.specs.declared.acts.Reading.{Reading}
use Rattle.ow_decide.specs.Asking.{Done, ReadsChangeNothing, act_done, ask_decision, shown_done}
use Rattle.ow_reads.specs.Acts.{act_of}
use Rattle.ow_reads.specs.Reading.{read_done}
use Rattle.ow_reads.specs.Reasons.{no_route}
use Rattle.ow_decide.specs.Sight.{Sight, room_for, view_of}
use Rattle.ow_reads.specs.Steps.{or_else}
use Rattle.ow_reads.specs.Tenants.{asker}
use Rattle.ow_decide.proofs.RouteLaws.{keyed_so}

-- the outcome of a request leaves all as it was
abbrev Leaves : Result Done Reason → Type 0
Leaves r = ((ask_decision r).items ≡ []) × ((ask_decision r).changes ≡ [])

shown_leaves : (r : Result V Reason) → Leaves (shown_done r)
shown_leaves (Ok v) = (refl, refl)
shown_leaves (Err e) = (refl, refl)

then_leaves : {A : Type 0} (r : Result A Reason) (f : A → Result Done Reason) → ((x : A) → Leaves (f x)) → Leaves (r >>= f)
then_leaves (Ok x) f h = h x
then_leaves (Err e) f h = (refl, refl)

acts_leave : (S : Sight) (reading : Reading) (p : Parts) (o : Option Act) → o ≡ Some (Reads reading)
    → Leaves (or_else o no_route >>= (λ (act : Act). room_for S p.size >>= (λ room. asker S.tenants p.key >>= (λ (h : Holder). act_done S h act p))))
acts_leave S reading p o e =
    subst (λ (x : Option Act). Leaves (or_else x no_route >>= (λ (act : Act). room_for S p.size >>= (λ room. asker S.tenants p.key >>= (λ (h : Holder). act_done S h act p))))) (sym e)
    (then_leaves (room_for S p.size) _ (λ room. then_leaves (asker S.tenants p.key) _ (λ h. shown_leaves (read_done (view_of S h) reading p))))

pub reads_leave : ReadsChangeNothing
reads_leave S reading p e = subst Leaves (sym (keyed_so S p (Reads reading) e)) (acts_leave S reading p (act_of p.route p.method) e)
