-- A read is answered of what its key may see, and leaves all as it was.
use Rattle.std.proofs.Common.{◌≡◌, ◌++◌, ◌∙◌, ℕ, List, [], ◌∷◌, Bool, true, false, if◌then◌else◌, Option, Some, None, Result, Ok, Err, option_map, refl, sym, ap, subst}
use Rattle.ow_floor.specs.Trace.{Trace, shown_records}
use Rattle.ow_value.specs.Value.{V}
use Rattle.ow_http.specs.Pair.{Pair}
use Rattle.ow_http.specs.Parts.{Parts}
use Rattle.ow_http.specs.Refused.{refusal_of}
use Rattle.ow_http.specs.Request.{parts_of}
use Rattle.ow_http.specs.Steps.{◌>>=◌}
use Rattle.ow_http.specs.declared.reason.Reason.{Reason}
use Rattle.ow_http.specs.declared.request.Request.{Request}
use Rattle.ow_http.specs.declared.route.Route.{Route}
use Rattle.ow_http.specs.declared.route.Route.TheVariants as route
use Rattle.ow_http.specs.declared.verb.Verb.{Verb}
use Rattle.ow_reads.specs.Acts.{act_of}
use Rattle.ow_reads.specs.Reading.{read_answer, read_done}
use Rattle.ow_reads.specs.Reasons.{no_route}
use Rattle.ow_reads.specs.Steps.{or_else, unless}
use Rattle.ow_reads.specs.Tenants.{asker}
use Rattle.ow_reads.specs.View.{View, view_over}
use Rattle.ow_reads.specs.declared.acts.Act.{Act}
use Rattle.ow_reads.specs.declared.acts.Act.TheVariants.{Reads}
use Rattle.ow_reads.specs.declared.acts.Reading.{Reading}
use Rattle.ow_tables.specs.Contents.{Change}
use Rattle.ow_tenant.specs.Table.{Table}
use Rattle.ow_tenant.specs.Tenants.{holder_of}
use Rattle.ow_tenant.specs.declared.entries.Holder.{Holder}
use Rattle.ow_decide.specs.Asking.{Done, IsOfView, ReadsChangeNothing, act_done, ask_decision, at_once, request_done, shown_done}
use Rattle.ow_decide.specs.Decision.{Decision, OtherChange, Same, all_changed, others_after}
use Rattle.ow_decide.specs.Decisions.{decide}
use Rattle.ow_decide.specs.Reasons.{book_full}
use Rattle.ow_decide.specs.Sight.{Sight, is_full, room_for, view_of}
use Rattle.ow_decide.specs.declared.events.Event.{Event}
use Rattle.ow_decide.specs.declared.events.Event.TheVariants as events
use Rattle.ow_decide.specs.declared.events.Told.TheVariants as told
use Rattle.ow_decide.specs.declared.waits.Waits.{Waits}
use Rattle.ow_decide.specs.declared.waits.Waits.TheVariants.{Keep}
use Rattle.ow_decide.proofs.ArchiveLaws.{asked_same}
use Rattle.ow_hall.specs.History.{History, Seen, after, counted, seen, sight, waits_after}
use Rattle.ow_isolation.specs.Reads.{AnswersOfView, LeavesAll, LeavesViews, finds_full, read_told}

-- ---- the answer

abbrev parts_with : Route → Verb → Option (List ℕ) → List Pair → List ℕ → List Pair → List ℕ → ℕ → Bool → Parts
parts_with r method key query raw headers body size close =
    record { route = r; method = method; key = key; query = query; raw_query = raw; headers = headers; body = body; size = size; close = close }

abbrev steps_of : Sight → Parts → Result Done Reason
steps_of S p = or_else (act_of p.route p.method) no_route >>= (λ (a : Act). room_for S p.size >>= (λ (u : Unit {0}). asker S.tenants p.key >>= (λ (k : Holder). act_done S k a p)))

-- a request that has an act is looked at in this order: the route, the room, the key, and then the act
pub in_order : (S : Sight) (r : Route) (method : Verb) (key : Option (List ℕ)) (query : List Pair) (raw : List ℕ) (headers : List Pair) (body : List ℕ) (size : ℕ) (close : Bool) (act : Act)
    → act_of r method ≡ Some act → request_done S (parts_with r method key query raw headers body size close) ≡ steps_of S (parts_with r method key query raw headers body size close)
in_order S (route.Web namespace inside name rest) method key query raw headers body size close act is = cc
in_order S r method key query raw headers body size close act is = refl

-- where the log is full that is the answer
full_so : (S : Sight) (reading : Reading) (p : Parts) → act_of p.route p.method ≡ Some (Reads reading) → is_full S.counted p.size ≡ true
    → (ask_decision (request_done S p)).told ≡ told.Full (refusal_of book_full)
full_so S reading p act full =
    ap (λ (d : Result Done Reason). (ask_decision d).told) (in_order S p.route p.method p.key p.query p.raw_query p.headers p.body p.size p.close (Reads reading) act)
    ∙ (ap (λ (o : Option Act). (ask_decision (or_else o no_route >>= (λ (a : Act). room_for S p.size >>= (λ (u : Unit {0}). asker S.tenants p.key >>= (λ (k : Holder). act_done S k a p))))).told) act
    ∙ ap (λ (b : Bool). (ask_decision (unless b book_full >>= (λ (u : Unit {0}). asker S.tenants p.key >>= (λ (k : Holder). act_done S k (Reads reading) p)))).told) full)

told_by : (viewed : (S : Sight) → IsOfView S) (S : Sight) (h : Holder) (reading : Reading) (p : Parts) (full : Bool) → act_of p.route p.method ≡ Some (Reads reading) → holder_of p.key S.tenants ≡ Some h → is_full S.counted p.size ≡ full
    → (ask_decision (request_done S p)).told ≡ (if full then told.Full (refusal_of book_full) else at_once (read_answer (view_of S h) reading p))
told_by viewed S h reading p true act held full = full_so S reading p act full
told_by viewed S h reading p false act held full = viewed S h reading p act full held

-- what is made of something that is there
pub held_by : {X Y : Type 0} (f : X → Y) (o : Option X) (y : Y) → option_map f o ≡ Some y → (x : X) × (o ≡ Some x) × (f x ≡ y)
held_by f None y is = let none : None ≡ Some y = is in cc
held_by f (Some x) y is = let same : Some (f x) ≡ Some y = is in (x, refl, cc)

pub answers_of_view : (viewed : (S : Sight) → IsOfView S) (t : Table) (B : History) → AnswersOfView t B
answers_of_view viewed t B at r reading W reads sees =
    let held = held_by (view_over (seen t B).rows (shown_records (seen t B).trace)) (holder_of r.key t) W sees in
    told_by viewed (sight t (seen t B) (counted B) at) held.0 reading (parts_of r) (finds_full B r) reads held.1 refl
    ∙ ap (λ (V : View). read_told (finds_full B r) V reading r) held.2

-- ---- what is left

-- nobody begins to wait
abbrev KeepWaits : Result Done Reason → Type 0
KeepWaits d = (ask_decision d).waits ≡ Keep

keeps_then : {A : Type 0} (r : Result A Reason) (f : A → Result Done Reason) → ((x : A) → KeepWaits (f x)) → KeepWaits (r >>= f)
keeps_then (Ok x) f keeps = keeps x
keeps_then (Err reason) f keeps = refl

shown_keeps : (r : Result V Reason) → KeepWaits (shown_done r)
shown_keeps (Ok value) = refl
shown_keeps (Err reason) = refl

read_keeps : (S : Sight) (reading : Reading) (p : Parts) → act_of p.route p.method ≡ Some (Reads reading) → KeepWaits (request_done S p)
read_keeps S reading p act =
    subst KeepWaits (sym (in_order S p.route p.method p.key p.query p.raw_query p.headers p.body p.size p.close (Reads reading) act))
    (subst (λ (o : Option Act). KeepWaits (or_else o no_route >>= (λ (a : Act). room_for S p.size >>= (λ (u : Unit {0}). asker S.tenants p.key >>= (λ (k : Holder). act_done S k a p))))) (sym act)
    (keeps_then (room_for S p.size) (λ (u : Unit {0}). asker S.tenants p.key >>= (λ (k : Holder). act_done S k (Reads reading) p)) (λ u.
    keeps_then (asker S.tenants p.key) (λ (k : Holder). act_done S k (Reads reading) p) (λ k. shown_keeps (read_done (view_of S k) reading p)))))

abbrev made : List Change → Trace → Waits → OtherChange → Seen → Seen
made cs items ws change s = record { rows = all_changed cs s.rows; trace = items ++ s.trace; waits = waits_after ws s.waits; others = others_after change s.others }

-- a decision of no change and no item leaves all
after_nothing : (d : Decision) (s : Seen) → d.items ≡ [] → d.changes ≡ [] → d.waits ≡ Keep → d.others ≡ Same → after d s ≡ s
after_nothing d s items changes waits same =
    ap (λ (cs : List Change). made cs d.items d.waits d.others s) changes
    ∙ (ap (λ (is : Trace). made [] is d.waits d.others s) items
    ∙ (ap (λ (ws : Waits). made [] [] ws d.others s) waits ∙ ap (λ (change : OtherChange). made [] [] Keep change s) same))

read_leaves : ReadsChangeNothing → (S : Sight) (r : Request) (reading : Reading) (s : Seen) → act_of r.route r.method ≡ Some (Reads reading) → after (decide S (events.Asked r)) s ≡ s
read_leaves quiet S r reading s reads =
    let leaves = quiet S reading (parts_of r) reads in
    after_nothing (decide S (events.Asked r)) s leaves.0 leaves.1 (read_keeps S reading (parts_of r) reads) (asked_same (request_done S (parts_of r)))

pub leaves_all : ReadsChangeNothing → (t : Table) (B : History) → LeavesAll t B
leaves_all quiet t B e r reading read =
    ap (λ (v : Event). after (decide (sight t (seen t B) (counted B) e.at) v) (seen t B)) read.0
    ∙ read_leaves quiet (sight t (seen t B) (counted B) e.at) r reading (seen t B) read.1

-- what a key may see is made of what is seen
pub views_by : (t u : Table) (s v : Seen) (key : Option (List ℕ)) → t ≡ u → s ≡ v
    → option_map (view_over s.rows (shown_records s.trace)) (holder_of key t) ≡ option_map (view_over v.rows (shown_records v.trace)) (holder_of key u)
views_by t u s v key tables seen =
    ap (λ (x : Table). option_map (view_over s.rows (shown_records s.trace)) (holder_of key x)) tables
    ∙ ap (λ (x : Seen). option_map (view_over x.rows (shown_records x.trace)) (holder_of key u)) seen

pub leaves_views : ReadsChangeNothing → (t : Table) (B : History) → LeavesViews t B
leaves_views quiet t B e r reading key read = views_by t t (seen t (e ∷ B)) (seen t B) key refl (leaves_all quiet t B e r reading read)
