-- What a key doesn't see leaves its view.
use Rattle.std.proofs.Common.{◌≡◌, ◌++◌, ◌∙◌, List, [], ◌∷◌, false, Option, Some, filter, option_map, refl, sym, ap}
use Rattle.std.proofs.lemmas.List.{append-nil}
use Rattle.std.proofs.lemmas.List.Elements.{filter-append}
use Rattle.std.specs.List.{AllByRecursion}
use Rattle.ow_entity.specs.declared.rows.Row.{Row}
use Rattle.ow_records.specs.Records.{id_key, sorted_by}
use Rattle.ow_records.specs.declared.record.Record.{Record}
use Rattle.ow_floor.specs.Trace.{records, shown_records}
use Rattle.ow_reads.specs.View.{View, is_visible_record, view_over, visible_rows}
use Rattle.ow_tenant.specs.Table.{Table}
use Rattle.ow_tenant.specs.Tenants.{holder_of}
use Rattle.ow_tenant.specs.declared.entries.Holder.{Holder}
use Rattle.ow_decide.specs.Decision.{Decision, all_changed}
use Rattle.ow_decide.specs.Sight.{Sight}
use Rattle.ow_hall.specs.History.{History, counted, decision, seen, sight}
use Rattle.ow_isolation.specs.Unseen.{IsUnseen, UnseenLeaves}
use Rattle.ow_isolation.proofs.Archived.{Grows, decided_grows, left_seen}
use Rattle.ow_isolation.proofs.HiddenRows.{all_stay}

none_seen : (h : Holder) (rs : List Record) → AllByRecursion (λ r. is_visible_record h.rights r ≡ false) rs → filter (is_visible_record h.rights) rs ≡ []
none_seen h [] hidden = refl
none_seen h (r ∷ rs) hidden = rw hidden.0 (none_seen h rs hidden.1)

seen_more : (h : Holder) (rs more : List Record) → AllByRecursion (λ r. is_visible_record h.rights r ≡ false) more
    → filter (is_visible_record h.rights) (rs ++ more) ≡ filter (is_visible_record h.rights) rs
seen_more h rs more hidden =
    filter-append (is_visible_record h.rights) rs more
    ∙ (ap (λ (xs : List Record). filter (is_visible_record h.rights) rs ++ xs) (none_seen h more hidden) ∙ append-nil (filter (is_visible_record h.rights) rs))

abbrev with_seen : List Row → List Record → Holder → View
with_seen shown ended h = record { home = h.home; subject = h.subject; rights = h.rights; rows = shown; records = sorted_by id_key ended }

view_stays : (S : Sight) (h : Holder) (d : Decision) → Grows S d → IsUnseen h S.rows d
    → view_over (all_changed d.changes S.rows) (shown_records (d.items ++ S.trace)) h ≡ view_over S.rows (shown_records S.trace) h
view_stays S h d grows unseen =
    let sees = is_visible_record h.rights in
    let all = shown_records S.trace ++ records d.items in
    ap (λ (shown : List Row). with_seen shown (filter sees (shown_records (d.items ++ S.trace))) h) (all_stay h d.changes S.rows unseen.changes)
    ∙ ap (λ (xs : List Record). with_seen (visible_rows h.rights S.rows) xs h)
    (ap (λ (xs : List Record). filter sees xs) grows.shown ∙ (left_seen sees all d.others grows.due unseen.archived ∙ seen_more h (shown_records S.trace) (records d.items) unseen.records))

map_so : {X Y : Type 0} (f g : X → Y) (o : Option X) (x : X) → o ≡ Some x → f x ≡ g x → option_map f o ≡ option_map g o
map_so f g o x is same = ap (option_map f) is ∙ (ap (λ y. Some y) same ∙ sym (ap (option_map g) is))

pub unseen_leaves : (t : Table) (B : History) → UnseenLeaves t B
unseen_leaves t B e key h held later unseen =
    let d = decision t B e.at e.event in
    let s = seen t B in
    let S = sight t s (counted B) e.at in
    map_so (view_over (all_changed d.changes s.rows) (shown_records (d.items ++ s.trace))) (view_over s.rows (shown_records s.trace)) (holder_of key t) h held
    (view_stays S h d (decided_grows S e.event later) unseen)
