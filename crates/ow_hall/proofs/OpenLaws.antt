-- What an opening leaves keeps the hall.
use Rattle.std.proofs.Common.{◌≡◌, ◌∙◌, ◌≤◌, ◌+◌, ℕ, List, [], ◌∷◌, map, max, Option, None, Some, Result, Ok, Err, IfSome, IsOk, refl, sym, ap, subst, arith, inl, inr}
use Rattle.std.proofs.Math.Nat.{le-max_left, max-le, min-le_right}
use Rattle.ow_traits.specs.Telling.{Attempt, Telling, made, unmade, with_attempt}
use Rattle.ow_entity.specs.declared.rows.Row.{Row}
use Rattle.ow_traits.specs.Changes.{changed}
use Rattle.ow_traits.specs.Keeper.{Commits, Retires}
use Rattle.ow_traits.specs.declared.change_list.Change.{Change}
use Rattle.ow_traits.specs.Rows.{AreRows}
use Rattle.ow_floor.specs.Growth.{AreResumable}
use Rattle.ow_floor.specs.Laws.{Stands}
use Rattle.ow_floor.specs.View.{FloorView}
use Rattle.ow_floor.specs.Owed.{owed}
use Rattle.ow_tables.specs.Builtin.{builtin}
use Rattle.ow_tables.specs.Rows.{resumed, with_row}
use Rattle.ow_row_text.specs.declared.item.Item.{Item}
use Rattle.ow_keep.specs.Judged.{judged}
use Rattle.ow_keep.specs.Moments.{parts_moment}
use Rattle.ow_keep.specs.Split.{HoldsItems, Parts}
use Rattle.ow_keep.proofs.Whole.{judged-kept}
use Rattle.ow_keep.proofs.MomentLaws.{judged_small}
use Rattle.ow_keep.proofs.Splits.{moment_of_split}
use Rattle.ow_commits.specs.Keeping.{KeepingView, StandsForKept}
use Rattle.ow_commits.specs.Kept.{kept_whole}
use Rattle.ow_commits.specs.Opening.{opened_trace, opening_changes, others_of, resumed_records}
use Rattle.ow_commits.proofs.Opening.{openings_kept}
use Rattle.ow_commits.proofs.Resuming.{may_be_resumed, not_builtin}
use Rattle.ow_counts.specs.View.{CountsView, StandsFor}
use Rattle.ow_decide.specs.Asking.{put_of}
use Rattle.ow_decide.specs.Decision.{Decision, all_changed}
use Rattle.ow_decide.specs.declared.events.Told.{Told}
use Rattle.ow_decide.specs.declared.events.Told.TheVariants as tells
use Rattle.ow_decide.specs.Opening.{abandoned_told, opened_decision, parts_taken, taken_over}
use Rattle.ow_decide.proofs.OpenLaws.{held_taken}
use Rattle.ow_decide.specs.declared.events.Event.TheVariants as events
use Rattle.ow_tenant.specs.Table.{Table}
use Rattle.ow_tenant.specs.Tenants.{pool_of}
use Rattle.ow_hall.specs.declared.posting.Posting.{Posting}
use Rattle.ow_hall.specs.declared.posting.Posting.TheVariants.{Booked}
use Rattle.ow_hall.proofs.KeepLaws.{made_old_rows, made_rows}
use Rattle.ow_hall.specs.Openings.{IsAskedOnce}
use Rattle.ow_hall.specs.Comes.{HoldsBook, KeptRows, kept_of, kept_after, old_kept_after}
use Rattle.ow_keep.specs.declared.allowed.TheConstants.{GREATEST_MOMENT}
use Rattle.ow_hall.specs.History.{IsLegal, Seen, after, answer, counted, decision, least_moment, moment, moment_in, posting, seen, told_bytes}
use Rattle.ow_hall.specs.Ledger.{BookView, HasRoom, Ledger, no_entries, opened, opening_moment, posted, posted_as}
use Rattle.ow_hall.specs.Readied.{IsBeside, IsKeptBy, IsLoaded, IsOpenedOver, IsOver, IsReadied}
use Rattle.ow_hall.specs.State.{IsAt, Keeps, StateView}
use Rattle.ow_hall.specs.declared.opening.Opened.{Opened}
use Rattle.ow_hall.specs.declared.opening.Ready.{Ready}
use Rattle.ow_hall.proofs.RoomLaws.{opened_owed}

abbrev pub Rows : Type 0
Rows = List (List ℕ × List ℕ)

-- rows that are put one after the other
puts_resume : (rs rows : List Row) → all_changed (map put_of rs) rows ≡ resumed rs rows
puts_resume [] rows = refl
puts_resume (r ∷ rs) rows = puts_resume rs (with_row r rows)

-- what is decided of an opening over rows that hold these parts
taken : (t : Table) (rows : Rows) (at : ℕ) (p : Parts) → AreRows rows → HoldsItems rows p → decision t [] at (events.Opened rows) ≡ taken_over at p
taken t rows at p order holds =
    let T = (seen t []).trace in
    let may = subst (λ (q : Parts). AreResumable q.counts (resumed_records at q.unrecorded q.records)) holds.parts (may_be_resumed rows p at order holds) in
    ap (λ (r : Result (List Item) (List ℕ)). opened_decision at (parts_taken at T r)) (judged-kept rows holds.items holds.kept holds.known)
    ∙ held_taken at T holds.items refl may
    ∙ ap (taken_over at) (sym holds.parts)

-- ---- moments

small_in : (rows : Rows) (r : Result (List Item) (List ℕ)) → judged rows ≡ r → moment_in r ≤ GREATEST_MOMENT
small_in rows (Ok is) made = judged_small rows is made
small_in rows (Err key) made = omega arith

small_opening : (rows : Rows) (at : ℕ) → opening_moment rows at ≤ GREATEST_MOMENT
small_opening rows at = max-le (small_in rows (judged rows) refl) (max-le (omega arith) (min-le_right at GREATEST_MOMENT))

-- it is that of what is held
pub first_moment : (rows : Rows) (at : ℕ) (p : Parts) → AreRows rows → HoldsItems rows p → max (parts_moment p) (moment [] at) ≡ opening_moment rows at
first_moment rows at p order holds =
    let held = judged-kept rows holds.items holds.kept holds.known in
    ap (λ (m : ℕ). max m (moment [] at)) (ap parts_moment holds.parts ∙ (moment_of_split holds.items (subst AreRows holds.kept.rows order) ∙ sym (ap (λ (r : Result (List Item) (List ℕ)). moment_in r) held)))

late_opening : (rows : Rows) (at : ℕ) → least_moment (events.Opened rows) ≤ opening_moment rows at
late_opening rows at = le-max_left _ _

-- ---- the state after an opening

opened_at : (t : Table) (at : ℕ) (p : Parts) (w v : StateView) → IsOver t at p w → IsBeside w v → StandsForKept v.keeping (others_of p) (resumed p.entities builtin) (opened_trace at p (pool_of t) t.wants)
    → IsAt v (after (taken_over at p) (seen t []))
opened_at t at p w v over beside keeping =
    let T = opened_trace at p (pool_of t) t.wants in
    let rs = puts_resume p.entities builtin in
    record {
      stands = subst (λ (f : FloorView). Stands f.now T) (sym beside.floor) over.stands;
      rows = beside.rows ∙ (over.rows ∙ sym rs);
      waits = beside.waits ∙ over.waits;
      counts = subst (λ (x : CountsView). StandsFor x []) (sym beside.counts) over.counts;
      keeping = subst (λ (x : List Row). StandsForKept v.keeping (others_of p) x T) (sym rs) keeping;
      others = beside.others ∙ over.others;
    }

-- the first entry is booked
booked_keeps : (t : Table) (rows : Rows) (at : ℕ) (w : StateView) → w.floor.before ≡ None → posting [] (answer t [] (opening_moment rows at) (events.Opened rows)) ≡ Booked
    → opening_moment rows at ≤ GREATEST_MOMENT → IsAt w (after (decision t [] (opening_moment rows at) (events.Opened rows)) (seen t [])) → Keeps w t (opened t rows at)
booked_keeps t rows at w free booked most stands =
    let m = opening_moment rows at in
    let told = answer t [] m (events.Opened rows) in
    subst (λ (p : Posting). Keeps w t (posted_as p (record { at = m; event = events.Opened rows; answer = told }) no_entries)) (sym booked) (record {
      stands = stands;
      legal = record { answered = (refl, booked, omega arith, most, late_opening rows at, tt); opened = refl; given = (tt, tt) };
      free = free;
    })

opened_booked : (t : Table) (rows : Rows) (at : ℕ) (p : Parts) → AreRows rows → HoldsItems rows p → posting [] (answer t [] at (events.Opened rows)) ≡ Booked
opened_booked t rows at p order holds = ap (λ (d : Decision). posting [] d.told) (taken t rows at p order holds)

-- the hall is kept
opened_keeps : (t : Table) (rows : Rows) (at : ℕ) (p : Parts) (w v : StateView) → AreRows rows → HoldsItems rows p → IsOver t (opening_moment rows at) p w → IsBeside w v
    → StandsForKept v.keeping (others_of p) (resumed p.entities builtin) (opened_trace (opening_moment rows at) p (pool_of t) t.wants) → Keeps v t (opened t rows at)
opened_keeps t rows at p w v order holds over beside keeping =
    let m = opening_moment rows at in
    let is = taken t rows m p order holds in
    let free = ap (λ (f : FloorView). f.before) beside.floor ∙ over.free in
    booked_keeps t rows at v free (opened_booked t rows m p order holds)
    (small_opening rows at) (subst (λ (d : Decision). IsAt v (after d (seen t []))) (sym is) (opened_at t m p w v over beside keeping))

-- what is seen after it
seen_opened : (t : Table) (rows : Rows) (at : ℕ) (p : Parts) → AreRows rows → HoldsItems rows p → seen t (opened t rows at).entries ≡ after (taken_over (opening_moment rows at) p) (seen t [])
seen_opened t rows at p order holds =
    let m = opening_moment rows at in
    ap (λ (q : Posting). seen t (posted_as q (record { at = m; event = events.Opened rows; answer = answer t [] m (events.Opened rows) }) no_entries).entries) (opened_booked t rows m p order holds)
    ∙ ap (λ (d : Decision). after d (seen t [])) (taken t rows m p order holds)

-- it counts 64 bytes
opened_counted : (t : Table) (rows : Rows) (at : ℕ) (p : Parts) → AreRows rows → HoldsItems rows p → counted (opened t rows at).entries ≡ 64
opened_counted t rows at p order holds =
    let m = opening_moment rows at in
    ap (λ (q : Posting). counted (posted_as q (record { at = m; event = events.Opened rows; answer = answer t [] m (events.Opened rows) }) no_entries).entries) (opened_booked t rows m p order holds)
    ∙ ap (λ (d : Decision). 0 + (64 + (0 + told_bytes d.told))) (taken t rows m p order holds)

-- and has room, since nothing is owed
opened_room : (t : Table) (rows : Rows) (at room : ℕ) (p : Parts) → AreRows rows → HoldsItems rows p → HasRoom (seen t (opened t rows at).entries).trace (opened t rows at) room
opened_room t rows at room p order holds =
    let none : owed (seen t (opened t rows at).entries).trace ≡ 0 = ap (λ (s : Seen). owed s.trace) (seen_opened t rows at p order holds) ∙ opened_owed (pool_of t) t.wants in
    let few = opened_counted t rows at p order holds in
    record { within = omega (arith, none); fits = omega (arith, none, few) }

-- and the store holds what is kept of the book
opened_holds : (told : KeptRows) (t : Table) (rows : Rows) (at : ℕ) (p : Parts) → AreRows rows → HoldsItems rows p → IfSome told (λ kept. kept ≡ changed (opening_changes (opening_moment rows at) p) rows)
    → HoldsBook told t (opened t rows at)
opened_holds None t rows at p order holds made = tt
opened_holds (Some told) t rows at p order holds made =
    let m = opening_moment rows at in
    made ∙ (openings_kept rows p m (pool_of t) t.wants order holds (not_builtin rows p holds)
    ∙ (ap (λ (rs : List Row). kept_whole (others_of p) rs (opened_trace m p (pool_of t) t.wants)) (sym (puts_resume p.entities builtin))
    ∙ ap kept_of (sym (seen_opened t rows at p order holds))))

-- the ledger of what was taken over
pub opened_ledger : (t : Table) (rows : Rows) (at : ℕ) (p : Parts) → AreRows rows → HoldsItems rows p
    → posted no_entries (opening_moment rows at) (events.Opened rows) (tells.Opened (abandoned_told p.unrecorded)) ≡ opened t rows at
opened_ledger t rows at p order holds =
    let m = opening_moment rows at in
    ap (λ (x : Told). posted no_entries m (events.Opened rows) x) (sym (ap (λ (d : Decision). d.told) (taken t rows m p order holds)))

-- whatever is taken over, the opening is booked
booked_over : (at : ℕ) (taken : Option Parts) → posting [] (opened_decision at taken).told ≡ Booked
booked_over at None = refl
booked_over at (Some p) = refl

-- a legal book is opened so
pub opened_legal : (t : Table) (rows : Rows) (at : ℕ) → IsLegal t (opened t rows at).entries
opened_legal t rows at =
    let m = opening_moment rows at in
    let booked = booked_over m (parts_taken m (seen t []).trace (judged rows)) in
    subst (λ (q : Posting). IsLegal t (posted_as q (record { at = m; event = events.Opened rows; answer = answer t [] m (events.Opened rows) }) no_entries).entries) (sym booked)
    (record { answered = (refl, booked, omega arith, small_opening rows at, late_opening rows at, tt); opened = refl; given = (tt, tt) })

-- ---- after the commit

-- what a commit leaves of these rows
made_of : (first loaded new : KeptRows) (rows : Rows) (cs : List Change) → IfSome first (λ kept. rows ≡ kept) → loaded ≡ first → Commits {T = Unit {0}} loaded new cs (Ok tt)
    → IfSome new (λ kept. kept ≡ changed cs rows)
made_of None loaded new rows cs told same made =
    let none = subst (λ (k : KeptRows). Commits {T = Unit {0}} k new cs (Ok tt)) same made in
    subst (λ (k : KeptRows). IfSome k (λ kept. kept ≡ changed cs rows)) (sym none) tt
made_of (Some kept) loaded new rows cs told same made =
    let some = subst (λ (k : KeptRows). Commits {T = Unit {0}} k new cs (Ok tt)) same made in
    subst (λ (k : KeptRows). IfSome k (λ kept. kept ≡ changed cs rows)) (sym some) (ap (changed cs) (sym told))

-- where the opening failed, the store was asked to commit nothing, or once, and that commit failed
pub asked_none : (before after : Option (List Attempt)) → after ≡ before → IsAskedOnce before after
asked_none before after same = inl same

pub asked_one : (changes : List Change) (before mid after : Option (List Attempt)) → mid ≡ before → after ≡ with_attempt (unmade changes) mid → IsAskedOnce before after
asked_one changes before mid after same is = inr (changes, is ∙ ap (with_attempt (unmade changes)) same)

-- the service has what was opened
pub opening_stands : {P : Type 0} (telling : P → Telling) (old mid new : P) (t : Table) (rows : Rows) (at : ℕ) (r : Ready) (o : Opened) → IsLoaded telling old mid rows
    → IsReadied t rows at r → Commits {T = Unit {0}} (telling mid).rows (telling new).rows r.commit.changes (Ok tt)
    → Retires {T = Unit {0}} (telling mid).old_rows (telling new).old_rows r.commit.changes (Ok tt) → (telling new).commits ≡ with_attempt (made r.commit.changes) (telling mid).commits
    → (telling mid).faults ≤ (telling new).faults → IsKeptBy r o → IsOpenedOver telling old new t at o
opening_stands telling old mid new t rows at r o loaded ready commits retired asked later keeps =
    let m = opening_moment rows at in
    let p = ready.parts in
    let T = opened_trace m p (pool_of t) t.wants in
    let held = judged-kept rows ready.holds.items ready.holds.kept ready.holds.known in
    let keeping = subst (λ (v : KeepingView). StandsForKept v (others_of p) (resumed p.entities builtin) T) (sym keeps.keeping) ready.stands in
    let ledger = ap (λ (b : BookView). b.ledger) keeps.book ∙ ready.ledger in
    let told = made_of (telling old).rows (telling mid).rows (telling new).rows rows r.commit.changes loaded.told loaded.same commits in
    let holds = opened_holds (telling new).rows t rows at p ready.order ready.holds (subst (λ (cs : List Change). IfSome (telling new).rows (λ x. x ≡ changed cs rows)) ready.changes told) in
    record {
      loaded = rows;
      told = loaded.told;
      allowed = subst IsOk (sym held) refl;
      ledger = ledger;
      keeps = subst (λ (l : Ledger). Keeps o.state t l) (sym ledger) (opened_keeps t rows at p r.opened.state o.state ready.order ready.holds ready.over keeps.beside keeping);
      room = subst (λ (l : Ledger). HasRoom (seen t l.entries).trace l o.book.room) (sym ledger) (opened_room t rows at o.book.room p ready.order ready.holds);
      holds = subst (λ (l : Ledger). HoldsBook (telling new).rows t l) (sym ledger) holds;
      later = omega (arith, loaded.later, later);
      changes = r.commit.changes;
      makes = record {
        rows = made_rows (telling mid).rows (telling new).rows r.commit.changes tt commits ∙ ap (kept_after r.commit.changes) loaded.same;
        old_rows = made_old_rows (telling mid).old_rows (telling new).old_rows r.commit.changes tt retired ∙ ap (old_kept_after r.commit.changes) loaded.old_rows;
        commits = asked ∙ ap (with_attempt (made r.commit.changes)) loaded.commits;
        later = omega (arith, loaded.later, later);
      };
    }
