-- A book that was just opened.
use Rattle.std.proofs.Common.{◌≡◌, ℕ, true, List, [], ◌∷◌, refl, subst, sym}
use Rattle.ow_decide.specs.declared.events.Event.TheVariants as events
use Rattle.ow_tenant.specs.Table.{Table}
use Rattle.ow_hall.specs.declared.entry.Entry.{Entry}
use Rattle.ow_hall.specs.declared.posting.Posting.{Posting}
use Rattle.ow_hall.specs.declared.posting.Posting.TheVariants.{Booked, Quiet, Denied, Unbooked}
use Rattle.ow_hall.specs.History.{answer, is_opened, posting}
use Rattle.ow_hall.specs.Ledger.{Ledger, no_entries, opened, opening_moment, posted_as}
use Rattle.ow_hall.proofs.OpenLaws.{opened_legal}

one_posted : (p : Posting) (e : Entry) → is_opened (posted_as p e no_entries).entries ≡ true → (x : Entry) × ((posted_as p e no_entries).entries ≡ x ∷ [])
one_posted Booked e is = (e, refl)
one_posted Quiet e is = cc is
one_posted Denied e is = cc is
one_posted Unbooked e is = cc is

-- has one entry
pub one_entry : (t : Table) (rows : List (List ℕ × List ℕ)) (at : ℕ) (L : Ledger) → L ≡ opened t rows at → (x : Entry) × (L.entries ≡ x ∷ [])
one_entry t rows at L is =
    let said = answer t [] (opening_moment rows at) (events.Opened rows) in
    subst (λ (M : Ledger). (x : Entry) × (M.entries ≡ x ∷ [])) (sym is)
    (one_posted (posting [] said) (record { at = opening_moment rows at; event = events.Opened rows; answer = said }) (opened_legal t rows at).opened)
