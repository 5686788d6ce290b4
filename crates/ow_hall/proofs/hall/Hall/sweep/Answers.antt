use Rattle.std.proofs.Common.{◌≡◌, ◌++◌, ℕ, List, [], ◌∷◌, Option, Some, None, refl, sym, subst}
use Rattle.ow_floor.specs.Calls.{due_in}
use Rattle.ow_floor.specs.Trace.{Trace}
use Rattle.ow_floor.specs.declared.answers.Swept.{Swept}
use Rattle.ow_records.specs.declared.record.Record.{Record}
use Rattle.ow_decide.specs.Decisions.{archived_until, sweep_by, sweep_with, swept_all, swept_told}
use Rattle.ow_decide.specs.Sight.{Sight}
use Rattle.ow_decide.specs.declared.events.Told.{Told}
use Rattle.ow_decide.specs.declared.events.Told.TheVariants as told
use Rattle.ow_hall.specs.Comes.{at_hall}
use Rattle.ow_hall.specs.History.{counted, seen, sight}
use Rattle.ow_hall.proofs.hall.Hall.sweep.Goals as goal

-- the answer to a sweep is a `Swept`, with or without an archive
with_told : (S : Sight) (t : Told) (items : Trace) (until : ℕ) (due : List Record) → (sweep_with S t items until due).told ≡ t
with_told S t items until [] = refl
with_told S t items until (r ∷ rs) = refl

sweep_told : (S : Sight) (t : Told) (items : Trace) (until : Option ℕ) → (sweep_by S t items until).told ≡ t
sweep_told S t items None = refl
sweep_told S t items (Some until) = with_told S t items until (due_in until (items ++ S.trace))

pub swept_in-requires : goal.swept_in-requires
swept_in-requires g c =
    let h = c.args.self.now in
    let S = sight h.tenants (seen h.tenants h.ledger.entries) (counted h.ledger.entries) (at_hall h c.args.at) in
    let swept = swept_told (swept_all S) in
    subst (λ (t : Told). (x : Swept) × (t ≡ told.Swept x)) (sym c.in-Ok.ensures.comes.0) (swept, sweep_told S (told.Swept swept) (swept_all S) (archived_until S.tenants.retain S.moment))
