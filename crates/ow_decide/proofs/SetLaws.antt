-- What is done where a rule's status is set.
use Rattle.std.proofs.Common.{◌≡◌, ◌∙◌, Bool, List, Option, Some, None, Result, Ok, refl, ap, subst, sym}
use Rattle.std.specs.Prelude.{option_map}
use Rattle.ow_names.specs.declared.full.FullName.{FullName}
use Rattle.ow_entity.specs.Finish.{as_rule}
use Rattle.ow_entity.specs.declared.rows.Row.{Row}
use Rattle.ow_entity.specs.declared.rows.Row.TheVariants as rows
use Rattle.ow_entity.specs.declared.rules.Rule.{Rule}
use Rattle.ow_http.specs.Steps.{◌>>=◌}
use Rattle.ow_http.specs.declared.reason.Reason.{Reason}
use Rattle.ow_reads.specs.Reasons.{not_found}
use Rattle.ow_reads.specs.Steps.{or_else}
use Rattle.ow_rules.specs.Status.{status_change}
use Rattle.ow_tables.specs.Contents.{Change}
use Rattle.ow_tables.specs.Joined.{rule_at}
use Rattle.ow_tables.specs.Rows.{standing, with_row}
use Rattle.ow_reads.specs.Shown.{shown_row}
use Rattle.ow_decide.specs.Asking.{Changed, Done, Shown, named_set, set_done}
use Rattle.ow_decide.specs.Sight.{Sight}

-- the rule of which a status makes this
pub record IsSet (o : Option Rule) (active : Bool) (change : Option Change) : Type 0 where
  pub rule : Rule
  pub there : o ≡ Some rule
  pub is : status_change rule active ≡ change

pub set_of : (o : Option Rule) (active : Bool) (change : Option Change) → option_map (λ r. status_change r active) o ≡ Some change → IsSet o active change
set_of None active change is = cc
set_of (Some r) active change is = let same : status_change r active ≡ change = cc in record { rule = r; there = refl; is = same }

-- the outcome of setting a status
pub set_so : (S : Sight) (name : FullName) (active : Bool) (change : Option Change) (set : IsSet (rule_at (standing S.rows) name) active change) → Ok (set_done S set.rule change) ≡ named_set S name active
set_so S name active change set =
    ap (λ (c : Option Change). Ok (set_done S set.rule c)) (sym set.is)
    ∙ ap (λ (o : Option Rule). or_else o not_found >>= (λ (r : Rule). Ok (set_done S r (status_change r active)))) (sym set.there)

-- the row of the rule
pub rule_row : (o : Option Row) (r : Rule) → as_rule o ≡ Some r → o ≡ Some (rows.Rule r)
rule_row None r is = cc
rule_row (Some (rows.Action a)) r is = cc
rule_row (Some (rows.Package p)) r is = cc
rule_row (Some (rows.Rule x)) r is = let same : x ≡ r = cc in ap (λ (y : Rule). Some (rows.Rule y)) same
rule_row (Some (rows.Trigger t)) r is = cc

-- a status that is made ready
pub set_changed : (S : Sight) (old new : List Row) (name : FullName) (active : Bool) (ready : Change) → S.rows ≡ old → new ≡ old
    → option_map (λ r. status_change r active) (rule_at (standing old) name) ≡ Some (Some ready) → Ok (Changed ready (shown_row (with_row ready.row new) ready.row)) ≡ named_set S name active
set_changed S old new name active ready rows same is =
    let set = set_of (rule_at (standing S.rows) name) active (Some ready) (subst (λ (rs : List Row). option_map (λ r. status_change r active) (rule_at (standing rs) name) ≡ Some (Some ready)) (sym rows) is) in
    ap (λ (rs : List Row). Ok (Changed ready (shown_row (with_row ready.row rs) ready.row))) (same ∙ sym rows) ∙ set_so S name active (Some ready) set

-- one that the rule has already
pub set_stays : (S : Sight) (old new : List Row) (name : FullName) (active : Bool) (d : Result Done Reason) → S.rows ≡ old → new ≡ old
    → option_map (λ r. status_change r active) (rule_at (standing old) name) ≡ Some None
    → ((r : Rule) → rule_at (standing new) name ≡ Some r → d ≡ Ok (Shown (shown_row new (rows.Rule r)))) → d ≡ named_set S name active
set_stays S old new name active d rows_are same is shows =
    let set = set_of (rule_at (standing S.rows) name) active None (subst (λ (rs : List Row). option_map (λ r. status_change r active) (rule_at (standing rs) name) ≡ Some None) (sym rows_are) is) in
    let there = subst (λ (rs : List Row). rule_at (standing rs) name ≡ Some set.rule) (rows_are ∙ sym same) set.there in
    shows set.rule there ∙ (ap (λ (rs : List Row). Ok (Shown (shown_row rs (rows.Rule set.rule)))) (same ∙ sym rows_are) ∙ set_so S name active None set)
