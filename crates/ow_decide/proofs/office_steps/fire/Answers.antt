use Rattle.std.proofs.Common.{◌≡◌, ◌∙◌, ◌++◌, ◌+◌, ℕ, Bool, true, false, List, [], Some, Result, Ok, Err, refl, sym, ap, subst}
use Rattle.std.specs.Prelude.{◌≢◌}
use Rattle.ow_value.specs.Value.{Pairs}
use Rattle.ow_names.specs.declared.full.FullName.{FullName}
use Rattle.ow_entity.specs.declared.rows.Row.{Row}
use Rattle.ow_entity.specs.declared.rules.Rule.{Rule}
use Rattle.ow_entity.specs.declared.triggers.Trigger.{Trigger}
use Rattle.ow_records.specs.declared.fires.Fire.{Fire}
use Rattle.ow_row_text.specs.Bytes.{bytes_of}
use Rattle.ow_row_text.specs.declared.item.Note.{Note}
use Rattle.ow_floor.specs.Laws.{Stands}
use Rattle.ow_floor.specs.Trace.{Trace}
use Rattle.ow_commits.specs.Kept.{OthersView, kept, others_bytes}
use Rattle.ow_commits.specs.Noting.{noting}
use Rattle.ow_tables.specs.Joined.{trigger_at}
use Rattle.ow_tables.specs.Rows.{standing}
use Rattle.ow_tenant.specs.Table.{Table}
use Rattle.ow_tenant.specs.Tenants.{number_of}
use Rattle.ow_http.specs.Steps.{◌>>=◌}
use Rattle.ow_http.specs.declared.reason.Reason.{Reason}
use Rattle.ow_reads.specs.Steps.{unless}
use Rattle.ow_rules.specs.Fired.{fired}
use Rattle.ow_decide.specs.Decision.{held}
use Rattle.ow_decide.specs.Making.{Carries}
use Rattle.ow_decide.specs.OfficeFiring.{Shot, office_decision, office_made, office_quiet, office_rules, office_shot, quiet_shot}
use Rattle.ow_decide.specs.Reasons.{store_full}
use Rattle.ow_decide.specs.Sight.{Sight, is_store_full, room_for}
use Rattle.ow_decide.specs.declared.step.Step.{Step}
use Rattle.ow_decide.proofs.OfficeLaws.{office_held}
use Rattle.ow_decide.proofs.OwnLaws.{own_no_rules, own_rules_so, own_some_rules, refused_carries}
use Rattle.ow_decide.proofs.Results.{if_ok_map}
use Rattle.ow_decide.proofs.office_steps.fire.Goals as goal

-- where no rule is active nothing is held
quiet_held : (o : OthersView) (n : Note) (full : Bool) → held (office_decision o n (unless full store_full >>= (λ (room : Unit {0}). Ok quiet_shot))) ≡ []
quiet_held o n true = refl
quiet_held o n false = office_held o n (Ok quiet_shot)

-- the rules are those of the trigger, over the rows and the table that are seen
rules_seen : (S : Sight) (rs : List Row) (t : Table) (name : FullName) (given : Pairs) (n : Note) (trigger : Trigger) (number : ℕ) (rules : List Rule) → S.rows ≡ rs → S.tenants ≡ t → Ok tt ≡ room_for S 0
    → Some trigger ≡ trigger_at (standing rs) name → Some number ≡ number_of name.namespace t → rules ≡ fired rs name → office_rules S name number trigger given n rules ≡ office_shot S name given n
rules_seen S rs t name given n trigger number rules rows tenants room there numbered are =
    own_rules_so S name given n trigger number rules room (ap (λ (xs : List Row). trigger_at (standing xs) name) rows ∙ sym there) (ap (number_of name.namespace) tenants ∙ sym numbered)
    (are ∙ ap (λ (xs : List Row). fired xs name) (sym rows))

pub returns-then-is_empty-clause-ok : goal.returns-then-is_empty-clause-ok
returns-then-is_empty-clause-ok c =
    let none : c.in_ok-rules.rules ≡ [] = c.is_empty.ensures.0 c.if-is_empty.true in
    if_ok_map c.quiet.result _ _ (λ s h S seen are.
    let n = c.args.note.now in
    let whole : office_quiet S n ≡ office_shot S c.args.trigger.now c.args.params.now n
    = own_no_rules S c.args.trigger.now c.in-Some-number_of.number c.in-Some.fired.now c.args.params.now n c.in_ok-rules.rules none
    ∙ rules_seen S c.args.tables.now.rows c.args.tenants.now c.args.trigger.now c.args.params.now n c.in-Some.fired.now c.in-Some-number_of.number c.in_ok-rules.rules seen.rows seen.tenants
    (c.in_default.ensures S seen.counted) c.in-Some.ensures c.in-Some-number_of.ensures c.in_ok-rules.ensures in (
      subst (λ (r : Result Shot Reason). Carries s (office_decision S.others n r) S) whole (h S seen.keeping seen.stands.sound are),
      subst (λ (r : Result Shot Reason). Stands c.args.floor.now.now (held (office_decision S.others n r) ++ S.trace)) whole
          (subst (λ (items : Trace). Stands c.args.floor.now.now (items ++ S.trace)) (sym (quiet_held S.others n (is_store_full (others_bytes (noting n S.others) + bytes_of (kept S.rows S.trace))))) seen.stands),
    )) c.quiet.ensures.ok

pub returns-in-Ok-Ok-clause-ok : goal.returns-in-Ok-Ok-clause-ok
returns-in-Ok-Ok-clause-ok c =
    let some : c.in_ok-rules.rules ≢ [] = λ none. let h = c.is_empty.ensures.1 none in let f = c.if-is_empty.false in cc in
    if_ok_map c.shot.result _ _ (λ s h S seen are.
    let n = c.args.note.now in
    let whole : office_made S n c.in_ok-rules.rules c.in-Ok-Ok.fire ≡ office_shot S c.args.trigger.now c.args.params.now n
    = ap (λ (r : Result Fire Reason). r >>= office_made S n c.in_ok-rules.rules) (sym c.in-Ok-Ok.field-0-is ∙ c.in-Ok-Ok.ensures.plan S seen.stands seen.moment)
    ∙ (own_some_rules S c.args.trigger.now c.in-Some-number_of.number c.in-Some.fired.now c.args.params.now n c.in_ok-rules.rules some
    ∙ rules_seen S c.args.tables.now.rows c.args.tenants.now c.args.trigger.now c.args.params.now n c.in-Some.fired.now c.in-Some-number_of.number c.in_ok-rules.rules seen.rows seen.tenants
    (c.in_default.ensures S seen.counted) c.in-Some.ensures c.in-Some-number_of.ensures c.in_ok-rules.ensures) in
    subst (λ (r : Result Shot Reason). Carries s (office_decision S.others n r) S × Stands c.shot.new.floor.now (held (office_decision S.others n r) ++ S.trace)) whole (h S seen are)) c.shot.ensures.ok

pub returns-in-Ok-Err-clause-ok : goal.returns-in-Ok-Err-clause-ok
returns-in-Ok-Err-clause-ok c = λ S seen are.
    let n = c.args.note.now in
    let some : c.in_ok-rules.rules ≢ [] = λ none. let h = c.is_empty.ensures.1 none in let f = c.if-is_empty.false in cc in
    let whole : Err c.in-Ok-Err.reason ≡ office_shot S c.args.trigger.now c.args.params.now n
    = ap (λ (r : Result Fire Reason). r >>= office_made S n c.in_ok-rules.rules) (sym c.in-Ok-Err.field-0-is ∙ c.in-Ok-Err.ensures.plan S seen.stands seen.moment)
    ∙ (own_some_rules S c.args.trigger.now c.in-Some-number_of.number c.in-Some.fired.now c.args.params.now n c.in_ok-rules.rules some
    ∙ rules_seen S c.args.tables.now.rows c.args.tenants.now c.args.trigger.now c.args.params.now n c.in-Some.fired.now c.in-Some-number_of.number c.in_ok-rules.rules seen.rows seen.tenants
    (c.in_default.ensures S seen.counted) c.in-Some.ensures c.in-Some-number_of.ensures c.in_ok-rules.ensures) in (
      subst (λ (r : Result Shot Reason). Carries c.refused-in-Ok-Err.result (office_decision S.others n r) S) whole
          (subst (λ (s : Step). Carries s (office_decision S.others n (Err c.in-Ok-Err.reason)) S) (sym c.refused-in-Ok-Err.ensures) (refused_carries n S c.in-Ok-Err.reason)),
      subst (λ (r : Result Shot Reason). Stands c.args.floor.now.now (held (office_decision S.others n r) ++ S.trace)) whole seen.stands,
    )
