use Rattle.std.proofs.Common.{◌≡◌, ◌∙◌, ◌++◌, ℕ, List, Some, Result, Ok, Err, subst, sym}
use Rattle.ow_entity.specs.declared.rules.Rule.{Rule}
use Rattle.ow_records.specs.declared.fires.Fire.{Fire}
use Rattle.ow_row_text.specs.declared.item.Note.{Note}
use Rattle.ow_floor.specs.Laws.{Stands}
use Rattle.ow_floor.specs.Trace.{Trace}
use Rattle.ow_floor.specs.View.{Shown}
use Rattle.ow_tenant.specs.Tenants.{limits_of}
use Rattle.ow_counts.specs.Counts.{fire_admitted}
use Rattle.ow_counts.specs.declared.refusal.LimitRefusal.{LimitRefusal}
use Rattle.ow_http.specs.declared.reason.Reason.{Reason}
use Rattle.ow_decide.specs.Decision.{held}
use Rattle.ow_decide.specs.Firing.{shot_items}
use Rattle.ow_decide.specs.Making.{Carries, admits_made}
use Rattle.ow_decide.specs.OfficeFiring.{IsNoted, Shot, noted_step, office_decision, office_made, shot_refused}
use Rattle.ow_decide.specs.Sight.{Sight}
use Rattle.ow_decide.specs.declared.office_steps.Noted.{Noted}
use Rattle.ow_decide.specs.declared.replies.Fired.TheVariants as fires
use Rattle.ow_decide.specs.declared.step.Step.{Step}
use Rattle.ow_decide.proofs.FireLaws.{back_to}
use Rattle.ow_decide.proofs.OfficeLaws.{office_held}
use Rattle.ow_decide.proofs.OwnLaws.{made_so, noted_carries, refused_carries}
use Rattle.ow_decide.proofs.office_steps.shot.Goals as goal

-- a fire that is made
shot_made : (S : Sight) (n : Note) (f : Fire) (rs : List Rule) (x : Noted) (limit : Result (Unit {0}) LimitRefusal) (step : Step) (new : Shown) → IsNoted x (shot_items S f rs) n S
    → limit ≡ fire_admitted S.trace f.namespace (limits_of f.namespace S.tenants) S.moment → Ok tt ≡ admits_made x.commit.bytes limit → step ≡ noted_step x (fires.Made f.id) → Stands new (shot_items S f rs ++ S.trace)
    → Carries step (office_decision S.others n (office_made S n rs f)) S × Stands new (held (office_decision S.others n (office_made S n rs f)) ++ S.trace)
shot_made S n f rs x limit step new noted allowed admits is stands =
    let shot : Shot = record { items = shot_items S f rs; id = Some f.id } in
    let same : Ok shot ≡ office_made S n rs f = made_so S n f rs x.commit.bytes limit (Ok tt) noted.bytes allowed admits in (
      subst (λ (r : Result Shot Reason). Carries step (office_decision S.others n r) S) same
          (subst (λ (s : Step). Carries s (office_decision S.others n (Ok shot)) S) (sym is) (noted_carries x n S shot noted)),
      subst (λ (r : Result Shot Reason). Stands new (held (office_decision S.others n r) ++ S.trace)) same
          (subst (λ (items : Trace). Stands new (items ++ S.trace)) (sym (office_held S.others n (Ok shot))) stands),
    )

-- and one that is refused, and taken back
shot_back : (S : Sight) (n : Note) (f : Fire) (rs : List Rule) (x : Noted) (limit : Result (Unit {0}) LimitRefusal) (reason : Reason) (step : Step) (new : Shown) → IsNoted x (shot_items S f rs) n S
    → limit ≡ fire_admitted S.trace f.namespace (limits_of f.namespace S.tenants) S.moment → Err reason ≡ admits_made x.commit.bytes limit → step ≡ shot_refused reason → Stands new S.trace
    → Carries step (office_decision S.others n (office_made S n rs f)) S × Stands new (held (office_decision S.others n (office_made S n rs f)) ++ S.trace)
shot_back S n f rs x limit reason step new noted allowed refuses is stands =
    let same : Err reason ≡ office_made S n rs f = made_so S n f rs x.commit.bytes limit (Err reason) noted.bytes allowed refuses in (
      subst (λ (r : Result Shot Reason). Carries step (office_decision S.others n r) S) same
          (subst (λ (s : Step). Carries s (office_decision S.others n (Err reason)) S) (sym is) (refused_carries n S reason)),
      subst (λ (r : Result Shot Reason). Stands new (held (office_decision S.others n r) ++ S.trace)) same stands,
    )

pub returns-in-Ok-clause-ok : goal.returns-in-Ok-clause-ok
returns-in-Ok-clause-ok c = λ S seen are.
    shot_made S c.args.note.now c.args.fire c.args.rules c.in_ok-noted.noted c.within_fires-limit.result c.step.result c.made_shot.new.floor.now
    (c.in_ok-noted.ensures S (shot_items S c.args.fire c.args.rules) (c.in_ok-made.ensures.made S seen) are) (c.within_fires-limit.ensures S seen.tenants seen.moment seen.counts)
    (subst (λ (m : ℕ). Ok tt ≡ admits_made m c.within_fires-limit.result) c.bytes.ensures c.in-Ok.ensures) c.step.ensures (c.in_ok-made.ensures.ok S seen)

pub returns-in-Err-clause-ok : goal.returns-in-Err-clause-ok
returns-in-Err-clause-ok c = λ S seen are.
    shot_back S c.args.note.now c.args.fire c.args.rules c.in_ok-noted.noted c.within_fires-limit.result c.in-Err.reason c.refused.result c.back.new.self.now
    (c.in_ok-noted.ensures S (shot_items S c.args.fire c.args.rules) (c.in_ok-made.ensures.made S seen) are) (c.within_fires-limit.ensures S seen.tenants seen.moment seen.counts)
    (subst (λ (m : ℕ). Err c.in-Err.reason ≡ admits_made m c.within_fires-limit.result) c.bytes.ensures c.in-Err.ensures) c.refused.ensures
    (subst (λ (v : Shown). Stands v S.trace) (sym (back_to _ c.args.floor.now.now c.back.new.self.now (c.made_shot.ensures.before ∙ c.requires.held) c.back.ensures.now)) seen.stands)
