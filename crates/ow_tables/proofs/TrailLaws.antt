-- One action after another of a trail.
use Rattle.std.proofs.Common.{◌≡◌, ◌<◌, ◌≤◌, ◌+◌, ◌-◌, ℕ, suc, false, length, drop, get_or, sym, ap, ◌∙◌, arith}
use Rattle.std.proofs.lemmas.List.{at_drop_all, at_drop_more}
use Rattle.ow_names.specs.declared.full.FullName.{FullName}
use Rattle.ow_entity.specs.Exec.{components_of}
use Rattle.ow_entity.specs.declared.actions.Action.{Action}
use Rattle.ow_packages.specs.Access.{Standing}
use Rattle.ow_tables.specs.Sequences.{Trail, leads, leads_or, looked_at, next_leads}

one_left : (most k : ℕ) → k < most → most - k ≡ suc (most - (k + 1))
one_left most k h = omega (arith, h)

next_place : (k : ℕ) → suc k ≡ k + 1
next_place k = omega arith

leads_next : (standing : Standing) (goal : FullName) (most k : ℕ) (t : Trail) → k < most
    → leads standing goal (most - k) k t ≡ next_leads standing goal (leads standing goal (most - (k + 1)) (k + 1)) t (drop k t.queue)
leads_next standing goal most k t h =
    ap (λ n. leads standing goal n k t) (one_left most k h)
    ∙ ap (λ j. next_leads standing goal (leads standing goal (most - (k + 1)) j) t (drop k t.queue)) (next_place k)

-- the trail has no more actions
pub leads_end : (standing : Standing) (goal : FullName) (most k : ℕ) (t : Trail) → k < most → length t.queue ≤ k → leads standing goal (most - k) k t ≡ false
leads_end standing goal most k t h short =
    leads_next standing goal most k t h
    ∙ at_drop_all (next_leads standing goal (leads standing goal (most - (k + 1)) (k + 1)) t) t.queue k short

-- it has this one next
pub leads_one : (standing : Standing) (goal : FullName) (most k : ℕ) (t : Trail) (a : Action) → k < most → k < length t.queue → a ≡ get_or t.queue k a
    → leads standing goal (most - k) k t ≡ leads_or (leads standing goal (most - (k + 1)) (k + 1)) (looked_at standing goal (components_of a.exec) t)
leads_one standing goal most k t a h long is =
    leads_next standing goal most k t h
    ∙ (at_drop_more (next_leads standing goal (leads standing goal (most - (k + 1)) (k + 1)) t) t.queue k a long
    ∙ ap (λ (b : Action). leads_or (leads standing goal (most - (k + 1)) (k + 1)) (looked_at standing goal (components_of b.exec) t)) (sym is))
