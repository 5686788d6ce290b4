use Rattle.std.proofs.Common.{◌≡◌, ◌+◌, ◌-◌, ◌≤◌, ◌<◌, Some, None, cond, length, sym, ap, ◌∙◌, arith}
use Rattle.ow_entity.specs.Exec.{components_of}
use Rattle.ow_entity.specs.declared.actions.Action.{Action}
use Rattle.ow_tables.specs.Sequences.{Trail, leads, leads_or, looked_at}
use Rattle.ow_tables.proofs.TrailLaws.{leads_end, leads_one}
use Rattle.ow_tables.proofs.sequences.leads.Goals as goal

pub returns-then-k-len : goal.returns-then-k-len
returns-then-k-len g c =
    let t : Trail = record { seen = c.loop-k.seen.rows; queue = c.loop-k.queue.items } in
    let short : length t.queue ≤ c.loop-k.k = omega (arith, c.len.ensures, c.if-k-len.true) in
    sym (leads_end (g.T.Lookup.found c.args.rows.now) c.args.goal.now c.args.most c.loop-k.k t c.loop-k-test.true short) ∙ c.loop-k.invariant

pub returns-then-branch : goal.returns-then-branch
returns-then-branch g c =
    let standing = g.T.Lookup.found c.args.rows.now in
    let wanted = c.args.goal.now in
    let t : Trail = record { seen = c.loop-k.seen.rows; queue = c.loop-k.queue.items } in
    let u : Trail = record { seen = c.looked_at.new.seen.rows; queue = c.looked_at.new.queue.items } in
    let a : Action = c.index.result.now in
    let long : c.loop-k.k < length t.queue = omega (arith, c.len.ensures, c.if-k-len.false) in
    let got : c.get.result.now ≡ a = c.get.ensures ∙ c.in_ok-action.ensures in
    let looked : looked_at standing wanted (components_of a.exec) t ≡ None =
    ap (λ (b : Action). looked_at standing wanted (components_of b.exec) t) (sym got) ∙ (c.in_ok-looked_at.ensures ∙ ap (λ b. cond b None (Some u)) c.if-branch.true) in
    sym (leads_one standing wanted c.args.most c.loop-k.k t a c.loop-k-test.true long c.index.ensures
    ∙ ap (leads_or (leads standing wanted (c.args.most - (c.loop-k.k + 1)) (c.loop-k.k + 1))) looked) ∙ c.loop-k.invariant

pub loop-k-preserved : goal.loop-k-preserved
loop-k-preserved g c =
    let standing = g.T.Lookup.found c.args.rows.now in
    let wanted = c.args.goal.now in
    let t : Trail = record { seen = c.loop-k.seen.rows; queue = c.loop-k.queue.items } in
    let u : Trail = record { seen = c.looked_at.new.seen.rows; queue = c.looked_at.new.queue.items } in
    let a : Action = c.index.result.now in
    let long : c.loop-k.k < length t.queue = omega (arith, c.len.ensures, c.if-k-len.false) in
    let got : c.get.result.now ≡ a = c.get.ensures ∙ c.in_ok-action.ensures in
    let looked : looked_at standing wanted (components_of a.exec) t ≡ Some u =
    ap (λ (b : Action). looked_at standing wanted (components_of b.exec) t) (sym got) ∙ (c.in_ok-looked_at.ensures ∙ ap (λ b. cond b None (Some u)) c.if-branch.false) in
    sym (leads_one standing wanted c.args.most c.loop-k.k t a c.loop-k-test.true long c.index.ensures
    ∙ ap (leads_or (leads standing wanted (c.args.most - (c.loop-k.k + 1)) (c.loop-k.k + 1))) looked) ∙ c.loop-k.invariant
