use Rattle.ow_floor.specs.Calls.{draw_items}
use Rattle.ow_floor.proofs.Results.{on_more}
use Rattle.ow_decide.proofs.FireLaws.{id_drawn}
use Rattle.ow_decide.proofs.Results.{if_ok_map}
use Rattle.ow_decide.proofs.fire_steps.drawn_lines.Goals as goal

pub returns-clause-ok : goal.returns-clause-ok
returns-clause-ok c = on_more c.rule_lines.result _ _ (λ goes S u. goes S (draw_items S.moment c.args.fire.now.id)
    (id_drawn S c.args.tenants.now c.args.tables.now.rows c.args.counts.now c.args.now c.args.floor.now.now c.draw.new.self.now c.args.moves.now c.draw.new.moves c.args.fire.now.id c.in_ok-draw.ensures.ok c.in_ok-draw.ensures.moved u))
    c.rule_lines.ensures.ok

pub returns-clause-lines : goal.returns-clause-lines
returns-clause-lines c = if_ok_map c.rule_lines.result _ _ (λ ls is S u. is S (draw_items S.moment c.args.fire.now.id)
    (id_drawn S c.args.tenants.now c.args.tables.now.rows c.args.counts.now c.args.now c.args.floor.now.now c.draw.new.self.now c.args.moves.now c.draw.new.moves c.args.fire.now.id c.in_ok-draw.ensures.ok c.in_ok-draw.ensures.moved u))
    c.rule_lines.ensures.lines
