use Rattle.ow_value.proofs.ByTextLaws.{replaced_new, replaced_back, replaced_rises, replaced_stands}
use Rattle.ow_value.proofs.by_text.replace_at.Goals as goal

pub returns-clause-new : goal.returns-clause-new
returns-clause-new g c text h =
    replaced_new c.args.entries.now.items c.args.place c.index_mut.result.now c.replace.new.dest c.args.value text c.index_mut.ensures.value (cc) c.requires.by_text h

pub returns-clause-back : goal.returns-clause-back
returns-clause-back g c text h =
    replaced_back c.args.entries.now.items c.args.place c.index_mut.result.now c.replace.result text c.index_mut.ensures.value (cc) h

pub returns-clause-stands : goal.returns-clause-stands
returns-clause-stands g c text h =
    replaced_stands c.args.entries.now.items _ c.args.place c.index_mut.result.now c.args.value text c.requires.by_text h
    (replaced_new c.args.entries.now.items c.args.place c.index_mut.result.now c.replace.new.dest c.args.value text c.index_mut.ensures.value (cc) c.requires.by_text h)

pub returns-clause-by_text : goal.returns-clause-by_text
returns-clause-by_text g c =
    replaced_rises c.args.entries.now.items c.args.place c.index_mut.result.now c.replace.new.dest c.index_mut.ensures.value c.requires.by_text c.requires.place
