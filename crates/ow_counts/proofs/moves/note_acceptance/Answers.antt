use Rattle.std.proofs.Common.{◌∙◌, subst, sym}
use Rattle.std.specs.Prelude.{is_none}
use Rattle.ow_tenant.specs.Notes.{Notes, invoked}
use Rattle.ow_tenant.specs.Windows.{window_of}
use Rattle.ow_counts.specs.View.{StandsFor}
use Rattle.ow_counts.proofs.Moving.{none_so, noted_no, noted_yes, one_less, without_fires}
use Rattle.ow_counts.proofs.moves.note_acceptance.Goals as goal

pub invoked-requires : goal.invoked-requires
invoked-requires c = record { window = without_fires 1 (window_of c.args.task.now.namespace c.args.counts.now.windows) (c.requires.room (none_so _ _ c.is_none.ensures ∙ c.if-is_none.true)); counter = c.requires.counter }

pub returns-then-is_none-clause-notes : goal.returns-then-is_none-clause-notes
returns-then-is_none-clause-notes c ns later h =
    subst (λ (xs : Notes). StandsFor c.invoked.new.self xs) (sym (noted_yes (is_none c.args.task.now.cause) (invoked c.args.task.now.namespace c.args.task.now.at) ns (none_so _ _ c.is_none.ensures ∙ c.if-is_none.true))) (c.invoked.ensures.notes ns later h)

pub returns-else-is_none-clause-notes : goal.returns-else-is_none-clause-notes
returns-else-is_none-clause-notes c ns later h =
    subst (λ (xs : Notes). StandsFor c.args.counts.now xs) (sym (noted_no (is_none c.args.task.now.cause) (invoked c.args.task.now.namespace c.args.task.now.at) ns (none_so _ _ c.is_none.ensures ∙ c.if-is_none.false))) h

pub returns-else-is_none-clause-room : goal.returns-else-is_none-clause-room
returns-else-is_none-clause-room c name n h = one_less name n c.args.counts.now h
