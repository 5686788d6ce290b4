use Rattle.std.proofs.Common.{◌∙◌, subst, sym}
use Rattle.std.specs.Prelude.{is_none}
use Rattle.ow_tenant.specs.Notes.{Notes, ended}
use Rattle.ow_counts.specs.View.{StandsFor}
use Rattle.ow_counts.proofs.Moving.{none_so, noted_no, noted_yes, one_less}
use Rattle.ow_counts.proofs.moves.note_end.Goals as goal

pub returns-then-is_none-clause-notes : goal.returns-then-is_none-clause-notes
returns-then-is_none-clause-notes c ns may h =
    subst (λ (xs : Notes). StandsFor c.ended.new.self xs) (sym (noted_yes (is_none c.args.end.now.cause) (ended c.args.end.now.namespace) ns (none_so _ _ c.is_none.ensures ∙ c.if-is_none.true))) (c.ended.ensures.notes ns (may (none_so _ _ c.is_none.ensures ∙ c.if-is_none.true)) h)

pub returns-then-is_none-clause-room : goal.returns-then-is_none-clause-room
returns-then-is_none-clause-room c name n h = c.ended.ensures.room name n (one_less name n c.args.counts.now h)

pub returns-else-is_none-clause-notes : goal.returns-else-is_none-clause-notes
returns-else-is_none-clause-notes c ns may h = subst (λ (xs : Notes). StandsFor c.args.counts.now xs) (sym (noted_no (is_none c.args.end.now.cause) (ended c.args.end.now.namespace) ns (none_so _ _ c.is_none.ensures ∙ c.if-is_none.false))) h

pub returns-else-is_none-clause-room : goal.returns-else-is_none-clause-room
returns-else-is_none-clause-room c name n h = one_less name n c.args.counts.now h
