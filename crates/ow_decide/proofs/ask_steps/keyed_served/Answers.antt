use Rattle.std.proofs.Common.{◌∙◌, ap, sym}
use Rattle.ow_http.specs.Request.{parts_of}
use Rattle.ow_reads.specs.Tenants.{asker}
use Rattle.ow_tenant.specs.Table.{Table}
use Rattle.ow_decide.proofs.AskLaws.{keyed_so}
use Rattle.ow_decide.proofs.Results.{if_ok_map}
use Rattle.ow_decide.proofs.ask_steps.keyed_served.Goals as goal

pub returns-in_default-act : goal.returns-in_default-act
returns-in_default-act c = record {
  done = if_ok_map c.called_served.result _ _ (λ d h S k seen.
      h S k seen
      ∙ keyed_so S (parts_of c.args.request.now) c.in-Some.act c.in-Ok.holder.now (sym c.act_of.ensures ∙ c.in-Some.is) (c.in_default-room_for.ensures S seen.counted)
      (ap (λ (t : Table). asker t c.args.request.now.key) seen.tenants ∙ c.in-Ok.ensures) c.in_default-act.not-Reads) c.called_served.ensures.done;
  commit = c.called_served.ensures.commit;
  rows = c.called_served.ensures.rows;
  place = c.called_served.ensures.place;
  next = c.called_served.ensures.next;
}
