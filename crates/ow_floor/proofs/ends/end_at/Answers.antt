use Rattle.std.proofs.Common.{◌≡◌, ◌++◌, [], ◌∷◌, Some, None, sym, ◌∙◌, ap, get_or, rules}
use Rattle.ow_floor.specs.Calls.{ended_by}
use Rattle.ow_floor.specs.Ends.{end_in}
use Rattle.ow_floor.specs.Frames.{frames_ended, part_of}
use Rattle.ow_floor.specs.Store.{Store, with_frames}
use Rattle.ow_floor.specs.Trace.{record_of}
use Rattle.ow_floor.proofs.Finding.{any_default}
use Rattle.ow_floor.proofs.Results.{on_more}
use Rattle.ow_floor.proofs.Showing.{good_cut, good_framed}
use Rattle.ow_floor.proofs.ends.end_at.Goals as goal

pub returns-clause-lists_fit : goal.returns-clause-lists_fit
returns-clause-lists_fit c =
    let here : get_or c.args.lists.now.now.tasks c.args.place None ≡ Some c.in-Some.task =
    any_default c.args.lists.now.now.tasks c.args.place None c.index-tasks-place.result c.requires.place
    ∙ (ap (λ ts. get_or ts c.args.place c.index-tasks-place.result) (sym c.tasks.ensures) ∙ (sym c.index-tasks-place.is ∙ c.in-Some.is)) in
    let e = ended_by c.args.at c.args.ending.now c.args.run c.in-Some.task in
    let fs = frames_ended (part_of c.in-Some.task) (record_of e).response c.args.lists.now.now.frames in
    let now : c.end.new.self.now ≡ end_in c.args.place e c.args.lists.now.now = search rules in
    rw now (good_cut (with_frames fs c.args.lists.now.now) c.args.at c.args.place c.in-Some.task (record_of e) here (good_framed c.args.lists.now.now fs c.requires.lists_fit))

pub returns-clause-made : goal.returns-clause-made
returns-clause-made c =
    let here : get_or c.args.lists.now.now.tasks c.args.place None ≡ Some c.in-Some.task =
    any_default c.args.lists.now.now.tasks c.args.place None c.index-tasks-place.result c.requires.place
    ∙ (ap (λ ts. get_or ts c.args.place c.index-tasks-place.result) (sym c.tasks.ensures) ∙ (sym c.index-tasks-place.is ∙ c.in-Some.is)) in
    let e = ended_by c.args.at c.args.ending.now c.args.run c.in-Some.task in
    let now : c.end.new.self.now ≡ end_in c.args.place e c.args.lists.now.now = search rules in
    let items : c.records.result.now.items ≡ c.args.lists.now.now.records ++ record_of e ∷ [] = c.records.ensures ∙ ap (λ (R : Store). R.records) now in
    on_more c.note_ended.result _ _ (λ noted. record { task = c.in-Some.task; here = here; now = now; noted = noted _ (record_of e) items }) c.note_ended.ensures
