-- Each entry of a legal book isolates reads.
use Rattle.std.proofs.Common.{◌≡◌, ◌∙◌, [], ◌∷◌, ap}
use Rattle.ow_decide.specs.Asking.{IsOfView, ReadsChangeNothing}
use Rattle.ow_decide.specs.Sight.{Sight}
use Rattle.ow_decide.specs.declared.events.Event.{Event}
use Rattle.ow_hall.specs.History.{AreAnswered, History, IsLegal, answer}
use Rattle.ow_hall.specs.declared.entry.Entry.{Entry}
use Rattle.ow_tenant.specs.Table.{Table}
use Rattle.ow_isolation.specs.Beginnings.{IsIsolated, ReadsAreIsolated}
use Rattle.ow_isolation.proofs.ReadLaws.{answers_of_view, leaves_views}

isolated : (viewed : (S : Sight) → IsOfView S) (quiet : ReadsChangeNothing) (t : Table) (e : Entry) (B : History) → e.answer ≡ answer t B e.at e.event → IsIsolated t e B
isolated viewed quiet t e B told = record {
  answered = λ r reading W read sees. told ∙ (ap (λ (v : Event). answer t B e.at v) read.0 ∙ answers_of_view viewed t B e.at r reading W read.1 sees);
  left = λ r reading key read. leaves_views quiet t B e r reading key read;
}

each_isolated : (viewed : (S : Sight) → IsOfView S) (quiet : ReadsChangeNothing) (t : Table) (B : History) → AreAnswered t B → ReadsAreIsolated t B
each_isolated viewed quiet t [] answered = tt
each_isolated viewed quiet t (e ∷ B) answered = (isolated viewed quiet t e B answered.0, each_isolated viewed quiet t B answered.5)

pub reads_isolated : (viewed : (S : Sight) → IsOfView S) (quiet : ReadsChangeNothing) (t : Table) (B : History) → IsLegal t B → ReadsAreIsolated t B
reads_isolated viewed quiet t B legal = each_isolated viewed quiet t B legal.answered
