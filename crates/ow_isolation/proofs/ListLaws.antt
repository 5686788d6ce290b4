-- Keys whose views are equal get equal answers to lists of reads.
use Rattle.std.proofs.Common.{◌≡◌, ◌≢◌, ◌∙◌, ℕ, List, [], ◌∷◌, map, Bool, true, false, Option, Some, None, Ok, refl, sym, ap, subst}
use Rattle.ow_traits.specs.Telling.{Telling}
use Rattle.ow_http.specs.Pair.{Pair}
use Rattle.ow_http.specs.Parts.{Parts}
use Rattle.ow_http.specs.Refused.{refusal_of}
use Rattle.ow_http.specs.Request.{parts_of}
use Rattle.ow_http.specs.declared.answer.Answer.{Answer}
use Rattle.ow_http.specs.declared.request.Request.{Request}
use Rattle.ow_http.specs.declared.route.Route.{Route}
use Rattle.ow_http.specs.declared.verb.Verb.{Verb}
use Rattle.ow_reads.specs.Acts.{act_of}
use Rattle.ow_reads.specs.Reading.{read_answer}
use Rattle.ow_reads.specs.View.{View}
use Rattle.ow_reads.specs.declared.acts.Act.TheVariants.{Reads}
use Rattle.ow_reads.specs.declared.acts.Reading.{Reading}
use Rattle.ow_reads.specs.declared.acts.Reading.TheVariants.{Namespaces, Rows, Row, Activations, Activation}
use Rattle.ow_tenant.specs.Table.{Table}
use Rattle.ow_decide.specs.Asking.{IsOfView, ReadsChangeNothing, at_once}
use Rattle.ow_decide.specs.Sight.{Sight}
use Rattle.ow_decide.specs.Reasons.{book_full}
use Rattle.ow_decide.specs.declared.events.Event.TheVariants as events
use Rattle.ow_decide.specs.declared.events.Told.{Told}
use Rattle.ow_decide.specs.declared.replies.Reply.{Reply}
use Rattle.ow_decide.specs.declared.replies.Reply.TheVariants as replies
use Rattle.ow_hall.specs.Comes.{HallView}
use Rattle.ow_hall.specs.History.{History, answer}
use Rattle.ow_isolation.specs.Lists.{AskAlike, Asks, LogsAnswerAlike, HallsAnswerAlike, IsRoomy, Question, Replied, answers_of, had_room, question_entry}
use Rattle.ow_isolation.specs.Reads.{IsRead, finds_full, read_reply, read_told, view_in}
use Rattle.ow_isolation.specs.Views.{view_after}
use Rattle.ow_isolation.proofs.ReadLaws.{answers_of_view, leaves_views}
use Rattle.ow_isolation.proofs.HallLaws.{leaves_halls, replies_of_view}

-- ---- requests that ask the same

abbrev parts_with : Route → Verb → List Pair → List ℕ → Parts
parts_with route method query body = record { route = route; method = method; key = None; query = query; raw_query = []; headers = []; body = body; size = 0; close = false }

-- a read's answer depends on these parts of a request
by_parts : (W : View) (reading : Reading) (r : Request) → read_answer W reading (parts_of r) ≡ read_answer W reading (parts_with r.route r.method r.query r.body)
by_parts W Namespaces r = refl
by_parts W (Rows kind) r = refl
by_parts W (Row kind) r = refl
by_parts W Activations r = refl
by_parts W (Activation part) r = refl

parts_alike : (r s : Request) → AskAlike r s → parts_with r.route r.method r.query r.body ≡ parts_with s.route s.method s.query s.body
parts_alike r s alike =
    ap (λ (x : Route). parts_with x r.method r.query r.body) alike.route
    ∙ (ap (λ (x : Verb). parts_with s.route x r.query r.body) alike.method
    ∙ (ap (λ (x : List Pair). parts_with s.route s.method x r.body) alike.query
    ∙ ap (λ (x : List ℕ). parts_with s.route s.method s.query x) alike.body))

answered_alike : (W : View) (reading : Reading) (r s : Request) → AskAlike r s → read_answer W reading (parts_of r) ≡ read_answer W reading (parts_of s)
answered_alike W reading r s alike = by_parts W reading r ∙ (ap (λ (p : Parts). read_answer W reading p) (parts_alike r s alike) ∙ sym (by_parts W reading s))

-- the other one is the same read
read_alike : (r s : Request) (reading : Reading) → AskAlike r s → IsRead r reading → IsRead s reading
read_alike r s reading alike reads =
    subst (λ (x : Verb). act_of s.route x ≡ Some (Reads reading)) alike.method (subst (λ (x : Route). act_of x r.method ≡ Some (Reads reading)) alike.route reads)

-- ---- after a book

roomy : (t : Told) (full : Bool) (W : View) (reading : Reading) (r : Request) → t ≡ read_told full W reading r → had_room t ≡ true → t ≡ at_once (read_answer W reading (parts_of r))
roomy t true W reading r is room = let none : false ≡ true = sym (ap had_room is) ∙ room in cc
roomy t false W reading r is room = is

shown_so : ((S : Sight) → IsOfView S) → (t : Table) (B : History) (at : ℕ) (r : Request) (reading : Reading) (key : Option (List ℕ)) (W : View) → IsRead r reading → r.key ≡ key → view_after t B key ≡ Some W
    → had_room (answer t B at (events.Asked r)) ≡ true → answer t B at (events.Asked r) ≡ at_once (read_answer W reading (parts_of r))
shown_so viewed t B at r reading key W reads keyed sees room =
    roomy (answer t B at (events.Asked r)) (finds_full B r) W reading r
    (answers_of_view viewed t B at r reading W reads (subst (λ (x : Option (List ℕ)). view_after t B x ≡ Some W) (sym keyed) sees)) room

still_sees : ReadsChangeNothing → (t : Table) (B : History) (q : Question) (reading : Reading) (key : Option (List ℕ)) (W : View) → IsRead q.request reading → view_after t B key ≡ Some W
    → view_after t (question_entry t B q ∷ B) key ≡ Some W
still_sees quiet t B q reading key W reads sees = leaves_views quiet t B (question_entry t B q) q.request reading key (refl, reads) ∙ sees

pub logs_alike : ((S : Sight) → IsOfView S) → ReadsChangeNothing → LogsAnswerAlike
logs_alike viewed quiet t u B C k j W [] [] sees other keyed keyeds alike room rooms = refl
logs_alike viewed quiet t u B C k j W [] (q ∷ qs) sees other keyed keyeds alike room rooms = absurd alike
logs_alike viewed quiet t u B C k j W (p ∷ ps) [] sees other keyed keyeds alike room rooms = absurd alike
logs_alike viewed quiet t u B C k j W (p ∷ ps) (q ∷ qs) sees other keyed keyeds alike room rooms =
    let reading = keyed.0.reading in
    let reads = keyed.0.reads in
    let same = read_alike p.request q.request reading alike.0 reads in
    let first = shown_so viewed t B p.at p.request reading k W reads keyed.0.keyed sees room.0
    ∙ (ap at_once (answered_alike W reading p.request q.request alike.0) ∙ sym (shown_so viewed u C q.at q.request reading j W same keyeds.0.keyed other rooms.0)) in
    let rest = logs_alike viewed quiet t u (question_entry t B p ∷ B) (question_entry u C q ∷ C) k j W ps qs (still_sees quiet t B p reading k W reads sees) (still_sees quiet u C q reading j W same other)
    keyed.1 keyeds.1 alike.1 room.1 rooms.1 in
    ap (λ (x : Told). x ∷ answers_of t (question_entry t B p ∷ B) ps) first ∙ ap (λ (xs : List Told). answer u C q.at (events.Asked q.request) ∷ xs) rest

-- ---- in a hall

replied_roomy : (reply : Reply) (full : Bool) (W : View) (reading : Reading) (r : Request) → reply ≡ read_reply full W reading r → reply ≢ replies.Now (refusal_of book_full)
    → reply ≡ replies.Now (read_answer W reading (parts_of r))
replied_roomy reply true W reading r is room = absurd (room is)
replied_roomy reply false W reading r is room = is

replies_shown : {P : Type 0} (f : P → Telling) (viewed : (S : Sight) → IsOfView S) (quiet : ReadsChangeNothing) (a b : HallView P) (q : Replied) (reading : Reading) (key : Option (List ℕ)) (W : View) → IsRead q.request reading → q.request.key ≡ key → view_in a key ≡ Some W
    → Asks f a b q → IsRoomy q → q.reply ≡ replies.Now (read_answer W reading (parts_of q.request))
replies_shown f viewed quiet a b q reading key W reads keyed sees asks room =
    replied_roomy q.reply (finds_full a.ledger.entries q.request) W reading q.request
    (replies_of_view f viewed quiet a b q.at q.request reading W (Ok q.reply) asks.0 reads (subst (λ (x : Option (List ℕ)). view_in a x ≡ Some W) (sym keyed) sees) asks.1 asks.2) room

sees_on : {P : Type 0} (f : P → Telling) (viewed : (S : Sight) → IsOfView S) (quiet : ReadsChangeNothing) (a b : HallView P) (q : Replied) (reading : Reading) (key : Option (List ℕ)) (W : View) → IsRead q.request reading → view_in a key ≡ Some W → Asks f a b q
    → view_in b key ≡ Some W
sees_on f viewed quiet a b q reading key W reads sees asks = (leaves_halls f viewed quiet a b q.at q.request reading asks.0 reads asks.2).views key ∙ sees

module _ {P Q : Type 0} (f : P → Telling) (g : Q → Telling) (viewed : (S : Sight) → IsOfView S) (quiet : ReadsChangeNothing) where
  pub halls_alike : HallsAnswerAlike f g
  halls_alike a b c d k j W [] [] sees other asks others keyed keyeds alike room rooms = refl
  halls_alike a b c d k j W [] (q ∷ qs) sees other asks others keyed keyeds alike room rooms = absurd alike
  halls_alike a b c d k j W (p ∷ ps) [] sees other asks others keyed keyeds alike room rooms = absurd alike
  halls_alike a b c d k j W (p ∷ ps) (q ∷ qs) sees other asks others keyed keyeds alike room rooms =
      let reading = keyed.0.reading in
      let reads = keyed.0.reads in
      let same = read_alike p.request q.request reading alike.0 reads in
      let first = replies_shown f viewed quiet a asks.0 p reading k W reads keyed.0.keyed sees asks.1 room.0
      ∙ (ap (λ (x : Answer). replies.Now x) (answered_alike W reading p.request q.request alike.0)
      ∙ sym (replies_shown g viewed quiet c others.0 q reading j W same keyeds.0.keyed other others.1 rooms.0)) in
      let rest = halls_alike asks.0 b others.0 d k j W ps qs (sees_on f viewed quiet a asks.0 p reading k W reads sees asks.1) (sees_on g viewed quiet c others.0 q reading j W same other others.1)
      asks.2 others.2 keyed.1 keyeds.1 alike.1 room.1 rooms.1 in
      ap (λ (x : Reply). x ∷ map (λ (e : Replied). e.reply) ps) first ∙ ap (λ (xs : List Reply). q.reply ∷ xs) rest
