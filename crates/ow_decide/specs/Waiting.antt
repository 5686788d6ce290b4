-- Who waits for the end of an activation, and what is answered of it.
use Rattle.std.specs.Prelude.{◌==◌, ℕ, List, [], ◌∷◌, codes, Bool, true, false, if◌then◌else◌, Option, Some, None}
use Rattle.ow_value.specs.Value.{V, object, member, members_of, no_members, text}
use Rattle.ow_value.specs.Text.{compact}
use Rattle.ow_records.specs.Id.{id_text, same_id}
use Rattle.ow_records.specs.Written.{record_value}
use Rattle.ow_records.specs.declared.ids.Id.{Id}
use Rattle.ow_records.specs.declared.record.Record.{Record}
use Rattle.std.specs.Option.{option_or}
use Rattle.ow_floor.specs.Collecting.{Collection, Unknown, Recorded, NotYet, Elapsed}
use Rattle.ow_http.specs.declared.answer.Answer.{Answer}
use Rattle.ow_web.specs.WebOut.{sent_answer}
use Rattle.ow_decide.specs.declared.replies.HallCollected.{HallCollected}
use Rattle.ow_decide.specs.declared.replies.HallCollected.TheVariants as collected
use Rattle.ow_decide.specs.declared.replies.Reply.{Reply}
use Rattle.ow_decide.specs.declared.replies.Reply.TheVariants.{Now, Waiting}
use Rattle.ow_decide.specs.declared.waits.Shows.{Shows}
use Rattle.ow_decide.specs.declared.waits.Shows.TheVariants.{Whole, ResultAlone, Web}
use Rattle.ow_decide.specs.declared.waits.Wait.{Wait}
use Rattle.ow_decide.specs.declared.waits.Waits.{Waits}
use Rattle.ow_decide.specs.declared.waits.Waits.TheVariants.{Keep, Add}

-- `{"activationId":ID}`
abbrev pub id_value : Id → V
id_value id = object (member (codes "activationId") (text (id_text id)) no_members)

-- the answer that the activation was accepted
abbrev pub accepted_answer : Id → Answer
accepted_answer id = record { status = 202; headers = []; body = compact (id_value id) }

-- an invocation that waits up to a moment is answered later
abbrev pub invoked_reply : Id → Option ℕ → Reply
invoked_reply id None = Now (accepted_answer id)
invoked_reply id (Some until) = Waiting id until

-- a request that waits is shown the result alone, or the record
abbrev pub shows_of : Bool → Shows
shows_of true = ResultAlone
shows_of false = Whole

-- one more request waits, where it has a moment until which it waits
abbrev pub waits_of : Id → Shows → Option ℕ → Waits
waits_of id shows None = Keep
waits_of id shows (Some until) = Add (record { id = id; shows = shows })

-- ---- once it has ended

-- success, or an error of whatever kind
abbrev pub ended_status : ℕ → ℕ
ended_status code = if code == 0 then 200 else 502

-- the answer that shows a value of an activation that ended with a code
abbrev pub shown_answer : ℕ → V → Answer
shown_answer code value = record { status = ended_status code; headers = []; body = compact value }

-- the answer to a request that waited for this record
abbrev pub ended_answer : Shows → Record → Answer
ended_answer Whole r = shown_answer r.response.code (record_value r)
ended_answer ResultAlone r = shown_answer r.response.code (object (members_of r.response.result))
ended_answer (Web extension) r = sent_answer extension r.response

-- what the request that waits for the activation is shown: the newest where there are several
abbrev pub wait_shows : Id → List Wait → Option Shows
wait_shows id [] = None
wait_shows id (w ∷ ws) = option_or (wait_shows id ws) (if same_id w.id id then Some w.shows else None)

abbrev pub or_whole : Option Shows → Shows
or_whole None = Whole
or_whole (Some shows) = shows

abbrev pub shows_for : List Wait → Id → Shows
shows_for ws id = or_whole (wait_shows id ws)

-- the answer to the collection of an activation: no blocking request accepted it, its end, that the end isn't there yet, or that the
-- activation was accepted, once nobody waits any more
abbrev pub collected_told : Id → Shows → Collection → HallCollected
collected_told id shows Unknown = collected.Unknown
collected_told id shows (Recorded r) = collected.Reply (ended_answer shows r)
collected_told id shows NotYet = collected.NotYet
collected_told id shows Elapsed = collected.Reply (accepted_answer id)
