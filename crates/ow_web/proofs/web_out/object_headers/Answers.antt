use Rattle.std.proofs.Common.{◌≡◌, ◌≢◌, ◌∙◌, Some, None, MatchResult, subst, sym}
use Rattle.ow_value.specs.Field.{pairs_in-members_of}
use Rattle.ow_value.specs.Value.{Pairs}
use Rattle.ow_web.specs.declared.refusal.WebRefusal.TheVariants.{BadWebResult, NoMemory}
use Rattle.ow_web.specs.WebOut.{headers_in}
use Rattle.ow_web.proofs.web_out.object_headers.Goals as goal

pub returns : goal.returns
returns c =
    let P : Pairs → Type 0 = λ ps. MatchResult c.headers_in.result (λ hs. headers_in ps ≡ Some hs.items) (λ e. e ≢ NoMemory → (e ≡ BadWebResult) × (headers_in ps ≡ None)) in
    subst P (c.pairs.ensures.value ∙ sym (pairs_in-members_of c.args.members.now)) c.headers_in.ensures
