use Rattle.std.proofs.Common.{◌≡◌, false, not, Err, refl}
use Rattle.std.specs.List.{list_all}
use Rattle.std.specs.Str.{is_utf8}
use Rattle.std.proofs.Math.Bool.{or-true}
use Rattle.ow_http.specs.declared.http_refusal.HttpRefusal.TheVariants.{BadHead}
use Rattle.ow_http.specs.Headers.{is_text}
use Rattle.ow_http.specs.Judged.{Asked, judged}
use Rattle.ow_http.proofs.read.read_asked.Goals as goal

no_target : (a : Asked) → is_utf8 a.target ≡ false → judged a ≡ Err BadHead
unfolding judged
no_target a e = rw (e, or-true (not (list_all is_text a.fields))) refl

no_text : (a : Asked) → list_all is_text a.fields ≡ false → judged a ≡ Err BadHead
unfolding judged
no_text a e = rw e refl

pub returns-in-None : goal.returns-in-None
returns-in-None c = λ h at other. no_target _ (rw (← at.path, ← c.of.ensures) (rw c.in-None.is at c.text_of.ensures))

pub returns-in-None-2 : goal.returns-in-None-2
returns-in-None-2 c = λ h at other. no_text _ (rw (← at.fields) (rw c.in-None-2.is at c.in_ok-fields.ensures))
