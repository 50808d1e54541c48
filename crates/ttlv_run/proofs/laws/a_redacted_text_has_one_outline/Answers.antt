use Rattle.std.proofs.Common.{◌∙◌, refl, sym}
use Rattle.ttlv_run.specs.Texts.{no_reach}
use Rattle.ttlv_run.proofs.Redacting.{lines_same}
use Rattle.ttlv_run.proofs.laws.a_redacted_text_has_one_outline.Goals as goal

pub returns : goal.returns
returns c = record {
  lines = λ names width colored at other a b t u p q e. p.is
      ∙ lines_same names width colored no_reach no_reach at other a b p.found q.found refl refl e ∙ sym q.is;
  nothing = λ names strict at bytes t fault h. h.is;
  fault = λ strict other p q e k. rw (e, k) refl;
}
