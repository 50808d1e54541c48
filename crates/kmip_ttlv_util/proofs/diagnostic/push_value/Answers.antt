use Rattle.std.proofs.Common.{ap, sym}
use Rattle.kmip_ttlv_util.specs.Outlines.{value_text}
use Rattle.kmip_ttlv_util.proofs.Saying.{adds_same}
use Rattle.kmip_ttlv_util.proofs.diagnostic.push_value.Goals as goal

pub returns-in-Some : goal.returns-in-Some
returns-in-Some g c =
    record { ok = rw (← ap value_text (sym c.in-Some.is)) c.push_number.ensures.ok; err = rw (← ap value_text (sym c.in-Some.is)) c.push_number.ensures.err }

pub returns-in-None-clause-ok : goal.returns-in-None-clause-ok
returns-in-None-clause-ok g c =
    adds_same g.S.TextSink.adds g.S.TextSink.breaks _ _ _ _ (g.met.S.TextSink.adds_none c.args.out.now) (ap value_text (sym c.in-None.is))
