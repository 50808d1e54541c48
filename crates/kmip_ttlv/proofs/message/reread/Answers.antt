use Rattle.std.proofs.Common.{sym, subst}
use Rattle.kmip_ttlv_ser.specs.EncodeResults.{IsWrittenAs}
use Rattle.kmip_ttlv.proofs.Rereads.{if_decoded, if_decoding_fails, gives_back}
use Rattle.kmip_ttlv.proofs.message.reread.Goals as goal

pub returns-clause-equal : goal.returns-clause-equal
returns-clause-equal g c is =
    let w = subst (IsWrittenAs (g.T.Serialize.stated c.args.message.now) 0) (sym c.as_slice.ensures.value) c.in_ok-bytes.ensures in
    if_decoded c.from_slice.result (λ y v b of. c.comes_back.ensures.equal c.args.message.now y c.as_slice.result.now v is w b of) c.from_slice.ensures.found

pub returns-clause-why : goal.returns-clause-why
returns-clause-why g c is =
    let w = subst (IsWrittenAs (g.T.Serialize.stated c.args.message.now) 0) (sym c.as_slice.ensures.value) c.in_ok-bytes.ensures in
    if_decoding_fails (g.T.Serialize.stated c.args.message.now) _ c.from_slice.result
    (c.comes_back.ensures.begins c.args.message.now c.as_slice.result.now is w) c.from_slice.ensures.refused
    c.from_slice.ensures.equals

pub returns-clause-any : goal.returns-clause-any
returns-clause-any g c = gives_back c.from_slice.result record {
  bytes = c.as_slice.result.now;
  written = subst (IsWrittenAs (g.T.Serialize.stated c.args.message.now) 0) (sym c.as_slice.ensures.value) c.in_ok-bytes.ensures;
  equals = c.from_slice.ensures.equals;
  found = c.from_slice.ensures.found;
  refused = c.from_slice.ensures.refused;
}
