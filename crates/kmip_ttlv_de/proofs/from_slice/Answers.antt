use Rattle.std.proofs.Common.{arith}
use Rattle.kmip_ttlv_reader.proofs.ResultLemmas.{result_found, result_stands, result_whole}
use Rattle.kmip_ttlv_de.proofs.from_slice.Goals as goal

pub returns-clause-found : goal.returns-clause-found
returns-clause-found g c = result_found g.T.Decode.form c.args.bytes.now g.T.Decode.is_value c.decode.result (λ i. omega (arith, c.type_inv.bytes i))
    c.decode.ensures.equals

pub returns-clause-refused : goal.returns-clause-refused
returns-clause-refused g c = result_stands g.T.Decode.form c.args.bytes.now g.T.Decode.is_value c.decode.result c.decode.ensures.equals

pub returns-clause-whole : goal.returns-clause-whole
returns-clause-whole g c = result_whole g.T.Decode.form c.args.bytes.now g.T.Decode.is_value c.decode.result c.decode.ensures.equals
