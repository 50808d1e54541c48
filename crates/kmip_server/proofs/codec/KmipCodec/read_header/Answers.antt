use Rattle.kmip_server.proofs.codec.KmipCodec.read_header.Goals as goal

pub returns : goal.returns
returns g c = record { taken = c.replace.result; is = c.replace.ensures.value; reads = c.header_of.ensures }
