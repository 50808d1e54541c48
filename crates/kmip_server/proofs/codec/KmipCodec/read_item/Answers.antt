use Rattle.kmip_server.proofs.codec.KmipCodec.read_item.Goals as goal

pub returns : goal.returns
returns g c = record { taken = c.replace.result; is = c.replace.ensures.value; reads = c.item_of.ensures }
