use Rattle.kmip_ttlv_de.proofs.{BySize.by_size, Exact.exact, Stopping.ends_fresh, Leaving.leaves_fresh}
use Rattle.kmip_ttlv_de.proofs.stream.from_reader.Goals as goal

pub returns-in-Reused-clause-limit : goal.returns-in-Reused-clause-limit
returns-in-Reused-clause-limit g c = by_size _ _ _ _ _ _ _ c.read_message.result c.read_message.ensures.ends

pub returns-in-Reused-clause-exact : goal.returns-in-Reused-clause-exact
returns-in-Reused-clause-exact g c = exact _ _ _ _ _ _ _ c.read_message.ensures.ends

pub returns-in-Fresh-clause-ends : goal.returns-in-Fresh-clause-ends
returns-in-Fresh-clause-ends g c =
    rw (c.in-Fresh.is) (ends_fresh _ _ _ _ _ _ c.read_message-in-Fresh.result c.read_message-in-Fresh.ensures.ends)

pub returns-in-Fresh-clause-limit : goal.returns-in-Fresh-clause-limit
returns-in-Fresh-clause-limit g c = by_size _ _ _ _ _ _ _ c.read_message-in-Fresh.result c.read_message-in-Fresh.ensures.ends

pub returns-in-Fresh-clause-exact : goal.returns-in-Fresh-clause-exact
returns-in-Fresh-clause-exact g c = rw (c.in-Fresh.is) (exact _ _ _ _ _ _ _
    (ends_fresh _ _ _ _ _ _ c.read_message-in-Fresh.result c.read_message-in-Fresh.ensures.ends))

pub returns-in-Fresh-clause-between : goal.returns-in-Fresh-clause-between
returns-in-Fresh-clause-between g c =
    rw (c.in-Fresh.is) (leaves_fresh _ _ _ _ _ _ c.read_message-in-Fresh.result c.read_message-in-Fresh.ensures.between)
