use Rattle.std.proofs.Common.{inl, inr}
use Rattle.kmip_client.proofs.calls.with_tagged.Goals as goal

pub returns-in-Err : goal.returns-in-Err
returns-in-Err g c = inr c.in-Err.ensures

pub returns-in-Err-append : goal.returns-in-Err-append
returns-in-Err-append g c = inl c.from.ensures
