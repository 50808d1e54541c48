-- One turn of a conversation.
use Rattle.std.specs.Prelude.{Result, Ok, Err}
use Rattle.kmip_ttlv_base.specs.declared.error.Error.{Error}
use Rattle.kmip_client.specs.declared.turn.Broken.{Broken}
use Rattle.kmip_client.specs.declared.turn.Broken.TheVariants as broken

-- what a turn returns, by how sending and taking end, and that nothing is taken: first the one message is sent, then the other is taken
abbrev pub Turns : {T A : Type 0} → (Result (Unit {0}) (Error A) → Type 0) → (Result T (Error A) → Type 0) → Type 0 → Result T (Broken A) → Type 0
Turns Sends Takes TakesNothing (Ok x) = Sends (Ok tt) × Takes (Ok x)
Turns Sends Takes TakesNothing (Err (broken.Sending e)) = Sends (Err e) × TakesNothing
Turns Sends Takes TakesNothing (Err (broken.Receiving e)) = Sends (Ok tt) × Takes (Err e)
