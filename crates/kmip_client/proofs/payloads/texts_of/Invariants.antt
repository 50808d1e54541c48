-- The texts so far are copied.
use Rattle.std.proofs.Common.{◌≡◌, map, string_bytes, take}
use Rattle.kmip_client.proofs.payloads.texts_of.Given as goal

abbrev pub invariant-loop-text : goal.invariant-loop-text
invariant-loop-text g l = map (λ s. string_bytes s) l.all.items ≡ map (λ t. t.now) (take l.text-index l.texts)
