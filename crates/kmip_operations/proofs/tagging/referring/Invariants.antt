-- The texts so far are those of the names so far.
use Rattle.std.proofs.Common.{◌≡◌, map, string_bytes, take}
use Rattle.kmip_operations.proofs.tagging.referring.Given as goal

abbrev pub invariant-loop-name : goal.invariant-loop-name
invariant-loop-name g l = map (λ text. text.now) l.texts.items ≡ map string_bytes (take l.name-index l.names)
