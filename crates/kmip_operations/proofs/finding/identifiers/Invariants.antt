-- The objects so far are named.
use Rattle.std.proofs.Common.{◌≡◌, ◌+◌, map, string_bytes, take}
use Rattle.std.specs.Fmt.{decimal}
use Rattle.kmip_operations.proofs.finding.identifiers.Given as goal

abbrev pub invariant-loop-id : goal.invariant-loop-id
invariant-loop-id g l = map string_bytes l.names.items ≡ map (λ id. decimal (id + 1)) (take l.id-index l.ids)
