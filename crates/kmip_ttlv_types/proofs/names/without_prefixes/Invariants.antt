use Rattle.std.proofs.Common.{◌≡◌, length}
use denote.Shadow.{shadow}
use denote.Text.{Utf8}
use Rattle.kmip_ttlv_types.specs.Names.{without_0x}
use Rattle.kmip_ttlv_types.proofs.names.without_prefixes.Given as goal

abbrev pub decreases-loop-shorter : goal.decreases-loop-shorter
decreases-loop-shorter l = length l.rest

abbrev pub invariant-loop-shorter : goal.invariant-loop-shorter
invariant-loop-shorter l = shadow (Utf8 l.rest) × (without_0x l.rest ≡ without_0x l.fn.text)
