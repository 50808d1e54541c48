use Rattle.std.proofs.Common.{◌≡◌, [], length, string_bytes}
use Rattle.kmip_ttlv_json.specs.declared.masks.TheConstants.{BITS}
use Rattle.kmip_ttlv_json.specs.Masks.{words_behind}
use Rattle.kmip_ttlv_json.proofs.masks.words_behind.Given as goal

abbrev pub invariant-bits : goal.invariant-bits
invariant-bits g l = words_behind l.tag l.separator l.mask [] BITS ≡ words_behind l.tag l.separator l.mask (string_bytes l.text) l.rest

abbrev pub decreases-bits : goal.decreases-bits
decreases-bits g l = length l.rest
