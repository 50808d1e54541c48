use Rattle.std.proofs.Common.{◌≡◌, drop}
use Rattle.kmip_ttlv_base.specs.Forms.{variants_of}
use Rattle.kmip_ttlv_reader.specs.Rules.{choice, past}
use Rattle.kmip_ttlv_de.proofs.variant.choose.Given as goal

abbrev pub invariant-loop-i : goal.invariant-loop-i
invariant-loop-i g l = choice (variants_of l.variants) l.stored l.typ ≡ past l.i (choice (variants_of (drop l.i l.variants)) l.stored l.typ)
