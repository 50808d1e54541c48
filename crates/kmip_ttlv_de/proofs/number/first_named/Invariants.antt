use Rattle.std.proofs.Common.{◌≡◌, drop}
use Rattle.kmip_ttlv_base.specs.Forms.{variants_of}
use Rattle.kmip_ttlv_reader.specs.Reads.{first_named}
use Rattle.kmip_ttlv_de.proofs.number.first_named.Given as goal

abbrev pub invariant-loop-variant : goal.invariant-loop-variant
invariant-loop-variant g l = first_named l.name (variants_of l.variants) ≡ first_named l.name (variants_of (drop l.variant-index l.variants))
